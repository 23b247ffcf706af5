use Rattle.std.proofs.Common.{◌≡◌, ◌++◌, ◌∙◌, Some, None, Err, [], false, length, sym, ap, rules, arith, length-append}
use Rattle.std.proofs.KnownBytes.{Consumes-nil, Consumes-trans}
use Rattle.std.proofs.lemmas.Bool.Decides.{nat_tests}
use Rattle.std.proofs.lemmas.Result.{err_from_is_err_and}
use Rattle.mt_text.specs.Feed.{known_front}
use Rattle.mt_text.proofs.Feeding.{lends_known, lends_last, stops, stops_at_once}
use Rattle.mt_text.proofs.feed.Feed.advance.Goals as goal

pub returns-in-Some-clause-bytes : goal.returns-in-Some-clause-bytes
returns-in-Some-clause-bytes g c =
    let is : c.args.self.now.fault ≡ Some c.in-Some.fault = sym (ap (λ f. f.fault) c.self.view_is) ∙ c.in-Some.is in
    ([], Consumes-nil _, omega arith, stops_at_once c.args.self.now c.in-Some.fault is)

pub returns-in-Some-known_front-clause-bytes : goal.returns-in-Some-known_front-clause-bytes
returns-in-Some-known_front-clause-bytes g c =
    let i = c.pieces.invariant in
    let took = i.took in
    let none : c.args.self.now.fault ≡ None = sym (ap (λ f. f.fault) c.self.view_is) ∙ c.in_default.is in
    let pending_is = c.pending.ensures.value ∙ ap (λ f. f.pending) c.self-in-pieces.view_is in
    let known = ap known_front (sym pending_is) ∙ sym c.known_front.ensures ∙ c.in-Some-known_front.is in
    (took.0, took.1, took.2, lends_known c.args.self.now c.pieces.self c.pass.new.self took.0 _ _ took.3 i.offset i.place none i.fault known c.pass.ensures)

pub returns-in_err-fill-clause-bytes : goal.returns-in_err-fill-clause-bytes
returns-in_err-fill-clause-bytes g c =
    let p = err_from_is_err_and c.from_residual.result c.from_residual.ensures.1 in
    let i = c.pieces.invariant in
    let took = i.took in
    let more = c.in_err-fill.ensures.bytes in
    let parts = more.3 in
    let pending_is = c.pending.ensures.value ∙ ap (λ f. f.pending) c.self-in-pieces.view_is in
    let unknown = ap known_front (sym pending_is) ∙ sym c.known_front.ensures ∙ c.in_default-known_front.is in
    rw p.1 (
      took.0 ++ more.0,
      Consumes-trans _ _ _ took.0 more.0 took.1 more.1,
      omega (arith, took.2, more.2, length-append took.0 more.0),
      stops c.args.self.now c.pieces.self c.fill.new.self took.0 more.0 _ took.3 i.offset i.place parts.0 parts.1 parts.2 (parts.3 ∙ ap Some (sym p.2)) unknown (λ read. (c.in_err-fill.ensures.failed (ap Err (sym p.2 ∙ read))).1),
    )

pub returns-in_err-fill-clause-failed : goal.returns-in_err-fill-clause-failed
returns-in_err-fill-clause-failed g c =
    let p = err_from_is_err_and c.from_residual.result c.from_residual.ensures.1 in
    λ is none.
    let failed = c.in_err-fill.ensures.failed (rw (p.1, p.2) at is) in
    rw c.pieces.invariant.stood at failed.0

pub returns-then-not-branch-clause-bytes : goal.returns-then-not-branch-clause-bytes
returns-then-not-branch-clause-bytes g c =
    let i = c.pieces.invariant in
    let took = i.took in
    let more = c.in_ok-fill.ensures.bytes in
    let parts = more.3 in
    let filled = parts.3 in
    let none : c.args.self.now.fault ≡ None = sym (ap (λ f. f.fault) c.self.view_is) ∙ c.in_default.is in
    let pending_is = c.pending.ensures.value ∙ ap (λ f. f.pending) c.self-in-pieces.view_is in
    let unknown = ap known_front (sym pending_is) ∙ sym c.known_front.ensures ∙ c.in_default-known_front.is in
    let over : c.in_ok-fill.field-0 ≡ false = search rules in
    let empty : length more.0 ≡ 0 = grind (arith, nat_tests, filled.1, over) in
    let last_is = c.pending-count.ensures.value ∙ ap (λ f. f.pending) c.self-then-not-branch.view_is in
    let moved = rw last_is at c.pass-then-not-branch.ensures in
    let lends = lends_last c.args.self.now c.pieces.self c.fill.new.self c.pass-then-not-branch.new.self took.0 more.0 _ took.3 i.offset i.place none unknown parts.0 parts.1 parts.2 filled.0 empty (filled.2 over) moved in (
      took.0 ++ more.0,
      Consumes-trans _ _ _ took.0 more.0 took.1 more.1,
      omega (arith, took.2, more.2, length-append took.0 more.0),
      rw last_is lends,
    )
