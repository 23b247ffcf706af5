use Rattle.std.proofs.Common.{rules, ◌≡◌, ◌∙◌, None, sym, ap}
use Rattle.mt_text.specs.Feed.{known_front}
use Rattle.mt_text.proofs.feed.Feed.advance_pending.Goals as goal

pub returns-in-Some-clause-moves : goal.returns-in-Some-clause-moves
returns-in-Some-clause-moves c =
    let none : c.args.self.now.fault ≡ None = search rules in
    let pending_is = c.pending.ensures.value ∙ ap (λ f. f.pending) c.self.view_is in
    let known = ap known_front (sym pending_is) ∙ sym c.known_front.ensures ∙ c.in-Some.is in
    ((c.in-Some.count, c.in-Some.ended), known, none, c.pass.ensures)
