use Rattle.std.proofs.Common.{◌≤◌, ◌∙◌, ap, sym, subst, ℕ, List, ◌++◌, length, Some, inl, inr}
use Rattle.std.specs.Prelude.{vec_capacity}
use Rattle.mt_machine.specs.declared.op.Op.{Op}
use Rattle.mt_machine.specs.System.{Processor, System}
use Rattle.mt_machine.specs.Machine.{Machine}
use Rattle.mt_private.specs.declared.job.Part.TheVariants.{After, Before}
use Rattle.mt_private.specs.OneByOne.{ran}
use Rattle.mt_private.specs.YardCalls.{IsLeft, updated_own}
use Rattle.mt_private.proofs.Alone.{left_runs}
use Rattle.mt_private.proofs.caller.visits.visit_with.Goals as goal

pub access_all-requires-clause-outside : goal.access_all-requires-clause-outside
access_all-requires-clause-outside g c = inl c.requires.ready

pub access_all-requires-clause-empty : goal.access_all-requires-clause-empty
access_all-requires-clause-empty g c = (c.requires.open Before).0

pub access_all-requires-clause-room : goal.access_all-requires-clause-room
access_all-requires-clause-room g c = subst (λ (xs : List Op). length xs ≤ vec_capacity c.args.told.now.before) (sym c.as_slice.ensures.value) (c.requires.open Before).1

pub go_through-requires-clause-ready : goal.go_through-requires-clause-ready
go_through-requires-clause-ready g c κs within = c.access_all.ensures.not_taken c.requires.ready

pub access_all-requires-in-Complete-clause-outside : goal.access_all-requires-in-Complete-clause-outside
access_all-requires-in-Complete-clause-outside g c = inr (c.go_through.ensures.released c.in-Complete.is)

pub access_all-requires-in-Complete-clause-empty : goal.access_all-requires-in-Complete-clause-empty
access_all-requires-in-Complete-clause-empty g c = (c.requires.open After).0

pub access_all-requires-in-Complete-clause-room : goal.access_all-requires-in-Complete-clause-room
access_all-requires-in-Complete-clause-room g c =
    subst (λ (xs : List Op). length xs ≤ vec_capacity c.args.told.now.after) (sym c.as_slice-in-Complete.ensures.value) (c.requires.open After).1

pub returns-in-Cancelled-clause-ends : goal.returns-in-Cancelled-clause-ends
returns-in-Cancelled-clause-ends g c =
    let e = c.go_through.ensures.left c.in-Cancelled.is in
    let a = c.access_all.ensures in
    let before = c.as_slice.ensures.value in
    let s : System = c.args.core.now.system in
    let first = ap (λ (m : Machine). m.system) a.after ∙ ap (λ (xs : List Op). (ran 0 xs s).after) before in (
      e.lodges,
      e.cancel,
      subst (λ (z : System). IsLeft z c.go_through.new.core.system) first e.left,
      a.answers ∙ ap (λ (xs : List Op). (ran 0 xs s).answers) before,
      (c.requires.open After).0,
      c.go_through.ensures.done ∙ a.done ∙ (λ i. c.requires.new i ++ before i),
    )

pub returns-in-Complete-clause-ends : goal.returns-in-Complete-clause-ends
returns-in-Complete-clause-ends g c =
    let all = c.go_through.ensures.whole c.in-Complete.is in
    let a = c.access_all.ensures in
    let b = c.access_all-in-Complete.ensures in
    let e = b.released (c.go_through.ensures.released c.in-Complete.is) in
    let before = c.as_slice.ensures.value in
    let after = c.as_slice-in-Complete.ensures.value in
    let s : System = c.args.core.now.system in
    let first = ap (λ (m : Machine). m.system) a.after ∙ ap (λ (xs : List Op). (ran 0 xs s).after) before in
    let whole = ap (λ (m : Machine). m.system) all ∙ (λ i. updated_own (c.requires.goal i) (first i)) in (
      e.lodges,
      e.shown ∙ ap (λ (n : ℕ). Some n) (sym c.args.yard.now.counted),
      ap (λ (m : Machine). m.system) b.after ∙ (λ i. (ran 0 (after i) (whole i)).after),
      a.answers ∙ ap (λ (xs : List Op). (ran 0 xs s).answers) before,
      b.answers ∙ (λ i. (ran 0 (after i) (whole i)).answers),
      b.done ∙ (λ i. (c.go_through.ensures.done ∙ a.done ∙ (λ j. c.requires.new j ++ before j)) i ++ after i),
    )

pub returns-in-Complete-clause-runs : goal.returns-in-Complete-clause-runs
returns-in-Complete-clause-runs g c = (c.access_all-in-Complete.ensures.released (c.go_through.ensures.released c.in-Complete.is)).runs

pub returns-in-Cancelled-clause-runs : goal.returns-in-Cancelled-clause-runs
returns-in-Cancelled-clause-runs g c =
    let e = c.go_through.ensures.left c.in-Cancelled.is in
    left_runs c.access_all.new.core.system c.go_through.new.core.system (ap (λ (ps : List Processor). length ps) e.lodges.1.alone) (c.access_all.ensures.not_taken c.requires.ready).runs e.left

pub returns-in-Cancelled-clause-has_room : goal.returns-in-Cancelled-clause-has_room
returns-in-Cancelled-clause-has_room g c = λ _. c.requires.open After
