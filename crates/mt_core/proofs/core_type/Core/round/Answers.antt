use Rattle.std.proofs.Common.{◌≡◌, ◌<◌, sym, subst, None}
use Rattle.std.specs.Prelude.{IsSome}
use Rattle.mt_machine.specs.Machine.{Machine}
use Rattle.mt_core.specs.Rounds.{Rounds, again, ended}
use Rattle.mt_core.proofs.Progress.{IsDecided, each_decided, each_falls, none_where_not}
use Rattle.mt_core.proofs.Turns.{rounds_whole}
use Rattle.mt_core.proofs.Work.{work_of}
use Rattle.mt_core.proofs.core_type.Core.round.Goals as goal

pub loop-self-smaller : goal.loop-self-smaller
loop-self-smaller c =
    let under_way : IsSome c.loop-self.self.order = c.is_under_way.ensures.value.0 c.loop-self-test.true in
    subst (λ (m : Machine). work_of m < work_of c.loop-self.self) (sym c.turn.ensures)
    (each_falls c.loop-self.self c.is_under_way.ensures.core.arises under_way c.loop-self.invariant.1)

pub loop-self-preserved : goal.loop-self-preserved
loop-self-preserved c =
    let under_way : IsSome c.loop-self.self.order = c.is_under_way.ensures.value.0 c.loop-self-test.true in (
      λ n rounds. c.loop-self.invariant.0 n (again under_way (subst (λ (m : Machine). Rounds m n) c.turn.ensures rounds)),
      subst IsDecided (sym c.turn.ensures) (each_decided c.loop-self.self c.loop-self.invariant.1),
    )

pub returns-clause-turns : goal.returns-clause-turns
returns-clause-turns c =
    let none : c.loop-self.self.order ≡ None = none_where_not c.loop-self.self.order c.is_under_way.result c.is_under_way.ensures.value c.loop-self-test.false in
    c.loop-self.invariant.0 c.loop-self.self (ended none)

pub returns-clause-updated : goal.returns-clause-updated
returns-clause-updated c =
    let none : c.loop-self.self.order ≡ None = none_where_not c.loop-self.self.order c.is_under_way.result c.is_under_way.ensures.value c.loop-self-test.false in
    rounds_whole c.args.self.now c.loop-self.self (c.loop-self.invariant.0 c.loop-self.self (ended none))
