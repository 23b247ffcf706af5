use Rattle.std.proofs.Common.{sym, subst}
use Rattle.std.specs.List.{All}
use Rattle.mt_regs.specs.RegisterFile.{RegisterFile}
use Rattle.mt_regs.specs.Faults.{IsAccepted}
use Rattle.mt_machine.specs.Machine.{FitsGoal, Machine}
use Rattle.mt_machine.specs.Start.{HasEraRoom}
use Rattle.mt_core.proofs.Progress.{none_where_not}
use Rattle.mt_core.proofs.Settling.{is_quiet_without_order}
use Rattle.mt_admit.proofs.Calling.{goal_accepted, goal_fits, room_for_all}
use Rattle.mt_admit.proofs.admission.up.Goals as goal

pub call_accepted-requires-clause-accepted : goal.call_accepted-requires-clause-accepted
call_accepted-requires-clause-accepted c =
    let m : Machine = c.args.core.now in
    let none = none_where_not m.order c.is_under_way.result c.is_under_way.ensures c.if-is_under_way.false in
    let quiet = is_quiet_without_order m c.count.ensures.core.arises none in
    subst IsAccepted (sym c.first_file-goal.ensures) (goal_accepted m quiet c.requires.some)

pub call_accepted-requires-clause-fits : goal.call_accepted-requires-clause-fits
call_accepted-requires-clause-fits c =
    let m : Machine = c.args.core.now in
    let none = none_where_not m.order c.is_under_way.result c.is_under_way.ensures c.if-is_under_way.false in
    let quiet = is_quiet_without_order m c.count.ensures.core.arises none in
    subst (λ (v : RegisterFile × Machine). All (FitsGoal v.0) v.1.system.processors) (λ i. (sym c.first_file-goal.ensures i, sym c.in-Ok.ensures.come i))
    (goal_fits m quiet c.requires.some)

pub call_accepted-requires-clause-room : goal.call_accepted-requires-clause-room
call_accepted-requires-clause-room c =
    let m : Machine = c.args.core.now in
    let none = none_where_not m.order c.is_under_way.result c.is_under_way.ensures c.if-is_under_way.false in
    let quiet = is_quiet_without_order m c.count.ensures.core.arises none in
    subst HasEraRoom (sym c.in-Ok.ensures.come) (room_for_all m quiet c.requires.some c.requires.room)
