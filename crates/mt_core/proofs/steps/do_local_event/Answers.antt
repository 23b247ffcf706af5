use Rattle.std.proofs.Common.{◌≡◌, sym, subst}
use Rattle.mt_regs.specs.Faults.{IsAccepted}
use Rattle.mt_types.specs.Tables.{IsTableOf}
use Rattle.mt_cpu.specs.Steps.{HasWritten}
use Rattle.mt_machine.specs.Machine.{FitsGoal, Order, step}
use Rattle.mt_bus.specs.Steps.{KeepsSystem}
use Rattle.mt_core.proofs.Stepping.{fits_at, goal_accepted, written_at}
use Rattle.mt_core.proofs.Tables.{kept_local}
use Rattle.mt_core.proofs.steps.do_local_event.Goals as goal

pub do_local-requires-clause-accepted : goal.do_local-requires-clause-accepted
do_local-requires-clause-accepted c = subst (λ (o : Order). IsAccepted o.goal) (sym c.order.view_is) (goal_accepted c.args.order.now c.args.system.now c.requires.core)

pub do_local-requires-clause-between : goal.do_local-requires-clause-between
do_local-requires-clause-between c p at = record {
  phase = c.requires.phase p at;
  fits = subst (λ (o : Order). FitsGoal o.goal p) (sym c.order.view_is) (fits_at c.args.order.now c.args.system.now c.requires.core c.args.k p at);
  written = subst (λ (o : Order). HasWritten o.goal p) (sym c.order.view_is) (written_at c.args.order.now c.args.system.now c.requires.core c.args.k p at);
}

pub do_local-requires-clause-keeps : goal.do_local-requires-clause-keeps
do_local-requires-clause-keeps c e is_due =
    subst (λ (o : Order). KeepsSystem o.goal e c.args.k c.args.system.now c.order.inside.kinds) (sym c.order.view_is)
    (kept_local c.args.order.now c.args.system.now c.requires.core c.args.k e (is_due c.args.order.now) c.order.inside.kinds
    (subst (λ (o : Order). IsTableOf o.goal c.order.inside.kinds) c.order.view_is c.order.invariant))

pub returns-clause-event : goal.returns-clause-event
returns-clause-event c = c.do_local.ensures.event c.args.order.now

pub returns-clause-step : goal.returns-clause-step
returns-clause-step c = subst (λ (o : Order). c.do_local.new.self ≡ step o.goal c.do_local.result c.args.k c.args.system.now) c.order.view_is c.do_local.ensures.step
