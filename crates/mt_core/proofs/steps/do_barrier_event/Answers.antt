use Rattle.std.proofs.Common.{[]}
use Rattle.mt_types.specs.Tables.{TypeTable}
use Rattle.mt_core.proofs.Stepping.{prepared}
use Rattle.mt_core.proofs.Tables.{kept_shifted}
use Rattle.mt_core.proofs.steps.do_barrier_event.Goals as goal

pub do_shift-requires-clause-ready : goal.do_shift-requires-clause-ready
do_shift-requires-clause-ready c = prepared c.args.order.now c.args.system.now c.requires.core c.args.k c.args.e c.requires.due c.requires.shift

pub do_shift-requires-clause-keeps : goal.do_shift-requires-clause-keeps
do_shift-requires-clause-keeps c =
    let t : TypeTable = record { parts = []; covered = 0 } in
    (c.args.order.now.goal, (t, kept_shifted c.args.order.now c.args.system.now c.requires.core c.args.k c.args.e c.requires.due c.requires.processor c.requires.shift t))

pub returns : goal.returns
returns c = c.do_shift.ensures c.args.order.now.goal
