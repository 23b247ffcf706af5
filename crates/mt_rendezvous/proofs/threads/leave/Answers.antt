use Rattle.std.proofs.Common.{ap}
use Rattle.mt_machine.specs.declared.event.Event.TheVariants.{Leave}
use Rattle.mt_cpu.specs.Steps.{is_shift}
use Rattle.mt_rendezvous.proofs.threads.leave.Goals as goal

pub shift-requires-clause-enabled : goal.shift-requires-clause-enabled
shift-requires-clause-enabled c = ap (is_shift Leave) c.requires

pub returns : goal.returns
returns c = c.shift.ensures c.args.cpu.now.file
