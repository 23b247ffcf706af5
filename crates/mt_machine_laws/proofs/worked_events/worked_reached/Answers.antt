use Rattle.std.proofs.Common.{refl, rules}
use Rattle.mt_machine.specs.declared.event.Event.TheVariants.{Take}
use Rattle.mt_machine.specs.Machine.{Calls, Goes, IsEnabled, Reached, Steps, after, at_start}
use Rattle.mt_machine_laws.specs.MachineWorkedRuns.{bare, bare_file, begun}
use Rattle.mt_machine_laws.proofs.worked_events.worked_reached.Goals as goal

called : IsEnabled bare (Calls (bare_file 0x806))
called = search rules

reached : Reached bare (begun (bare_file 0x806) bare)
reached = after (Calls (bare_file 0x806)) at_start called

pub returns-clause-given : goal.returns-clause-given
returns-clause-given c = after (Steps 0 Take) (after Goes reached refl) refl
