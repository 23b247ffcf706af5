use Rattle.std.proofs.Common.{rules, refl, inr}
use Rattle.mt_machine.specs.declared.event.Event.TheVariants.{Take, WriteBack}
use Rattle.mt_machine.specs.Machine.{Steps, at_start, run}
use Rattle.mt_machine_laws.specs.MachineWorkedRuns.{bare, call_order}
use Rattle.mt_machine_laws.specs.RunWorkedRuns.{bare_called}
use Rattle.mt_machine_laws.specs.WorkedUpdates.{dirty_taken, to_flush}
use Rattle.mt_laws.proofs.Invariant.Runs.{reached_run}
use Rattle.mt_machine_laws.proofs.WorkedBare.{reached, start}
use Rattle.mt_machine_laws.proofs.WorkedUpdates.{broadcast, to_flush_enabled}
use Rattle.mt_machine_laws.proofs.run_worked_laws.worked_kept_by_steps.Goals as goal

pub returns-clause-now : goal.returns-clause-now
returns-clause-now c = λ law.
    law dirty_taken (run dirty_taken to_flush) (Steps 0 (WriteBack 0x100008 6)) 0x100008 (inr (call_order, broadcast))
    (reached_run to_flush dirty_taken dirty_taken at_start to_flush_enabled) refl refl refl refl

pub returns-clause-eras_after_a_take : goal.returns-clause-eras_after_a_take
returns-clause-eras_after_a_take c = λ law. law bare bare_called (Steps 0 Take) start reached (search rules) refl (λ call. absurd (cc call))
