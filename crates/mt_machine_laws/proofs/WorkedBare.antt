-- One processor at its start, and its events.
use Rattle.std.proofs.Common.{rules, ◌∷◌, [], inl}
use Rattle.mt_machine.specs.declared.event.Event.TheVariants.{Leave, Take}
use Rattle.mt_machine.specs.Machine.{AreEnabled, Calls, Cancels, Goes, Reached, Steps, at_start}
use Rattle.mt_machine.specs.Start.{IsQuiet, IsStart}
use Rattle.mt_machine_laws.specs.MachineWorkedRuns.{bare, bare_file}
use Rattle.mt_machine_laws.specs.RunWorkedRuns.{bare_called}
use Rattle.mt_laws.proofs.Invariant.Runs.{reached_run}

pub quiet : IsQuiet bare
quiet = search rules

pub start : IsStart bare
start = inl quiet

pub called : AreEnabled bare (Calls (bare_file 0x806) ∷ Goes ∷ [])
called = search rules

pub cancelled : AreEnabled bare (Calls (bare_file 0x806) ∷ Steps 0 Take ∷ Cancels ∷ Steps 0 Leave ∷ [])
cancelled = search rules

pub reached : Reached bare bare_called
reached = reached_run (Calls (bare_file 0x806) ∷ Goes ∷ []) bare bare at_start called
