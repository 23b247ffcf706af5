use Rattle.std.proofs.Common.{◌≡◌, List, [], ◌∷◌, ◌++◌, ◌+◌, ℕ, length, refl, sym, ap, ◌∙◌, arith, Option, None, Some, slice_get}
use Rattle.mt_machine.specs.declared.event.Event.TheVariants.{Arrive, Pass, Take}
use Rattle.mt_regs.specs.Registers.{writable}
use Rattle.mt_machine.specs.System.{Processor}
use Rattle.mt_machine.specs.Machine.{Machine, MachineEvent, Steps, run}
use Rattle.mt_machine.specs.Update.{dirty_count}
use Rattle.mt_machine_laws.specs.MachineWorkedRuns.{own}
use Rattle.mt_laws.specs.Counts.{other_events}
use Rattle.mt_machine_laws.specs.RunWorkedRuns.{bare_called, snooper_called, way_of_snooper, way_on}
use Rattle.std.specs.Prelude.{map}
use Rattle.mt_machine_laws.proofs.run_worked.worked_counts.Goals as goal

pub returns-clause-counted : goal.returns-clause-counted
returns-clause-counted c = record {
  before = Steps 0 Arrive ∷ [];
  rest = map (Steps 0) way_on;
  passes = refl;
  passed = own (run bare_called (Steps 0 Take ∷ Steps 0 Arrive ∷ Steps 0 Pass ∷ [])) 0;
  at_pass = refl;
  phase = refl;
  count = refl;
}

pub returns-clause-self_snooping : goal.returns-clause-self_snooping
returns-clause-self_snooping c = record {
  before = Steps 0 Arrive ∷ [];
  rest = map (Steps 0) way_of_snooper;
  passes = refl;
  passed = own (run snooper_called (Steps 0 Take ∷ Steps 0 Arrive ∷ Steps 0 Pass ∷ [])) 0;
  at_pass = refl;
  phase = refl;
  count = refl;
}

abbrev needed : Option Processor → ℕ
needed None = 0
needed (Some p) = length (writable p.file) + dirty_count p.lines + other_events p

-- what the processor is to do, where it passes after Arrive
needs : (m : Machine) (before : List MachineEvent) (p : Processor) → before ≡ Steps 0 Arrive ∷ [] → slice_get (run m (Steps 0 Take ∷ (before ++ Steps 0 Pass ∷ []))).system.processors 0 ≡ Some p
    → needed (slice_get (run m (Steps 0 Take ∷ Steps 0 Arrive ∷ Steps 0 Pass ∷ [])).system.processors 0) ≡ length (writable p.file) + dirty_count p.lines + other_events p
needs m before p is at = ap needed (ap (λ (es : List MachineEvent). slice_get (run m (Steps 0 Take ∷ (es ++ Steps 0 Pass ∷ []))).system.processors 0) (sym is) ∙ at)

pub returns-clause-one_step_more : goal.returns-clause-one_step_more
returns-clause-one_step_more c = λ h before. omega (arith, h.count, needs bare_called h.before h.passed before h.at_pass)

pub returns-clause-one_missing : goal.returns-clause-one_missing
returns-clause-one_missing c = λ h. omega (arith, h 1)

pub returns-clause-one_too_many : goal.returns-clause-one_too_many
returns-clause-one_too_many c = λ h. omega (arith, h 2)

pub returns-clause-twice : goal.returns-clause-twice
returns-clause-twice c = λ h. omega (arith, h 0)
