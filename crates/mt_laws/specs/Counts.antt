-- How often a processor takes, and how many events it does from a take to a release.
use Rattle.std.specs.Prelude.{◌≡◌, ℕ, ◌+◌, true, not, ◌&&◌, List, [], ◌∷◌, None, length, ◌++◌, ◌||◌, ◌==◌, ◌≤◌, nat_lt, if◌then◌else◌}
use Rattle.std.specs.List.{list_all, count_by}
use Rattle.mt_machine.specs.System.{Processor}
use Rattle.mt_machine.specs.Machine.{Machine, Reached, MachineEvent, Calls, Steps, run, AreEnabled}
use Rattle.mt_regs.specs.RegisterFile.{RegisterFile}
use Rattle.mt_machine.specs.declared.phase.Phase.TheVariants.{Passed}
use Rattle.mt_regs.specs.Registers.{writable}
use Rattle.mt_machine.specs.declared.event.Event.TheVariants.{Take, Pass, Release}
use Rattle.mt_machine.specs.Update.{is_release, is_led, is_cancel, takes_of, is_step_of, dirty_count}
use Rattle.mt_machine.specs.Start.{IsQuiet, IsStart}
use Rattle.mt_laws.specs.Barriers.{IsAt}
use Rattle.mt_laws.specs.Kept.{is_take_step}

-- the events of a processor besides these: a self-snooping one leaves out the drop of the first flush
abbrev pub other_events : Processor → ℕ
other_events p = if p.self_snoop then 12 else 13

-- between its take and its release processor k passes the first barrier once; it does as many events as it has writable registers and dirty words then, and 13 or 12 more
pub record IsCounted (m : Machine) (k : ℕ) (between : List MachineEvent) : Type 0 where
  pub before : List MachineEvent
  pub rest : List MachineEvent
  pub passes : between ≡ before ++ Steps k Pass ∷ rest
  pub passed : Processor
  pub at_pass : IsAt (run m (Steps k Take ∷ (before ++ Steps k Pass ∷ []))) k passed
  pub phase : passed.phase ≡ Passed
  pub count : count_by (is_step_of k) (Steps k Take ∷ (between ++ Steps k Release ∷ [])) ≡ length (writable passed.file) + dirty_count passed.lines + other_events passed

-- from a take to the release that follows it, with no other take of the processor between
abbrev pub CountOfSteps : Type 0
CountOfSteps =
    (s m : Machine) (k : ℕ) (between : List MachineEvent) → IsStart s → Reached s m
    → AreEnabled m (Steps k Take ∷ (between ++ Steps k Release ∷ []))
    → list_all (λ e. not (is_step_of k e && (is_take_step e || is_release e))) between ≡ true
    → IsCounted m k between

-- each number below a count stands once in the list, and no other stands in it
abbrev pub IsEachOnce : ℕ → List ℕ → Type 0
IsEachOnce count ks = (k : ℕ) → count_by (λ j. j == k) ks ≡ (if nat_lt k count then 1 else 0)

-- each stands at most once
abbrev pub IsEachAtMostOnce : ℕ → List ℕ → Type 0
IsEachAtMostOnce count ks = (k : ℕ) → count_by (λ j. j == k) ks ≤ (if nat_lt k count then 1 else 0)

-- in an update each processor takes at most once; where it ends without a cancel each takes once
abbrev pub TakesAtMostOnce : Type 0
TakesAtMostOnce =
    (s : Machine) (goal : RegisterFile) (es : List MachineEvent) → IsQuiet s → AreEnabled s (Calls goal ∷ es)
    → list_all is_led es ≡ true
    → IsEachAtMostOnce (length s.system.processors) (takes_of es)

abbrev pub TakesOnce : Type 0
TakesOnce =
    (s : Machine) (goal : RegisterFile) (es : List MachineEvent) → IsQuiet s → AreEnabled s (Calls goal ∷ es)
    → list_all (λ e. is_led e && not (is_cancel e)) es ≡ true
    → (run s (Calls goal ∷ es)).order ≡ None
    → IsEachOnce (length s.system.processors) (takes_of es)
