-- Which steps the manual's procedure has due, and which lists end in its midst.
-- Intel SDM volume 3A, chapter Memory Cache Control, section "MTRR Considerations in MP Systems".
use Rattle.std.specs.Prelude.{◌≡◌, ℕ, ◌<◌, Bool, true, false, not, ◌&&◌, ◌⊎◌, List, length, is_none, IfSome, MatchOption, Option, Some}
use Rattle.mt_machine.specs.declared.event.Event.{Event}
use Rattle.mt_machine.specs.declared.phase.Phase.{Phase}
use Rattle.mt_machine.specs.declared.phase.Phase.TheVariants.{NoFill}
use Rattle.mt_machine.specs.Access.{is_running}
use Rattle.mt_procedure.specs.Runs.{Case, IsRun, State, due_in, event_in, next_move, phase_in, place_of, run, step_at}
use Rattle.mt_procedure.specs.declared.moves.Move.{Move}
use Rattle.mt_procedure.specs.declared.step.ProcedureStep.{ProcedureStep}
use Rattle.mt_procedure.specs.declared.step.ProcedureStep.TheVariants as list
use Rattle.mt_procedure.specs.declared.turn.Turn.{Turn}

-- ---- a step that is due

-- the first flush of the caches. The manual calls it unnecessary on a self-snooping processor, and allows it
abbrev pub is_first_flush : Phase → ProcedureStep → Bool
is_first_flush NoFill list.Wbinvd = true
is_first_flush phase other = false

-- in an update: a flush of the TLB by the other of the two ways than the one that is due, or a change of CD beside it
abbrev pub is_astray : Phase → ProcedureStep → Bool
is_astray phase list.ClearPge = not (is_running phase)
is_astray phase list.ReloadCr3 = not (is_running phase)
is_astray phase (list.Cd on) = not (is_running phase)
is_astray phase other = false

-- INVD, which the manual's procedure has nowhere: it has the caches flushed by WBINVD
abbrev pub is_invd : ProcedureStep → Bool
is_invd list.Invd = true
is_invd other = false

-- a step in a phase, which is this event or none, where the other event or none is due. What is no event may stand anywhere (own)
abbrev pub IsInOrder : Phase → ProcedureStep → Option Event → Option Event → Type 0
IsInOrder phase todo event due =
    (is_first_flush phase todo ≡ true) ⊎ ((is_invd todo ≡ false) × MatchOption event (is_astray phase todo ≡ false) (λ e. due ≡ Some e))

abbrev pub IsDue : Move → Type 0
IsDue m = IsInOrder m.phase m.step m.event m.due

-- a step, which is the next one of processor k
abbrev pub IsStepDue : State → ℕ → ProcedureStep → Type 0
IsStepDue s k todo = IsInOrder (phase_in s.processors k) todo (event_in s.processors k todo (place_of s k).part) (due_in s.processors k)

-- the next step of processor k is due, if it may be done
abbrev pub IsDueAt : Case → State → ℕ → Type 0
IsDueAt c s k = IfSome (next_move c s k) IsDue

abbrev pub AreStepsDue : Case → State → Type 0
AreStepsDue c s = (k : ℕ) → k < length s.processors → IsDueAt c s k

-- a processor's next step isn't due
abbrev pub HasUndueStep : Case → State → Type 0
HasUndueStep c s = (k : ℕ) × (IsDueAt c s k → ⊥)

-- ---- a list that ends early

-- the list of processor k has ended, and the processor is in an update
abbrev pub is_unfinished : Case → State → ℕ → Bool
is_unfinished c s k = is_none (step_at c s k) && not (is_running (phase_in s.processors k))

abbrev pub AreListsFinished : Case → State → Type 0
AreListsFinished c s = (k : ℕ) → k < length s.processors → is_unfinished c s k ≡ false

-- a list has ended early
abbrev pub HasUnfinished : Case → State → Type 0
HasUnfinished c s = (k : ℕ) × (k < length s.processors) × (is_unfinished c s k ≡ true)

-- ---- every interleaving

-- each step of every run is due, and no list ends in the midst of the procedure
pub record AreInOrder (c : Case) (s : State) : Type 0 where
  pub due : (ts : List Turn) → IsRun c s ts → AreStepsDue c (run c s ts)
  pub finished : (ts : List Turn) → IsRun c s ts → AreListsFinished c (run c s ts)
