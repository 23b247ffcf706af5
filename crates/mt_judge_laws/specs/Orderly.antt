-- Runs of any lists whose every event is due, and what is proved of them (own).
use Rattle.std.specs.Prelude.{◌≡◌, ℕ, true, false, List, [], ◌∷◌, None, Some, IsSomeAnd, MatchOption}
use Rattle.mt_machine.specs.declared.phase.Phase.{Phase}
use Rattle.mt_machine.specs.Access.{is_running}
use Rattle.mt_procedure.specs.declared.moves.Move.{Move}
use Rattle.mt_procedure.specs.declared.step.ProcedureStep.{ProcedureStep}
use Rattle.mt_procedure.specs.declared.step.ProcedureStep.TheVariants as list
use Rattle.mt_procedure.specs.declared.turn.Turn.{Turn}
use Rattle.mt_procedure.specs.declared.turn.Turn.TheVariants.{Step}
use Rattle.mt_procedure.specs.Runs.{Case, State, may_take, next_move, run, taken}
use Rattle.mt_search.specs.Searches.{has_wrong}
use Rattle.mt_search.specs.Wrongs.{fault_of}
use Rattle.mt_judge_laws.specs.Manual.{FillsNothing, IsInstruction, IsMachines, IsRightStart, MayCall}

-- what may stand beside the events: a count or a wait at a barrier, and an instruction of a processor that runs
abbrev pub IsBeside : Phase → ProcedureStep → Type 0
IsBeside phase (list.Arrive barrier) = Unit {0}
IsBeside phase (list.Wait barrier count) = Unit {0}
IsBeside phase todo = (is_running phase ≡ true) × IsInstruction todo

-- a step whose event is due, or that is none and may stand beside the events
abbrev pub IsOrderly : Move → Type 0
IsOrderly m = MatchOption m.event (IsBeside m.phase m.step) (λ e. m.due ≡ Some e)

-- a turn that is such a step, or in which the processor does something by itself
abbrev pub IsOrderlyTurn : Case → State → Turn → Type 0
IsOrderlyTurn c s (Step k) = IsSomeAnd (next_move c s k) IsOrderly
IsOrderlyTurn c s other = may_take c s other ≡ true

-- a run of such turns
abbrev pub AreOrderly : Case → State → List Turn → Type 0
AreOrderly c s [] = Unit {0}
AreOrderly c s (t ∷ ts) = IsOrderlyTurn c s t × AreOrderly c (taken c s t) ts

-- ---- the law: from a right start, whatever the lists are

-- such a run is one of the machine, if no processor does anything by itself
abbrev pub OrderlyRunsAreTheMachines : Type 0
OrderlyRunsAreTheMachines =
    (c : Case) (s : State) (ts : List Turn) → IsRightStart c s → MayCall c s → c.mode.speculates ≡ false → AreOrderly c s ts → IsMachines c s (run c s ts)

-- nothing is wrong in the state after it
abbrev pub OrderlyRunsAreRight : Type 0
OrderlyRunsAreRight =
    (c : Case) (s : State) (ts : List Turn) → IsRightStart c s → MayCall c s → FillsNothing c → AreOrderly c s ts → has_wrong c (run c s ts) ≡ false

-- and no such step behind it has a fault
abbrev pub OrderlyStepsHaveNoFault : Type 0
OrderlyStepsHaveNoFault =
    (c : Case) (s : State) (ts : List Turn) (k : ℕ) (m : Move) → IsRightStart c s → MayCall c s → FillsNothing c → AreOrderly c s ts
    → next_move c (run c s ts) k ≡ Some m → IsOrderly m → fault_of (run c s ts).processors m ≡ None
