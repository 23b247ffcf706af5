-- The manual's own procedure as a list of steps, the starts of it, and what is proved of each of its runs (own).
-- Intel SDM volume 3A, chapter Memory Cache Control, section "MTRR Considerations in MP Systems".
use Rattle.std.specs.Prelude.{◌≡◌, ◌⊎◌, ℕ, ◌≤◌, Bool, true, false, ◌&&◌, List, [], ◌∷◌, ◌++◌, length, map, replicate, slice_get, None, Some}
use Rattle.std.specs.List.{All}
use Rattle.mt_machine.specs.Machine.{Calls, FitsOp, IsEnabled, Machine, Reached, remaining_order}
use Rattle.mt_machine.specs.Start.{IsQuiet}
use Rattle.mt_machine.specs.System.{Processor}
use Rattle.mt_search.specs.declared.search.Aim.{Aim}
use Rattle.mt_search.specs.declared.search.Found.{Found}
use Rattle.mt_search.specs.declared.search.Found.TheVariants as found
use Rattle.mt_procedure.specs.declared.step.ListPlace.{ListPlace}
use Rattle.mt_procedure.specs.declared.step.ProcedureStep.{ProcedureStep}
use Rattle.mt_procedure.specs.declared.step.ProcedureStep.TheVariants as list
use Rattle.mt_procedure.specs.declared.turn.Turn.{Turn}
use Rattle.mt_procedure.specs.Runs.{Case, IsRun, State, list_of, procedure_order, run, system_of}
use Rattle.mt_search.specs.Searches.{IsFound, has_wrong}
use Rattle.mt_judge.specs.Verdicts.{IsRight}

-- ---- the list

-- a self-snooping processor leaves out the first flush of the caches
abbrev pub first_flush : Bool → List ProcedureStep
first_flush true = []
first_flush false = list.Wbinvd ∷ []

-- the steps behind that flush
abbrev pub since_flush : ℕ → List ProcedureStep
since_flush count =
    list.ClearPge ∷ list.ClearE ∷ list.Write ∷ list.Enable ∷ list.Wbinvd ∷ list.ReloadCr3 ∷ list.ClearCd ∷ list.RestorePge
    ∷ list.Arrive 1 ∷ list.Wait 1 count ∷ list.Release ∷ []

-- of each of so many processors
abbrev pub manual_list : ℕ → Bool → List ProcedureStep
manual_list count self_snoop = list.Take ∷ list.Arrive 0 ∷ list.Wait 0 count ∷ list.SetCd ∷ (first_flush self_snoop ++ since_flush count)

-- an access or a control instruction of a processor that runs
abbrev pub IsInstruction : ProcedureStep → Type 0
IsInstruction (list.Access op) = FitsOp op
IsInstruction list.ReloadCr3 = Unit {0}
IsInstruction (list.Invlpg address) = Unit {0}
IsInstruction (list.Pge on) = Unit {0}
IsInstruction (list.Cd on) = Unit {0}
IsInstruction other = ⊥

-- the manual's list, with instructions before the interrupt and behind the release
pub record IsManualList (count : ℕ) (self_snoop : Bool) (steps : List ProcedureStep) : Type 0 where
  pub before : List ProcedureStep
  pub behind : List ProcedureStep
  pub before_fit : All IsInstruction before
  pub behind_fit : All IsInstruction behind
  pub is : steps ≡ before ++ (manual_list count self_snoop ++ behind)

-- ---- its starts

abbrev pub at_rest : Case → State → Machine
at_rest c s = record { system = system_of c s; order = None }

abbrev pub first_place : ListPlace
first_place = record { step = 0; part = 0 }

-- a sound state with nothing wrong, in which all processors run and none has finished an update. A strict case names its registers
pub record IsRightStart (c : Case) (s : State) : Type 0 where
  pub quiet : IsQuiet (at_rest c s)
  pub first : All (λ p. p.era ≡ 0) s.processors
  pub starts : c.mode.strict ≡ true → c.starts ≡ map (λ p. p.file) s.processors
  pub right : has_wrong c s ≡ false

-- the machine may call an update to the goal
abbrev pub MayCall : Case → State → Type 0
MayCall c s = IsEnabled (at_rest c s) (Calls c.goal)

-- each of at most 64 processors is at the beginning of the manual's list
pub record IsManual (c : Case) (s : State) : Type 0 where
  pub few : length s.processors ≤ 64
  pub goal : MayCall c s
  pub lists : (k : ℕ) (p : Processor) → slice_get s.processors k ≡ Some p → IsManualList (length s.processors) p.self_snoop (list_of c k)
  pub places : s.places ≡ replicate (length s.processors) first_place
  pub arrived : s.arrived ≡ replicate 8 0

-- "Cache Control Registers and Bits": no-fill mode fills no line. A case in which a processor does nothing by itself has no line filled so
abbrev pub FillsNothing : Case → Type 0
FillsNothing c = (c.mode.speculates && c.mode.leaks) ≡ false

-- ---- the laws

-- the machine of a state: its update is called and its go given, and it is under way unless each processor has released
abbrev pub machine_of : Case → State → Machine
machine_of c s = record { system = system_of c s; order = remaining_order (procedure_order c.goal) s.processors }

-- the run's state is the machine's
abbrev pub IsMachines : Case → State → State → Type 0
IsMachines c s t = Reached (at_rest c s) (machine_of c t)

-- each run of the lists, in which no processor does anything by itself, is a run of the machine
abbrev pub RunsAreTheMachines : Type 0
RunsAreTheMachines =
    (c : Case) (s : State) (ts : List Turn) → IsRightStart c s → IsManual c s → c.mode.speculates ≡ false → IsRun c s ts → IsMachines c s (run c s ts)

-- in every interleaving nothing is wrong, each step is due, and no list ends in the midst of the update, whatever a processor translates and
-- fetches by itself, and in a strict case too
abbrev pub NothingGoesWrong : Type 0
NothingGoesWrong = (c : Case) (s : State) → IsRightStart c s → IsManual c s → FillsNothing c → IsRight c s

-- so a search finds nothing, unless it stops, whether it looks for what is wrong or for what is left wrong when all lists have ended
abbrev pub SearchesFindNothing : Type 0
SearchesFindNothing =
    (a : Aim) (c : Case) (s : State) (f : Found) → IsRightStart c s → IsManual c s → FillsNothing c → IsFound a c s f → (f ≡ found.Nothing) ⊎ (f ≡ found.Stopped)
