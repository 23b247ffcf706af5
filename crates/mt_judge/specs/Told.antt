-- What is printed of a run: its steps in their order, and beside them who doesn't go on (own).
use Rattle.std.specs.Prelude.{◌≡◌, ◌↔◌, ℕ, ◌+◌, ◌*◌, ◌/◌, ◌%◌, ◌^◌, ◌&&◌, nat_lt, not, Bool, true, false, if◌then◌else◌, List, [], ◌∷◌, ◌++◌, length, is_none, is_some, IsSomeAnd, Option, None, slice_get}
use Rattle.std.specs.List.{count_by}
use Rattle.std.specs.Option.{option_map, option_map_or}
use Rattle.mt_kinds.specs.declared.mem_type.MemType.{MemType}
use Rattle.mt_tlb.specs.Entries.{find_mapping}
use Rattle.mt_tlb.specs.declared.entry.Entry.{Entry}
use Rattle.mt_machine.specs.Access.{entry_of, is_cached}
use Rattle.mt_machine.specs.Memory.{Memory, place}
use Rattle.mt_machine.specs.Machine.{has_arrived, has_arrived_again}
use Rattle.mt_machine.specs.System.{Processor}
use Rattle.mt_procedure.specs.Dues.{IsDue, is_unfinished}
use Rattle.mt_search.specs.Listed.{wrongs_in}
use Rattle.mt_judge.specs.Ordered.{AreRightTurns, AreWhole, IsWhole, ordered, part_of}
use Rattle.mt_case.specs.declared.case.Part.{Part}
use Rattle.mt_procedure.specs.Runs.{Case, IsRun, State, may_go, may_take, move_in, phase_in, procedure_order, run, step_at, taken, told_due}
use Rattle.mt_procedure.specs.declared.turn.Turn.{Turn}
use Rattle.mt_procedure.specs.declared.turn.Turn.TheVariants.{Fetch, Step, Translate}
use Rattle.mt_search.specs.Wrongs.{fault_of}
use Rattle.mt_procedure.specs.declared.moves.Move.{Move}
use Rattle.mt_judge.specs.declared.one_run.JudgedRun.{JudgedRun}
use Rattle.mt_judge.specs.declared.transcript.Arrivals.{Arrivals}
use Rattle.mt_judge.specs.declared.transcript.Hindrance.{Hindrance}
use Rattle.mt_judge.specs.declared.transcript.Hindrance.TheVariants as why
use Rattle.mt_judge.specs.declared.transcript.Told.{Told}
use Rattle.mt_judge.specs.declared.transcript.Told.TheVariants as line
use Rattle.mt_judge.specs.declared.transcript.ToldSpeculation.{ToldSpeculation}
use Rattle.mt_judge.specs.declared.transcript.ToldStep.{ToldStep}
use Rattle.mt_judge.specs.declared.transcript.Transcript.{Transcript}

-- ---- a step

abbrev pub has_arrived_first : Processor → Bool
has_arrived_first p = has_arrived (procedure_order p.file) p

abbrev pub has_arrived_second : Processor → Bool
has_arrived_second p = has_arrived_again (procedure_order p.file) p

abbrev pub arrived_in : List Processor → Arrivals
arrived_in ps = record { first = count_by has_arrived_first ps; second = count_by has_arrived_second ps; of = length ps }

-- a step from one state to another, with its fault and all that is wrong in the state after it
pub record TellsStep (c : Case) (before : State) (m : Move) (after : State) (t : ToldStep) : Type 0 where
  pub done : t.done ≡ m
  pub arrived : t.arrived ≡ arrived_in before.processors
  pub fault : t.fault ≡ fault_of before.processors m
  pub wrongs : t.wrongs.items ≡ wrongs_in c after.processors

-- the step is due, has no fault, and leaves nothing wrong
pub record IsRightTold (t : ToldStep) : Type 0 where
  pub due : IsDue t.done
  pub fault : t.fault ≡ None
  pub right : t.wrongs.items ≡ []

-- that of a turn that is a step
abbrev pub TellsMove : Case → State → Turn → ToldStep → Type 0
TellsMove c s t x = IsSomeAnd (move_in c s t) (λ m. TellsStep c s m (taken c s t) x)

-- ---- a speculation

-- the type of the entry by which processor k translates a page
abbrev pub kind_in : List Processor → ℕ → ℕ → Option MemType
kind_in ps k page = option_map (λ e. e.kind) (option_map_or (λ p. entry_of p page) (slice_get ps k) None)

abbrev pub kind_of : State → Turn → Option MemType
kind_of s (Step k) = None
kind_of s (Translate k page) = kind_in s.processors k page
kind_of s (Fetch k line) = kind_in s.processors k (line / 64)

-- memory has a line of a physical page
abbrev pub has_line : Memory → ℕ → ℕ → Bool
has_line m ppage line = nat_lt ppage (2 ^ 40) && is_some (place m (64 * (64 * ppage + line % 64)))

-- why processor p doesn't translate a page, or fetch a line, if it may not
abbrev pub translation_hindrance : ℕ → Processor → Hindrance
translation_hindrance page p = if is_none (find_mapping page p.mappings) then why.Unmapped else why.HasEntry

abbrev pub fill_hindrance : Memory → ℕ → Entry → Hindrance
fill_hindrance m line e = if not (is_cached e.kind) then why.Uncached e.kind else if has_line m e.ppage line then why.HasLine else why.NoLine

abbrev pub fetch_hindrance : Case → ℕ → Processor → Hindrance
fetch_hindrance c line p =
    if is_none (find_mapping (line / 64) p.mappings) then why.Unmapped
    else if not c.mode.leaks && p.cache_disabled then why.NoFill
    else option_map_or (fill_hindrance c.layout line) (entry_of p (line / 64)) why.Unmapped

abbrev pub hindrance_of : Case → State → Turn → Hindrance
hindrance_of c s (Step k) = why.Unmapped
hindrance_of c s (Translate k page) = option_map_or (translation_hindrance page) (slice_get s.processors k) why.Unmapped
hindrance_of c s (Fetch k line) = option_map_or (fetch_hindrance c line) (slice_get s.processors k) why.Unmapped

-- a speculation that leads from one state to another, with all that is wrong in the state after it
pub record TellsSpeculation (c : Case) (before : State) (t : Turn) (after : State) (x : ToldSpeculation) : Type 0 where
  pub turn : x.turn ≡ t
  pub kind : x.kind ≡ kind_of before t
  pub wrongs : x.wrongs.items ≡ wrongs_in c after.processors

-- that of a turn that is no step
pub record TellsNoMove (c : Case) (s : State) (t : Turn) (x : ToldSpeculation) : Type 0 where
  pub none : move_in c s t ≡ None
  pub told : TellsSpeculation c s t (taken c s t) x

-- ---- a run

-- these turns are told in their order, and no other. Beside them stands which step a processor has next that can't go on, which speculation
-- may not be made and why, and whose list has ended in the midst of an update, with its phase, the event that is due, and who has arrived
abbrev pub AreTold : Case → State → List Turn → List Told → Type 0
AreTold c s ts [] = ts ≡ []
AreTold c s ts (line.Step x ∷ xs) = (t : Turn) × (rest : List Turn) × (ts ≡ t ∷ rest) × TellsMove c s t x × AreTold c (taken c s t) rest xs
AreTold c s ts (line.Speculation x ∷ xs) = (t : Turn) × (rest : List Turn) × (ts ≡ t ∷ rest) × TellsNoMove c s t x × AreTold c (taken c s t) rest xs
AreTold c s ts (line.Pause cpu step ∷ xs) = (may_go c s cpu ≡ false) × (step ≡ step_at c s cpu) × AreTold c s ts xs
AreTold c s ts (line.Idle t hindrance ∷ xs) = (may_take c s t ≡ false) × (hindrance ≡ hindrance_of c s t) × AreTold c s ts xs
AreTold c s ts (line.Unfinished cpu phase due arrived ∷ xs) =
    (is_unfinished c s cpu ≡ true) × (phase ≡ phase_in s.processors cpu) × (due ≡ told_due s.processors cpu) × (arrived ≡ arrived_in s.processors)
    × AreTold c s ts xs

-- a run of these turns, from its start on
pub record IsTranscript (c : Case) (s : State) (ts : List Turn) (t : Transcript) : Type 0 where
  pub runs : IsRun c s ts
  pub start : t.start.items ≡ wrongs_in c s.processors
  pub told : AreTold c s ts t.told.items

-- ---- while a run is judged: where it stands, what is told, and whether something is wrong

-- what is told behind what was told before
pub record AreToldBehind (c : Case) (s : State) (ts : List Turn) (old new : List Told) : Type 0 where
  pub more : List Told
  pub are : AreTold c s ts more
  pub behind : new ≡ old ++ more

-- this is told of a step that led from a state to where the run stands, and something is wrong unless the step is right
pub record IsStepNoted (c : Case) (before : State) (m : Move) (old new : JudgedRun) : Type 0 where
  pub step : ToldStep
  pub tells : TellsStep c before m old.state step
  pub behind : new.told.items ≡ old.told.items ++ line.Step step ∷ []
  pub right : (new.wrong ≡ false) ↔ ((old.wrong ≡ false) × IsRightTold step)

-- the same of a speculation
pub record IsSpeculationNoted (c : Case) (before : State) (t : Turn) (old new : JudgedRun) : Type 0 where
  pub speculation : ToldSpeculation
  pub tells : TellsSpeculation c before t old.state speculation
  pub behind : new.told.items ≡ old.told.items ++ line.Speculation speculation ∷ []
  pub right : (new.wrong ≡ false) ↔ ((old.wrong ≡ false) × (speculation.wrongs.items ≡ []))

-- these turns lead from where a run stood to where it stands now. They are told, and something is wrong unless they are right
pub record IsTold (c : Case) (ts : List Turn) (old new : JudgedRun) : Type 0 where
  pub runs : IsRun c old.state ts
  pub leads : new.state ≡ run c old.state ts
  pub told : AreToldBehind c old.state ts old.told.items new.told.items
  pub right : (new.wrong ≡ false) ↔ ((old.wrong ≡ false) × AreRightTurns c old.state ts)

-- the same of a turn, or of rounds to the end
pub record IsToldPart (c : Case) (part : Part) (old new : JudgedRun) : Type 0 where
  pub runs : IsRun c old.state (part_of c old.state part)
  pub leads : new.state ≡ run c old.state (part_of c old.state part)
  pub told : AreToldBehind c old.state (part_of c old.state part) old.told.items new.told.items
  pub right : (new.wrong ≡ false) ↔ ((old.wrong ≡ false) × AreRightTurns c old.state (part_of c old.state part) × IsWhole c old.state part)

-- the same of all that is ordered
pub record IsToldOrder (c : Case) (order : List Part) (old new : JudgedRun) : Type 0 where
  pub runs : IsRun c old.state (ordered c old.state order)
  pub leads : new.state ≡ run c old.state (ordered c old.state order)
  pub told : AreToldBehind c old.state (ordered c old.state order) old.told.items new.told.items
  pub right : (new.wrong ≡ false) ↔ ((old.wrong ≡ false) × AreRightTurns c old.state (ordered c old.state order) × AreWhole c old.state order)
