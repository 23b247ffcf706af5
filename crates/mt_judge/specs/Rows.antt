-- A run as rows, one for each line of its transcript: how each processor stands behind the line, and what it holds (own).
use Rattle.std.specs.Prelude.{ℕ, ◌==◌, Bool, List, filter_map, [], ◌∷◌, ◌++◌, map, if◌then◌else◌, Option, None, Some}
use Rattle.std.specs.Option.{option_map_or}
use Rattle.mt_regs.specs.RegisterFile.{RegisterFile}
use Rattle.mt_cache.specs.declared.line.CacheLine.{CacheLine}
use Rattle.mt_machine.specs.declared.phase.Phase.{Phase}
use Rattle.mt_machine.specs.System.{Processor}
use Rattle.mt_procedure.specs.Runs.{Case, State, may_take, taken}
use Rattle.mt_procedure.specs.declared.turn.Turn.{Turn}
use Rattle.mt_procedure.specs.declared.turn.Turn.TheVariants.{Step}
use Rattle.mt_judge.specs.declared.picture.rows.Held.{Held}
use Rattle.mt_judge.specs.declared.picture.rows.Held.TheVariants.{Buffer, CleanLine, DirtyLine, Entry}
use Rattle.mt_judge.specs.declared.transcript.Told.{Told}
use Rattle.mt_judge.specs.declared.transcript.Told.TheVariants as line

-- a processor's phase, whether CR0.CD and CR4.PGE are set, its registers, and what it holds
pub record Lane : Type 0 where
  pub phase : Phase
  pub no_fill : Bool
  pub global : Bool
  pub file : RegisterFile
  pub held : List Held

-- the processors, how many have arrived at each barrier, and memory's words
pub record Row : Type 0 where
  pub lanes : List Lane
  pub arrived : List ℕ
  pub words : List ℕ

abbrev pub held_line : CacheLine → Held
held_line l = if l.dirty == 0 then CleanLine l.number else DirtyLine l.number

-- the lines of the cache, the write-combining buffers and the TLB entries, each oldest first
abbrev pub held_by : Processor → List Held
held_by p = map held_line p.lines ++ (map (λ b. Buffer b.number) p.buffers ++ map (λ e. Entry e.vpage e.kind) p.entries)

abbrev pub lane_of : Processor → Lane
lane_of p = record { phase = p.phase; no_fill = p.cache_disabled; global = p.page_global; file = p.file; held = held_by p }

abbrev pub row_of : State → Row
row_of s = record { lanes = map lane_of s.processors; arrived = s.arrived; words = s.words }

-- the turn of a line: of all others nothing moves
abbrev pub turn_told : Told → Option Turn
turn_told (line.Step x) = Some (Step x.done.cpu)
turn_told (line.Speculation x) = Some x.turn
turn_told other = None

-- the state after a turn that may be taken, else the same one
abbrev pub state_after : Case → State → Turn → State
state_after c s t = if may_take c s t then taken c s t else s

-- the state behind a line
abbrev pub state_behind : Case → State → Told → State
state_behind c s x = option_map_or (state_after c s) (turn_told x) s

abbrev pub rows_behind : Case → State → List Told → List Row
rows_behind c s [] = []
rows_behind c s (x ∷ xs) = row_of (state_behind c s x) ∷ rows_behind c (state_behind c s x) xs

-- the row of the start, and one for each line
abbrev pub rows_of : Case → State → List Told → List Row
rows_of c s xs = row_of s ∷ rows_behind c s xs

-- the turns of these lines
abbrev pub turns_told : List Told → List Turn
turns_told xs = filter_map turn_told xs
