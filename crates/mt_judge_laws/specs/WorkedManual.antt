-- Starts of the manual's lists for instances (own): two processors, of which the second is self-snooping, and a dirty line of a WB page.
-- The first one loads from the page and sets PGE behind its release, and the second loads before its interrupt.
use Rattle.std.specs.Prelude.{Bool, false, true, List, [], ◌∷◌, ◌++◌, replicate, Option}
use Rattle.mt_regs.specs.RegisterFile.{RegisterFile}
use Rattle.mt_machine.specs.declared.phase.Phase.{Phase}
use Rattle.mt_machine.specs.declared.event.Event.{Event}
use Rattle.mt_machine.specs.declared.op.Op.TheVariants.{Load}
use Rattle.mt_machine.specs.Start.{zero_memory}
use Rattle.mt_machine.specs.System.{Processor}
use Rattle.mt_procedure.specs.declared.moves.Outcome.TheVariants.{Nothing}
use Rattle.mt_procedure.specs.declared.moves.Move.{Move}
use Rattle.mt_procedure.specs.declared.step.ProcedureStep.TheVariants.{Access, Pge}
use Rattle.mt_procedure.specs.declared.step.ProcedureStep.{ProcedureStep}
use Rattle.mt_procedure.specs.declared.turn.Turn.TheVariants.{Fetch, Step, Translate}
use Rattle.mt_procedure.specs.declared.turn.Turn.{Turn}
use Rattle.mt_procedure.specs.Runs.{Case, State}
use Rattle.mt_search.specs.WorkedWrongs.{dirty_line, mapped, registers, with_line}
use Rattle.mt_judge_laws.specs.Manual.{first_place, manual_list}

abbrev pub two_processors : List Processor
two_processors = with_line dirty_line (mapped 0x806) ∷ record (mapped 0x806) { self_snoop = true } ∷ []

abbrev pub two_files : List RegisterFile
two_files = registers 0x806 ∷ registers 0x806 ∷ []

abbrev pub first_list : List ProcedureStep
first_list = manual_list 2 false ++ Access (Load 0x1000) ∷ Pge true ∷ []

abbrev pub second_list : List ProcedureStep
second_list = Access (Load 0x1000) ∷ manual_list 2 true

-- the page is WB at the start, and the goal makes it UC
abbrev pub with_lists : List (List ProcedureStep) → Case
with_lists lists = record {
  mode = record { speculates = false; leaks = false; strict = false };
  layout = zero_memory (record { base = 0x100000; lines = 1 } ∷ []);
  starts = [];
  goal = registers 0x800;
  lists = lists;
}

abbrev pub two_lists : Case
two_lists = with_lists (first_list ∷ second_list ∷ [])

-- processors do something by themselves; a cache leaks if no-fill mode fills lines of it
abbrev pub speculating : Bool → Case → Case
speculating leaks c = record c { mode = record c.mode { speculates = true; leaks = leaks } }

-- the strict senses count too
abbrev pub strictly : List RegisterFile → Case → Case
strictly starts c = record c { mode = record c.mode { strict = true }; starts = starts }

-- a list that begins, and one that ends, with a load from an address that is no word's
abbrev pub odd_before : List ProcedureStep
odd_before = Access (Load 0x1001) ∷ manual_list 2 false

abbrev pub odd_behind : List ProcedureStep
odd_behind = manual_list 2 false ++ Access (Load 0x1001) ∷ []

abbrev pub started : List Processor → State
started ps = record {
  processors = ps;
  words = 0 ∷ replicate 7 7;
  places = first_place ∷ first_place ∷ [];
  arrived = replicate 8 0;
}

abbrev pub two_started : State
two_started = started two_processors

-- one self-snooping processor, alone
abbrev pub one_list : Case
one_list = with_lists (manual_list 1 true ∷ [])

abbrev pub one_started : State
one_started = record (started (record (mapped 0x806) { self_snoop = true } ∷ [])) { places = first_place ∷ [] }

-- up to the clearing of CD. The page is translated before E is cleared, and its line fetched behind the second flush of the caches
abbrev pub old_fetch : List Turn
old_fetch = replicate 5 (Step 0) ++ (Translate 0 1 ∷ (replicate 4 (Step 0) ++ (Fetch 0 64 ∷ replicate 2 (Step 0))))

-- a step of processor 0 in this phase, the event that it is, and the one that is due
abbrev pub move : Phase → ProcedureStep → Option Event → Option Event → Move
move phase todo event due = record { cpu = 0; phase = phase; step = todo; event = event; due = due; outcome = Nothing }
