-- Machines of worked examples: two processors whose registers differ, of which one has a dirty line, and the other an entry and write-combining buffers.
use Rattle.std.specs.Prelude.{ℕ, false, true, List, [], ◌∷◌, ◌++◌, None, drop, map}
use Rattle.mt_cache.specs.declared.line.CacheLine.{CacheLine}
use Rattle.mt_machine.specs.ComingAndGoing.{newcomer}
use Rattle.mt_machine.specs.declared.event.Event.TheVariants.{Arrive, Pass, Release, SetNoFill, Take, WriteBack}
use Rattle.mt_machine.specs.Machine.{Goes, Machine, MachineEvent, Steps, run}
use Rattle.mt_machine.specs.System.{Processor, start_processor}
use Rattle.mt_machine_laws.specs.MachineWorkedRuns.{alone, bare_file, entry, idle, line_of, mapping, small}
use Rattle.mt_machine_laws.specs.RunWorkedRuns.{way_on}
use Rattle.mt_admit.specs.Admission.{brought_up}

-- in era 3, with a line of two dirty words
abbrev pub keeps_line : Processor
keeps_line = record (start_processor (bare_file 0x806)) { lines = line_of 0x4000 3 ∷ []; era = 3 }

-- the same without it
abbrev pub without_line : Processor
without_line = record keeps_line { lines = [] }

-- one word that is stored into that line
abbrev pub over_line : CacheLine
over_line = record (line_of 0x4000 3) { words = 0 ∷ 8 ∷ 0 ∷ 0 ∷ 0 ∷ 0 ∷ 0 ∷ 0 ∷ []; dirty = 2 }

-- with other registers, PGE and an entry, and with buffers of that line and of the next, whose words 1 and 2 are written
abbrev pub combines : Processor
combines = record (start_processor (bare_file 0x800)) {
  page_global = true;
  mappings = mapping 1 0x100 0 ∷ [];
  buffers = over_line ∷ line_of 0x4001 3 ∷ [];
  entries = record (entry 1 false) { era = 3 } ∷ [];
  era = 3;
}

-- over two lines of memory, of which words 1 and 2 are these
abbrev pub over : List Processor → ℕ → ℕ → ℕ → ℕ → Machine
over ps first second next_first next_second = record {
  system = record {
    processors = ps;
    memory = record {
      windows = record { base = 0x100000; lines = 2 } ∷ [];
      words = 0 ∷ first ∷ second ∷ 0 ∷ 0 ∷ 0 ∷ 0 ∷ 0 ∷ 0 ∷ next_first ∷ next_second ∷ 0 ∷ 0 ∷ 0 ∷ 0 ∷ 0 ∷ [];
    };
  };
  order = None;
}

abbrev pub unlike : Machine
unlike = over (combines ∷ keeps_line ∷ []) 0 0 0 0

-- the last has the buffers, and the line is in memory
abbrev pub buffered : Machine
buffered = over (without_line ∷ combines ∷ []) 6 7 0 0

-- once the last was retired
abbrev pub left_of_buffered : Machine
left_of_buffered = over (without_line ∷ []) 8 7 6 7

-- once a newcomer's update was cancelled of which the first had taken
abbrev pub given_up : Machine
given_up = over (record combines { buffers = [] } ∷ without_line ∷ newcomer 36 0x400 3 ∷ []) 8 7 6 7

-- a line with two dirty words over one line of memory, and the update of a newcomer beside it before its first pass, and from there to the first release
abbrev pub one_line : Machine
one_line = small (alone (record idle { lines = line_of 0x4000 0 ∷ [] }))

abbrev pub to_first_pass : List MachineEvent
to_first_pass = Goes ∷ Steps 0 Take ∷ Steps 0 Arrive ∷ Steps 1 Take ∷ Steps 1 Arrive ∷ []

abbrev pub before_pass : Machine
before_pass = run (brought_up one_line) to_first_pass

abbrev pub between_pass_and_release : List MachineEvent
between_pass_and_release = Steps 0 SetNoFill ∷ Steps 0 (WriteBack 0x100008 6) ∷ Steps 0 (WriteBack 0x100010 7) ∷ (map (Steps 0) (drop 1 way_on) ++ map (Steps 1) (Pass ∷ way_on))

abbrev pub released : Machine
released = run before_pass (Steps 0 Pass ∷ between_pass_and_release ++ Steps 1 Release ∷ [])
