-- Machines of worked examples, and what is seen of them.
use Rattle.std.specs.Prelude.{ℕ, zero, suc, ◌+◌, Bool, true, false, List, [], ◌∷◌, map, replicate, slice_get, None, Some}
use Rattle.std.specs.Option.{option_map_or}
use Rattle.mt_kinds.specs.declared.mem_type.MemType.TheVariants.{WB}
use Rattle.mt_regs.specs.declared.registers.Register.TheVariants.{DefaultType, PhysBase, Pat}
use Rattle.mt_regs.specs.RegisterFile.{RegisterFile, blank_file}
use Rattle.mt_regs.specs.Registers.{with_value}
use Rattle.mt_types_laws.specs.WorkedRows.{four_gigabytes}
use Rattle.mt_cache.specs.declared.line.CacheLine.{CacheLine}
use Rattle.mt_tlb.specs.declared.entry.Entry.{Entry}
use Rattle.mt_tlb.specs.declared.mapping.Mapping.{Mapping}
use Rattle.mt_machine.specs.declared.control.Control.TheVariants.{Map}
use Rattle.mt_machine.specs.declared.go.Go.TheVariants.{Pending}
use Rattle.mt_machine.specs.declared.phase.Phase.TheVariants.{Taken}
use Rattle.mt_machine.specs.declared.op.Op.TheVariants.{Load, Store}
use Rattle.mt_machine.specs.Memory.{Window, put_word}
use Rattle.mt_machine.specs.System.{Processor, start_processor, buffers_of}
use Rattle.mt_machine.specs.Machine.{Machine, MachineEvent, Order, Accesses, Controls, Calls, Goes, Steps, due_at, next, run}
use Rattle.mt_machine.specs.Start.{start_machine, zero_memory}

-- ---- events

abbrev pub load : ℕ → ℕ → MachineEvent
load k address = Accesses k (Load address)

abbrev pub store : ℕ → ℕ → ℕ → MachineEvent
store k address value = Accesses k (Store address value)

abbrev pub mapping : ℕ → ℕ → ℕ → Mapping
mapping page physical index = record { vpage = page; ppage = physical; index = index; global = false }

abbrev pub maps : ℕ → Mapping → MachineEvent
maps k m = Controls k (Map m)

-- the next step of a processor, where one is due, and several
abbrev pub step_at : Machine → ℕ → Machine
step_at m k = option_map_or (λ e. next m (Steps k e)) (due_at m k) m

abbrev pub walk : ℕ → ℕ → Machine → Machine
walk zero k m = m
walk (suc n) k m = walk n k (step_at m k)

-- steps of two processors in turn
abbrev pub rounds : ℕ → Machine → Machine
rounds zero m = m
rounds (suc n) m = rounds n (step_at (step_at m 0) 1)

-- ---- what is seen

abbrev pub own : Machine → ℕ → Processor
own m k = option_map_or (λ p. p) (slice_get m.system.processors k) (start_processor four_gigabytes)

-- the numbers and dirty bits of lines or buffers
abbrev pub seen : List CacheLine → List (ℕ × ℕ)
seen ls = map (λ l. (l.number, l.dirty)) ls

abbrev pub pending : Machine → ℕ → List (ℕ × ℕ)
pending m k = seen (buffers_of m.system k)

-- ---- machines

-- 64 lines at 1 MB
abbrev pub one_window : List Window
one_window = record { base = 0x100000; lines = 64 } ∷ []

abbrev pub machine_of : List Processor → Machine
machine_of ps = record { system = record { processors = ps; memory = zero_memory one_window }; order = None }

abbrev pub mapped : RegisterFile → Processor
mapped f = record (start_processor f) { mappings = mapping 1 0x100 0 ∷ [] }

-- the same over one line of memory
abbrev pub small : Machine → Machine
small m = record { system = record { processors = m.system.processors; memory = zero_memory (record { base = 0x100000; lines = 1 } ∷ []) }; order = None }

-- so many processors with one file, each with page 1 mapped to the window
abbrev pub setup : ℕ → RegisterFile → Machine
setup count f = machine_of (replicate count (mapped f))

abbrev pub combining : RegisterFile
combining = with_value four_gigabytes (PhysBase 0) 1

-- WB from 0 to 4 GB and the same above
abbrev pub goal_of : RegisterFile
goal_of = with_value four_gigabytes DefaultType 0x806

-- no pair and no fixed range
abbrev pub bare_file : ℕ → RegisterFile
bare_file default_type = with_value (blank_file 36 0x400) DefaultType default_type

abbrev pub bare : Machine
bare = start_machine (bare_file 0x800 ∷ []) []

-- two processors, and one page mapped five times: WB at 1000H, WT at 2000H, WC at 3000H, UC at 4000H, WP at 5000H
abbrev pub painter : Processor
painter = record (start_processor (with_value four_gigabytes Pat 0x0606060500010406)) {
  mappings = mapping 1 0x100 0 ∷ mapping 2 0x100 1 ∷ mapping 3 0x100 2 ∷ mapping 4 0x100 3 ∷ mapping 5 0x100 4 ∷ [];
}

abbrev pub palette : Machine
palette = machine_of (painter ∷ painter ∷ [])

-- an update that was called, and one whose go was given
abbrev pub begun : RegisterFile → Machine → Machine
begun goal m = run m (Calls goal ∷ [])

abbrev pub called : Machine → Machine
called m = run m (Calls goal_of ∷ Goes ∷ [])

abbrev pub alone : Processor → Machine
alone p = machine_of (p ∷ [])

-- an entry of this page, which may be global
abbrev pub entry : ℕ → Bool → Entry
entry page global = record { vpage = page; ppage = 0x100; kind = WB; global = global; era = 0 }

abbrev pub bare_snooper : Machine
bare_snooper = alone (record (start_processor (bare_file 0x800)) { self_snoop = true })

-- a self-snooping processor and one that isn't, over two lines of memory
abbrev pub mixed : Machine
mixed = record {
  system = record {
    processors = record (mapped (bare_file 0x806)) { self_snoop = true } ∷ mapped (bare_file 0x806) ∷ [];
    memory = zero_memory (record { base = 0x100000; lines = 2 } ∷ []);
  };
  order = None;
}

abbrev pub flags : Machine → List Bool
flags m = map (λ p. p.self_snoop) m.system.processors

-- so many lines from a number on, each with word 0 dirty
abbrev pub dirty_lines : ℕ → ℕ → List CacheLine
dirty_lines first zero = []
dirty_lines first (suc count) =
    record { number = first; words = first ∷ 0 ∷ 0 ∷ 0 ∷ 0 ∷ 0 ∷ 0 ∷ 0 ∷ []; dirty = 1; era = 0 } ∷ dirty_lines (first + 1) count

abbrev pub entries_from : ℕ → ℕ → List Entry
entries_from page zero = []
entries_from page (suc count) = entry page false ∷ entries_from (page + 1) count

abbrev pub mappings_from : ℕ → ℕ → List Mapping
mappings_from page zero = []
mappings_from page (suc count) = mapping page 0x100 0 ∷ mappings_from (page + 1) count

-- a line at the window's begin, whose words 1 and 2 are dirty
abbrev pub line_of : ℕ → ℕ → CacheLine
line_of number era = record { number = number; words = 0 ∷ 6 ∷ 7 ∷ 0 ∷ 0 ∷ 0 ∷ 0 ∷ 0 ∷ []; dirty = 6; era = era }

-- it has the registers of goal_of, and a line, a buffer and an entry of era 1
abbrev pub keeper : Processor
keeper = record (start_processor goal_of) {
  lines = line_of 0x4000 1 ∷ [];
  buffers = line_of 0x4000 1 ∷ [];
  entries = record (entry 1 false) { era = 1 } ∷ [];
  era = 1;
}

-- it keeps all that a processor keeps, and has a line, a buffer and an entry
abbrev pub whole : Processor
whole = record (start_processor (bare_file 0x800)) {
  mappings = mapping 1 0x100 7 ∷ [];
  lines = line_of 0x4000 0 ∷ [];
  buffers = line_of 0x4000 0 ∷ [];
  entries = entry 1 false ∷ [];
}

-- the same with a clean line of zeros
abbrev pub copier : Processor
copier = record whole { lines = record (line_of 0x4000 0) { words = replicate 8 0; dirty = 0 } ∷ [] }

abbrev pub idle : Processor
idle = start_processor (bare_file 0x800)

-- over 64 lines of which the word at an address is this number, and 0 everywhere else
abbrev pub with_word : ℕ → ℕ → Machine → Machine
with_word address value m = record m { system = record m.system { memory = put_word m.system.memory address value } }

-- the same of the first word
abbrev pub with_first_word : ℕ → Machine → Machine
with_first_word value m = with_word 0x100000 value m

-- a call for other registers, of processors that have taken
abbrev pub call_order : Order
call_order = record { goal = bare_file 0x806; from_era = 0; go = Pending }

abbrev pub calling : Order → List Processor → Machine
calling o ps = record (machine_of ps) { order = Some o }

abbrev pub ready : Processor
ready = record idle { phase = Taken }
