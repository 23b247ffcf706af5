-- Worked states, and flat machines beside them.
use Rattle.std.specs.Prelude.{ℕ, List, [], ◌∷◌, map, None}
use Rattle.mt_machine.specs.declared.event.Event.TheVariants.{Leave}
use Rattle.mt_machine.specs.Machine.{Machine, MachineEvent, Cancels, Steps}
use Rattle.mt_machine.specs.System.{System, buffers_of, now}
use Rattle.mt_machine_laws.specs.MachineWorkedRuns.{alone, call_order, calling, idle, line_of, machine_of, palette, store, whole}
use Rattle.mt_flat.specs.Flat.{Flat, PendingLine, flat_start}
use Rattle.mt_flat.specs.Seen.{flat_run, written_of}
use Rattle.mt_flat.specs.Courses.{Does, Turn}

-- beside two processors that have one page with five types, from zeros on
abbrev pub flat_of : List MachineEvent → Flat
flat_of es = flat_run palette es flat_start

-- one with no word written
abbrev pub pending_line : ℕ → PendingLine
pending_line number = record { number = number; written = λ word. None }

-- a store that a cache takes
abbrev pub one_store : List MachineEvent
one_store = store 0 0x1008 9 ∷ []

-- stores to four lines of write-combining memory
abbrev pub four_lines : List MachineEvent
four_lines = store 0 0x3000 1 ∷ store 0 0x3040 2 ∷ store 0 0x3080 3 ∷ store 0 0x30c0 4 ∷ []

-- the one that stands beside a system
abbrev pub beside : System → Flat
beside s = record { values = now s; pending = λ k. map written_of (buffers_of s k) }

-- a processor with a dirty line, and one that has another value of its second word in a buffer
abbrev pub two_values : Machine
two_values = machine_of (record idle { lines = line_of 0x4000 0 ∷ [] } ∷ record idle { buffers = record (line_of 0x4000 0) { words = 0 ∷ 8 ∷ 0 ∷ 0 ∷ 0 ∷ 0 ∷ 0 ∷ 0 ∷ []; dirty = 2 } ∷ [] } ∷ [])

-- a processor with a buffer
abbrev pub combiner : Machine
combiner = alone (record idle { buffers = line_of 0x4000 0 ∷ [] })

-- two that combine one word, each with a value of its own
abbrev pub both_combine : Machine
both_combine =
    machine_of (record idle { buffers = line_of 0x4000 0 ∷ [] } ∷ record idle { buffers = record (line_of 0x4000 0) { words = 0 ∷ 8 ∷ 0 ∷ 0 ∷ 0 ∷ 0 ∷ 0 ∷ 0 ∷ []; dirty = 2 } ∷ [] } ∷ [])

-- its update is called, and its buffer isn't taken yet
abbrev pub called_whole : Machine
called_whole = calling call_order (whole ∷ [])

-- all have taken, and the update is cancelled
abbrev pub cancelled_turns : List Turn
cancelled_turns = Does Cancels ∷ Does (Steps 0 Leave) ∷ []
