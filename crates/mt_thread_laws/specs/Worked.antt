-- Processors and systems of worked examples, with pages of their own.
use Rattle.std.specs.Prelude.{ℕ, ◌==◌, Bool, List, [], ◌∷◌}
use Rattle.mt_types_laws.specs.WorkedRows.{four_gigabytes}
use Rattle.mt_machine.specs.Memory.{Window, put_word}
use Rattle.mt_machine.specs.System.{Processor, System, start_processor}
use Rattle.mt_machine.specs.Start.{zero_memory}
use Rattle.mt_machine_laws.specs.MachineWorkedRuns.{line_of, mapping}

-- page 1 is mapped to this physical page
abbrev pub owner : ℕ → Processor
owner page = record (start_processor four_gigabytes) { mappings = mapping 1 page 0 ∷ [] }

abbrev pub line_at : ℕ → Window
line_at base = record { base = base; lines = 1 }

abbrev pub over : List Processor → System
over ps = record { processors = ps; memory = zero_memory (line_at 0x100000 ∷ line_at 0x200000 ∷ []) }

-- two processors with a line each
abbrev pub pair : System
pair = over (owner 0x100 ∷ owner 0x200 ∷ [])

abbrev pub first_page : ℕ → Bool
first_page page = page == 0x100

abbrev pub second_page : ℕ → Bool
second_page page = page == 0x200

-- the first word of each line is marked
abbrev pub marked : System
marked = record pair { memory = put_word (put_word pair.memory 0x100000 5) 0x200000 6 }

-- both name one page; the second has a dirty word in it; and both access it without caches
abbrev pub sharing : System
sharing = over (owner 0x100 ∷ owner 0x100 ∷ [])

abbrev pub shared : System
shared = over (owner 0x100 ∷ record (owner 0x100) { lines = record (line_of 0x4000 0) { words = 7 ∷ 0 ∷ 0 ∷ 0 ∷ 0 ∷ 0 ∷ 0 ∷ 0 ∷ []; dirty = 1 } ∷ [] } ∷ [])

abbrev pub past_caches : Processor
past_caches = record (start_processor four_gigabytes) { mappings = mapping 1 0x100 3 ∷ [] }

abbrev pub uncached : System
uncached = over (past_caches ∷ past_caches ∷ [])
