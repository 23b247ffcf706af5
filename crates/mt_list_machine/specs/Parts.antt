-- Memory by its parts, as the code has them: the windows of a layout, and the words.
use Rattle.std.specs.Prelude.{ℕ, List, Option, if◌then◌else◌}
use Rattle.std.specs.Option.{option_map_or}
use Rattle.mt_cache.specs.declared.line.CacheLine.{CacheLine}
use Rattle.mt_cache.specs.Lines.{has_number}
use Rattle.mt_tlb.specs.declared.entry.Entry.{Entry}
use Rattle.mt_machine.specs.Access.{keep_entry}
use Rattle.mt_machine.specs.Memory.{Memory, write_back}
use Rattle.mt_machine.specs.System.{Processor, System, change}
use Rattle.mt_laws.specs.Parts.{system}

abbrev pub memory : Memory → List ℕ → Memory
memory layout words = record { windows = layout.windows; words = words }

-- a system whose memory is so given
abbrev pub bus : Memory → List Processor → List ℕ → System
bus layout ps words = system ps (memory layout words)

-- processor k keeps an entry, if there is one
abbrev pub with_entry_in : Option Entry → ℕ → System → System
with_entry_in e k s = option_map_or (λ e. change (keep_entry e) k s) e s

-- a line goes to memory if it has this number
abbrev pub write_back_if : ℕ → CacheLine → Memory → Memory
write_back_if number l m = if has_number number l then write_back m l else m
