-- A system by its parts, and what mt_machine says of a system where the code has its processors alone.
use Rattle.std.specs.Prelude.{ℕ, ◌/◌, Bool, false, List, [], slice_get, Option, None}
use Rattle.std.specs.Option.{option_map_or}
use Rattle.mt_kinds.specs.Sizes.{page_bytes}
use Rattle.mt_cache.specs.declared.line.CacheLine.{CacheLine}
use Rattle.mt_tlb.specs.declared.entry.Entry.{Entry}
use Rattle.mt_tlb.specs.declared.mapping.Mapping.{Mapping}
use Rattle.mt_machine.specs.declared.done.Done.{Done}
use Rattle.mt_machine.specs.declared.ruled.Ruled.{Ruled}
use Rattle.mt_machine.specs.Memory.{Memory}
use Rattle.mt_machine.specs.System.{Processor, System, buffers_of, change, lines_of}
use Rattle.mt_machine.specs.Bus.{bus_read}
use Rattle.mt_machine.specs.Access.{Answered, entry_of, is_running}
use Rattle.mt_machine.specs.Control.{RuledAfter}

abbrev pub system : List Processor → Memory → System
system ps m = record { processors = ps; memory = m }

abbrev pub without_memory : List Processor → System
without_memory ps = system ps (record { windows = []; words = [] })

abbrev pub with_changed : (Processor → Processor) → ℕ → List Processor → List Processor
with_changed f k ps = (change f k (without_memory ps)).processors

-- memory once these caches' dirty words of the line are written back
abbrev pub written_back : ℕ → Memory → List Processor → Memory
written_back n m ps = (bus_read n (system ps m)).memory

abbrev pub lines_in : ℕ → List Processor → List CacheLine
lines_in k ps = lines_of (without_memory ps) k

abbrev pub buffers_in : ℕ → List Processor → List CacheLine
buffers_in k ps = buffers_of (without_memory ps) k

-- the entry by which processor k translates an address
abbrev pub entry_in : ℕ → ℕ → List Processor → Option Entry
entry_in k address ps = option_map_or (λ p. entry_of p (address / page_bytes)) (slice_get ps k) None

abbrev pub is_running_in : ℕ → List Processor → Bool
is_running_in k ps = option_map_or (λ p. is_running p.phase) (slice_get ps k) false

abbrev pub answered : Done → System → Answered
answered d s = record { answer = d; after = s }

abbrev pub mappings_in : ℕ → List Processor → List Mapping
mappings_in k ps = option_map_or (λ p. p.mappings) (slice_get ps k) []

abbrev pub ruled : Ruled → System → RuledAfter
ruled r s = record { answer = r; after = s }
