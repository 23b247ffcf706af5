-- What the caches, the write-combining buffers and the memory do for an access: snoops, buffers that are emptied, fills.
-- Intel SDM volume 3A, chapter Memory Cache Control, sections "Cache Control Protocol" and "Buffering of Write Combining
-- Memory Locations". That the oldest line or buffer gives way is this project's choice (own).
use Rattle.std.specs.Prelude.{ℕ, ◌+◌, ◌==◌, List, [], ◌∷◌, ◌++◌, map, if◌then◌else◌, is_some}
use Rattle.std.specs.Option.{option_map_or}
use Rattle.std.specs.List.{remove, fold}
use Rattle.mt_cache.specs.declared.line.CacheLine.{CacheLine}
use Rattle.mt_cache.specs.Lines.{change_line, clean_line, combined_with, find_line, oldest_of_full, without_line}
use Rattle.mt_machine.specs.Memory.{fresh_line, put_word, write_back, write_back_of}
use Rattle.mt_machine.specs.System.{Processor, System, change, lines_of, buffers_of}

abbrev pub with_lines : (List CacheLine → List CacheLine) → Processor → Processor
with_lines f p = record p { lines = f p.lines }

abbrev pub with_buffers : (List CacheLine → List CacheLine) → Processor → Processor
with_buffers f p = record p { buffers = f p.buffers }

-- in each cache each dirty word of the line is written to memory and becomes clean; copies stay
abbrev pub bus_read : ℕ → System → System
bus_read n s = record {
  processors = map (with_lines (change_line n clean_line)) s.processors;
  memory = fold (λ m p. write_back_of n m p.lines) s.memory s.processors;
}

abbrev pub invalidate : ℕ → System → System
invalidate n s = record s { processors = map (with_lines (without_line n)) s.processors }

-- f at each processor but k, where the list begins with number i
abbrev pub others_from : ℕ → ℕ → (Processor → Processor) → List Processor → List Processor
others_from i k f [] = []
others_from i k f (p ∷ ps) = (if i == k then p else f p) ∷ others_from (i + 1) k f ps

abbrev pub invalidate_others : ℕ → ℕ → System → System
invalidate_others k n s = record s { processors = others_from 0 k (with_lines (without_line n)) s.processors }

-- the dirty words of the line in the caches of the others go to memory
abbrev pub write_back_others : ℕ → ℕ → System → System
write_back_others k n s = record s { memory = fold (λ m p. write_back_of n m p.lines) s.memory (remove s.processors k) }

-- the line is read on the bus and invalidated in all caches, and each written word is stored
abbrev pub empty_buffer : System → CacheLine → System
empty_buffer s b =
    let read = invalidate b.number (bus_read b.number s) in
    record read { memory = write_back read.memory b }

-- all buffers of the processor are emptied, oldest first
abbrev pub drain : ℕ → System → System
drain k s = change (with_buffers (λ _. [])) k (fold empty_buffer s (buffers_of s k))

-- the processor's buffer of this line is emptied
abbrev pub drain_line : ℕ → ℕ → System → System
drain_line k n s =
    option_map_or (λ b. change (with_buffers (without_line n)) k (empty_buffer s b)) (find_line n (buffers_of s k)) s

-- a full cache pushes out the oldest line and writes its dirty words to memory
abbrev pub make_room : ℕ → System → System
make_room k s =
    option_map_or
    (λ l. change (with_lines (without_line l.number)) k (record s { memory = write_back s.memory l }))
    (oldest_of_full 64 (lines_of s k))
    s

abbrev pub fill_line : ℕ → ℕ → System → System
fill_line k n s =
    let room = make_room k s in
    change (λ p. record p { lines = p.lines ++ fresh_line room.memory n p.era ∷ [] }) k room

-- where a new buffer is wanted and four stand the oldest is emptied first
abbrev pub make_buffer_room : ℕ → ℕ → System → System
make_buffer_room k n s =
    if is_some (find_line n (buffers_of s k)) then s
    else option_map_or (λ b. change (with_buffers (without_line b.number)) k (empty_buffer s b)) (oldest_of_full 4 (buffers_of s k)) s

-- and the buffer of this line is emptied once its eight words are written
abbrev pub empty_if_whole : ℕ → ℕ → System → System
empty_if_whole k n s =
    option_map_or (λ b. if b.dirty == 0xff then drain_line k n s else s) (find_line n (buffers_of s k)) s

-- a store is combined into the processor's buffers
abbrev pub combine : ℕ → ℕ → ℕ → ℕ → System → System
combine k n word value s =
    empty_if_whole k n (change (λ p. record p { buffers = combined_with n word value p.era p.buffers }) k (make_buffer_room k n s))

abbrev pub store_in_memory : ℕ → ℕ → System → System
store_in_memory address value s = record s { memory = put_word s.memory address value }
