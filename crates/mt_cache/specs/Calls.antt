-- Lists of lines, as the calls on a cache and on write-combining buffers make them.
use Rattle.std.specs.Prelude.{ℕ, ◌==◌, Bool, List, if◌then◌else◌, slice_get, Option, None, Some, is_some}
use Rattle.std.specs.List.{All}
use Rattle.std.specs.Option.{option_map_or}
use Rattle.mt_cache.specs.declared.line.CacheLine.{CacheLine}
use Rattle.mt_cache.specs.Lines.{AreDistinct, IsLine, find_line, without_line, change_line, write_dirty, write_clean, first_dirty_word, oldest_of_full, combined_with}

-- what a cache and the buffers keep of their lines
pub record AreLines (ls : List CacheLine) : Type 0 where
  pub distinct : AreDistinct ls
  pub whole : All IsLine ls

abbrev pub clean_line_of : ℕ → List ℕ → ℕ → CacheLine
clean_line_of n words era = record { number = n; words = words; dirty = 0; era = era }

-- the lines after a full list handed its oldest line back
abbrev pub with_room : ℕ → List CacheLine → List CacheLine
with_room size ls = option_map_or (λ l. without_line l.number ls) (oldest_of_full size ls) ls

-- f at the line that stands at this place
abbrev pub change_at : ℕ → (CacheLine → CacheLine) → List CacheLine → List CacheLine
change_at i f ls = option_map_or (λ l. change_line l.number f ls) (slice_get ls i) ls

-- without the line that stands at this place
abbrev pub without_at : ℕ → List CacheLine → List CacheLine
without_at i ls = option_map_or (λ l. without_line l.number ls) (slice_get ls i) ls

abbrev pub write_word : ℕ → ℕ → Bool → CacheLine → CacheLine
write_word word value dirty l = if dirty then write_dirty word value l else write_clean word value l

abbrev pub has_dirty_word : CacheLine → Bool
has_dirty_word l = is_some (first_dirty_word l)

-- ---- buffers

-- a buffer of a new line needs room
abbrev pub with_room_for : ℕ → List CacheLine → List CacheLine
with_room_for n bs = if is_some (find_line n bs) then bs else with_room 4 bs

-- the buffers after a word is combined, all of them still there
abbrev pub joined : ℕ → ℕ → ℕ → ℕ → List CacheLine → List CacheLine
joined n word value era bs = combined_with n word value era (with_room_for n bs)

-- the buffer of this line, if all its words are written
abbrev pub full_buffer : ℕ → List CacheLine → Option CacheLine
full_buffer n bs = option_map_or (λ b. if b.dirty == 0xff then Some b else None) (find_line n bs) None

-- the buffers that stay, and the one that is handed back
abbrev pub left_by_combine : ℕ → ℕ → ℕ → ℕ → List CacheLine → List CacheLine
left_by_combine n word value era bs =
    if is_some (full_buffer n (joined n word value era bs)) then without_line n (joined n word value era bs)
    else joined n word value era bs

abbrev pub handed_back : ℕ → ℕ → ℕ → ℕ → List CacheLine → Option CacheLine
handed_back n word value era bs =
    if is_some (find_line n bs) then full_buffer n (joined n word value era bs) else oldest_of_full 4 bs
