-- Physical memory: windows of words, and the words of all windows in a row (own). Outside the windows there is no memory.
use Rattle.std.specs.Prelude.{◌≡◌, ◌⊎◌, ◌<◌, ◌≤◌, length, ℕ, ◌+◌, ◌-◌, ◌*◌, ◌/◌, ◌%◌, ◌^◌, ◌==◌, nat_lt, nat_le, ◌&&◌, List, [], ◌∷◌, map, if◌then◌else◌, slice_index, slice_set, Option, None, Some}
use Rattle.std.specs.Option.{option_map_or}
use Rattle.std.specs.List.{filter, fold, All, AllPairs}
use Rattle.mt_cache.specs.declared.line.CacheLine.{CacheLine}
use Rattle.mt_cache.specs.Lines.{eight, has_number, is_dirty}

-- lines of 64 bytes from a base address on
pub record Window : Type 0 where
  pub base : ℕ
  pub lines : ℕ

pub record Memory : Type 0 where
  pub windows : List Window
  pub words : List ℕ

abbrev pub word_count : List Window → ℕ
word_count [] = 0
word_count (w ∷ ws) = 8 * w.lines + word_count ws

-- the address after the last
abbrev pub window_end : Window → ℕ
window_end w = w.base + 64 * w.lines

abbrev pub AreApart : Window → Window → Type 0
AreApart v w = (window_end v ≤ w.base) ⊎ (window_end w ≤ v.base)

-- windows have a line, begin at one, lie within the physical addresses and share none, and each of their words is there
pub record IsMemory (m : Memory) : Type 0 where
  pub some_lines : All (λ w. 0 < w.lines) m.windows
  pub aligned : All (λ w. w.base % 64 ≡ 0) m.windows
  pub bounded : All (λ w. window_end w ≤ 2 ^ 52) m.windows
  pub apart : AllPairs AreApart m.windows
  pub counted : length m.words ≡ word_count m.windows

-- the place of the word at an address, where so many words stand ahead of these windows
abbrev pub place_in : List Window → ℕ → ℕ → Option ℕ
place_in [] before address = None
place_in (w ∷ ws) before address =
    if nat_le w.base address && nat_lt address (window_end w) then Some (before + (address - w.base) / 8)
    else place_in ws (before + 8 * w.lines) address

-- none where the address is no word's, or in no window
abbrev pub place : Memory → ℕ → Option ℕ
place m address = if address % 8 == 0 then place_in m.windows 0 address else None

-- the word at an address; 0 where no window has it
abbrev pub word_at : Memory → ℕ → ℕ
word_at m address = option_map_or (λ i. slice_index m.words i) (place m address) 0

abbrev pub put_word : Memory → ℕ → ℕ → Memory
put_word m address value = option_map_or (λ i. record m { words = slice_set m.words i value }) (place m address) m

-- ---- lines in memory

-- the number of the line that has an address, and the word's place in it
abbrev pub line_of : ℕ → ℕ
line_of address = address / 64

abbrev pub word_of : ℕ → ℕ
word_of address = address % 64 / 8

abbrev pub word_address : ℕ → ℕ → ℕ
word_address line word = 64 * line + 8 * word

abbrev pub line_words : Memory → ℕ → List ℕ
line_words m line = map (λ word. word_at m (word_address line word)) eight

-- the line as it is read from memory
abbrev pub fresh_line : Memory → ℕ → ℕ → CacheLine
fresh_line m n era = record { number = n; words = line_words m n; dirty = 0; era = era }

-- memory after one word of the line, if it is dirty, and after all of them in ascending order
abbrev pub write_back_word : CacheLine → Memory → ℕ → Memory
write_back_word l m word = if is_dirty l word then put_word m (word_address l.number word) (slice_index l.words word) else m

abbrev pub write_back : Memory → CacheLine → Memory
write_back m l = fold (write_back_word l) m eight

-- memory after the dirty words of the line of this number, wherever it stands in the list
abbrev pub write_back_of : ℕ → Memory → List CacheLine → Memory
write_back_of n m ls = fold write_back m (filter (has_number n) ls)
