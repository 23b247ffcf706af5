-- Lines of a cache or of the write-combining buffers, in the order in which they were filled (own).
use Rattle.std.specs.Prelude.{◌≡◌, ◌≢◌, ℕ, ◌+◌, ◌-◌, ◌^◌, ◌<◌, ◌==◌, bit_and, bit_or, Bool, not, List, [], ◌∷◌, ◌++◌, length, map, if◌then◌else◌, slice_set, Option, None, Some, is_some}
use Rattle.std.specs.List.{AllPairs, filter, find}
use Rattle.mt_kinds.specs.Bits.{is_bit_set}
use Rattle.mt_cache.specs.declared.line.CacheLine.{CacheLine}

-- the places of the words in a line
abbrev pub eight : List ℕ
eight = 0 ∷ 1 ∷ 2 ∷ 3 ∷ 4 ∷ 5 ∷ 6 ∷ 7 ∷ []

-- a line has eight words and a bit for each
pub record IsLine (l : CacheLine) : Type 0 where
  pub eight_words : length l.words ≡ 8
  pub eight_bits : l.dirty < 2 ^ 8

abbrev pub is_dirty : CacheLine → ℕ → Bool
is_dirty l word = is_bit_set l.dirty word

abbrev pub has_number : ℕ → CacheLine → Bool
has_number n l = l.number == n

-- no two lines have one number
abbrev pub AreDistinct : List CacheLine → Type 0
AreDistinct ls = AllPairs (λ a b. a.number ≢ b.number) ls

abbrev pub find_line : ℕ → List CacheLine → Option CacheLine
find_line n ls = find (has_number n) ls

abbrev pub without_line : ℕ → List CacheLine → List CacheLine
without_line n ls = filter (λ l. not (has_number n l)) ls

-- f at the line of this number
abbrev pub change_line : ℕ → (CacheLine → CacheLine) → List CacheLine → List CacheLine
change_line n f ls = map (λ l. if has_number n l then f l else l) ls

-- the line with no dirty word
abbrev pub clean_line : CacheLine → CacheLine
clean_line l = record l { dirty = 0 }

abbrev pub set_bit : ℕ → ℕ → ℕ
set_bit x i = bit_or x (2 ^ i)

-- of a byte
abbrev pub clear_bit : ℕ → ℕ → ℕ
clear_bit x i = bit_and x (255 - 2 ^ i)

abbrev pub write_dirty : ℕ → ℕ → CacheLine → CacheLine
write_dirty word value l = record l { words = slice_set l.words word value; dirty = set_bit l.dirty word }

abbrev pub write_clean : ℕ → ℕ → CacheLine → CacheLine
write_clean word value l = record l { words = slice_set l.words word value; dirty = clear_bit l.dirty word }

abbrev pub clean_word : ℕ → CacheLine → CacheLine
clean_word word l = record l { dirty = clear_bit l.dirty word }

-- the first dirty word of a line, and the first line of a list that has one
abbrev pub first_dirty_word : CacheLine → Option ℕ
first_dirty_word l = find (is_dirty l) eight

abbrev pub first_dirty_line : List CacheLine → Option CacheLine
first_dirty_line ls = find (λ l. is_some (first_dirty_word l)) ls

-- the oldest line of a list of so many
abbrev pub oldest_of_full : ℕ → List CacheLine → Option CacheLine
oldest_of_full size [] = None
oldest_of_full size (l ∷ ls) = if length ls + 1 == size then Some l else None

-- a word is combined into the buffer of its line, which is added where there is none
abbrev pub combined_with : ℕ → ℕ → ℕ → ℕ → List CacheLine → List CacheLine
combined_with n word value era bs =
    if is_some (find_line n bs) then change_line n (write_dirty word value) bs
    else bs ++ write_dirty word value (record { number = n; words = 0 ∷ 0 ∷ 0 ∷ 0 ∷ 0 ∷ 0 ∷ 0 ∷ 0 ∷ []; dirty = 0; era = era }) ∷ []
