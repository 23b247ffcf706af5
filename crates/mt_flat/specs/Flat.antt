-- The flat machine: words, and what each processor has pending for write combining. It has no cache (own).
-- What empties pending lines is from Intel SDM volume 3A, chapter Memory Cache Control, section "Buffering of Write
-- Combining Memory Locations". That the first of four lines gives way is this project's choice (own).
use Rattle.std.specs.Prelude.{ℕ, ◌+◌, ◌==◌, Bool, not, List, [], ◌∷◌, ◌++◌, length, map, if◌then◌else◌, Option, None, Some, is_some}
use Rattle.std.specs.Option.{option_map_or}
use Rattle.std.specs.List.{filter, find, fold, list_all}
use Rattle.mt_kinds.specs.declared.mem_type.MemType.{MemType}
use Rattle.mt_kinds.specs.declared.mem_type.MemType.TheVariants.{UC, WC}
use Rattle.mt_cache.specs.Lines.{eight}
use Rattle.mt_machine.specs.Memory.{line_of, word_of}

-- a line with words that were written and not set yet, each by its place in the line
pub record PendingLine : Type 0 where
  pub number : ℕ
  pub written : ℕ → Option ℕ

pub record Flat : Type 0 where
  pub values : ℕ → ℕ  -- of each word, by its address
  pub pending : ℕ → List PendingLine  -- of each processor, in the order of their first words

-- all words are zero, and nothing is pending
abbrev pub flat_start : Flat
flat_start = record { values = λ a. 0; pending = λ k. [] }

-- ---- lists of pending lines

abbrev pub is_of_line : ℕ → PendingLine → Bool
is_of_line n p = p.number == n

abbrev pub find_pending : ℕ → List PendingLine → Option PendingLine
find_pending n ps = find (is_of_line n) ps

abbrev pub without_pending : ℕ → List PendingLine → List PendingLine
without_pending n ps = filter (λ p. not (is_of_line n p)) ps

abbrev pub write_pending : ℕ → ℕ → PendingLine → PendingLine
write_pending word value p = record p { written = λ w. if w == word then Some value else p.written w }

-- a word joins the pending line of its number, which is added where there is none
abbrev pub joined_with : ℕ → ℕ → ℕ → List PendingLine → List PendingLine
joined_with n word value ps =
    if is_some (find_pending n ps) then map (λ p. if is_of_line n p then write_pending word value p else p) ps
    else ps ++ write_pending word value (record { number = n; written = λ w. None }) ∷ []

abbrev pub first_of_four : List PendingLine → Option PendingLine
first_of_four [] = None
first_of_four (p ∷ ps) = if length ps + 1 == 4 then Some p else None

abbrev pub is_whole : PendingLine → Bool
is_whole p = list_all (λ w. is_some (p.written w)) eight

-- ---- what is emptied, and set

abbrev pub with_pending : ℕ → (List PendingLine → List PendingLine) → Flat → Flat
with_pending k f m = record m { pending = λ j. if j == k then f (m.pending j) else m.pending j }

abbrev pub set_value : ℕ → ℕ → Flat → Flat
set_value address value m = record m { values = λ a. if a == address then value else m.values a }

-- an emptied line sets its written words
abbrev pub set_words : Flat → PendingLine → Flat
set_words m p = record m { values = λ a. if p.number == line_of a then option_map_or (λ v. v) (p.written (word_of a)) (m.values a) else m.values a }

-- all lines of the processor, in their order
abbrev pub empty_all : ℕ → Flat → Flat
empty_all k m = with_pending k (λ _. []) (fold set_words m (m.pending k))

-- the processor's line of this number
abbrev pub empty_line : ℕ → ℕ → Flat → Flat
empty_line k n m = option_map_or (λ p. with_pending k (without_pending n) (set_words m p)) (find_pending n (m.pending k)) m

-- where a new line is wanted and four stand the first is emptied
abbrev pub make_pending_room : ℕ → ℕ → Flat → Flat
make_pending_room k n m =
    if is_some (find_pending n (m.pending k)) then m
    else option_map_or (λ p. with_pending k (without_pending p.number) (set_words m p)) (first_of_four (m.pending k)) m

-- the line is emptied once its eight words are written
abbrev pub empty_whole : ℕ → ℕ → Flat → Flat
empty_whole k n m = option_map_or (λ p. if is_whole p then empty_line k n m else m) (find_pending n (m.pending k)) m

abbrev pub join : ℕ → ℕ → ℕ → ℕ → Flat → Flat
join k n word value m = empty_whole k n (with_pending k (joined_with n word value) (make_pending_room k n m))

-- ---- accesses

-- what the flat machine is given: a processor, the type of its access, the physical word and the value; and fences, with all else that empties a processor's lines
pub data FlatEvent : Type 0 where
  Loads : (k : ℕ) → (kind : MemType) → (word : ℕ) → FlatEvent
  Stores : (k : ℕ) → (kind : MemType) → (word : ℕ) → (value : ℕ) → FlatEvent
  Empties : (k : ℕ) → FlatEvent

-- what a load and a store empty
abbrev pub before_load : MemType → ℕ → ℕ → Flat → Flat
before_load UC k word m = empty_all k m
before_load other k word m = empty_line k (line_of word) m

abbrev pub before_store : MemType → ℕ → ℕ → Flat → Flat
before_store UC k word m = empty_all k m
before_store WC k word m = m
before_store other k word m = empty_line k (line_of word) m

-- the word's value after what the load empties
abbrev pub flat_answer : Flat → ℕ → MemType → ℕ → ℕ
flat_answer m k kind word = (before_load kind k word m).values word

-- a write-combining store joins the pending words, and every other one sets its word
abbrev pub flat_store : MemType → ℕ → ℕ → ℕ → Flat → Flat
flat_store WC k word value m = join k (line_of word) (word_of word) value m
flat_store other k word value m = set_value word value m

abbrev pub flat_next : Flat → FlatEvent → Flat
flat_next m (Loads k kind word) = before_load kind k word m
flat_next m (Stores k kind word value) = flat_store kind k word value (before_store kind k word m)
flat_next m (Empties k) = empty_all k m
