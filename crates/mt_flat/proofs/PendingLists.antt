-- The written words of buffers: what searches and changes of the buffers do to them.
use Rattle.std.proofs.Common.{◌≡◌, ℕ, ◌+◌, ◌<◌, ◌==◌, List, [], ◌∷◌, ◌++◌, length, Some, None, Option, Bool, true, false, refl, sym, ap, ◌∙◌, arith}
use Rattle.std.specs.Prelude.{slice_index, slice_set, if◌then◌else◌, ◌&&◌, not, map, is_some}
use Rattle.std.specs.Option.{option_map}
use Rattle.std.specs.List.{list_all}
use Rattle.std.specs.Int.{bit_at}
use Rattle.std.proofs.lemmas.Bool.{eqb-true, eqb-false}
use Rattle.std.proofs.lemmas.List.{length-map, get_or-set_same, get_or-set_other}
use Rattle.std.proofs.lemmas.Nat.Bits.{same_from_bits_below}
use Rattle.mt_kinds.specs.Bits.{is_bit_set}
use Rattle.mt_cache.specs.declared.line.CacheLine.{CacheLine}
use Rattle.mt_cache.specs.Lines.{eight, is_dirty, find_line, without_line, change_line, write_dirty, oldest_of_full, combined_with}
use Rattle.mt_machine.specs.Memory.{Window}
use Rattle.mt_laws.proofs.Barrier.Ranks.{and_left, and_right}
use Rattle.mt_laws.proofs.Words.BitLaws.{no_bit, set_same, set_other}
use Rattle.mt_laws.proofs.Words.LineLaws.{fits}
use Rattle.mt_laws.proofs.Words.BusLaws.{fits_eight}
use Rattle.mt_laws.proofs.Words.StepLaws.{eight_pass}
use Rattle.mt_flat.specs.Flat.{PendingLine, is_of_line, find_pending, without_pending, write_pending, joined_with, first_of_four, is_whole}
use Rattle.mt_flat.specs.Seen.{written_of}

pub find_written : (n : ℕ) (bs : List CacheLine) → find_pending n (map written_of bs) ≡ option_map written_of (find_line n bs)
find_written n [] = refl
find_written n (b ∷ bs) = one (b.number == n) (find_written n bs)
  where
    one : (c : Bool) → find_pending n (map written_of bs) ≡ option_map written_of (find_line n bs) → (if c then Some (written_of b) else find_pending n (map written_of bs)) ≡ option_map written_of (if c then Some b else find_line n bs)
    one true rest = refl
    one false rest = rest

pub without_written : (n : ℕ) (bs : List CacheLine) → without_pending n (map written_of bs) ≡ map written_of (without_line n bs)
without_written n [] = refl
without_written n (b ∷ bs) = one (b.number == n) (without_written n bs)
  where
    one : (c : Bool) → without_pending n (map written_of bs) ≡ map written_of (without_line n bs)
        → (if not c then written_of b ∷ without_pending n (map written_of bs) else without_pending n (map written_of bs)) ≡ map written_of (if not c then b ∷ without_line n bs else without_line n bs)
    one true rest = rest
    one false rest = ap (λ ps. written_of b ∷ ps) rest

pub first_written : (bs : List CacheLine) → first_of_four (map written_of bs) ≡ option_map written_of (oldest_of_full 4 bs)
first_written [] = refl
first_written (b ∷ bs) = ap (λ n. if n + 1 == 4 then Some (written_of b) else None) (length-map bs written_of) ∙ one (length bs + 1 == 4)
  where
    one : (c : Bool) → (if c then Some (written_of b) else None) ≡ option_map written_of (if c then Some b else None)
    one true = refl
    one false = refl

-- ---- a word that is written

word_written : (w v : ℕ) (b : CacheLine) → w < 8 → length b.words ≡ 8 → (i : ℕ)
    → (if i == w then Some v else (if is_dirty b i then Some (slice_index b.words i) else None)) ≡ (if is_dirty (write_dirty w v b) i then Some (slice_index (slice_set b.words w v) i) else None)
word_written w v b small eight i = one (i == w) refl
  where
    one : (c : Bool) → (i == w) ≡ c → (if c then Some v else (if is_dirty b i then Some (slice_index b.words i) else None)) ≡ (if is_dirty (write_dirty w v b) i then Some (slice_index (slice_set b.words w v) i) else None)
    one true is =
        let value : slice_index (slice_set b.words w v) w ≡ v = get_or-set_same b.words w v 0 (omega arith) in
        sym (ap (λ j. if is_dirty (write_dirty w v b) j then Some (slice_index (slice_set b.words w v) j) else None) (eqb-true i w is)
        ∙ ap (λ c. if c then Some (slice_index (slice_set b.words w v) w) else None) (set_same b.dirty w)
        ∙ ap (λ (y : ℕ). Some y) value)
    one false is =
        let other = eqb-false i w is in
        let value : slice_index (slice_set b.words w v) i ≡ slice_index b.words i = get_or-set_other b.words w i v 0 other in
        sym (ap (λ c. if c then Some (slice_index (slice_set b.words w v) i) else None) (set_other b.dirty w i other)
        ∙ ap (λ (y : ℕ). if is_dirty b i then Some y else None) value)

pub line_written : (w v : ℕ) (b : CacheLine) → w < 8 → length b.words ≡ 8 → write_pending w v (written_of b) ≡ written_of (write_dirty w v b)
line_written w v b small eight = λ j. record { number = b.number; written = λ i. word_written w v b small eight i j }

new_written : (n w v era : ℕ) → w < 8 → write_pending w v (record { number = n; written = λ i. None }) ≡ written_of (write_dirty w v (record { number = n; words = 0 ∷ 0 ∷ 0 ∷ 0 ∷ 0 ∷ 0 ∷ 0 ∷ 0 ∷ []; dirty = 0; era = era }))
new_written n w v era small =
    let b : CacheLine = record { number = n; words = 0 ∷ 0 ∷ 0 ∷ 0 ∷ 0 ∷ 0 ∷ 0 ∷ 0 ∷ []; dirty = 0; era = era } in
    let none : (i : ℕ) → None ≡ (if is_bit_set 0 i then Some (slice_index (0 ∷ 0 ∷ 0 ∷ 0 ∷ 0 ∷ 0 ∷ 0 ∷ 0 ∷ []) i) else None) = λ i. sym (ap (λ c. if c then Some (slice_index (0 ∷ 0 ∷ 0 ∷ 0 ∷ 0 ∷ 0 ∷ 0 ∷ 0 ∷ []) i) else None) (no_bit i)) in
    (λ j. write_pending w v (record { number = n; written = λ i. none i j })) ∙ line_written w v b small refl

changed_written : (ws : List Window) (n w v : ℕ) → w < 8 → (bs : List CacheLine) → list_all (fits ws) bs ≡ true → map (λ p. if is_of_line n p then write_pending w v p else p) (map written_of bs) ≡ map written_of (change_line n (write_dirty w v) bs)
changed_written ws n w v small [] fit = refl
changed_written ws n w v small (b ∷ bs) fit =
    λ j. one (b.number == n) j ∷ changed_written ws n w v small bs (and_right (fits ws b) _ fit) j
  where
    one : (c : Bool) → (if c then write_pending w v (written_of b) else written_of b) ≡ written_of (if c then write_dirty w v b else b)
    one true = line_written w v b small (fits_eight ws b (and_left _ _ fit))
    one false = refl

added_written : (bs : List CacheLine) (b : CacheLine) → map written_of bs ++ written_of b ∷ [] ≡ map written_of (bs ++ b ∷ [])
added_written [] b = refl
added_written (x ∷ bs) b = ap (λ ps. written_of x ∷ ps) (added_written bs b)

is_some_written : (o : Option CacheLine) → is_some (option_map written_of o) ≡ is_some o
is_some_written None = refl
is_some_written (Some b) = refl

pub some_written : (n : ℕ) (bs : List CacheLine) → is_some (find_pending n (map written_of bs)) ≡ is_some (find_line n bs)
some_written n bs = ap is_some (find_written n bs) ∙ is_some_written (find_line n bs)

pub joined_written : (ws : List Window) (n w v era : ℕ) → w < 8 → (bs : List CacheLine) → list_all (fits ws) bs ≡ true → joined_with n w v (map written_of bs) ≡ map written_of (combined_with n w v era bs)
joined_written ws n w v era small bs fit =
    ap (λ c. if c then map (λ p. if is_of_line n p then write_pending w v p else p) (map written_of bs) else map written_of bs ++ write_pending w v (record { number = n; written = λ i. None }) ∷ []) (some_written n bs)
    ∙ one (is_some (find_line n bs))
  where
    one : (c : Bool) → (if c then map (λ p. if is_of_line n p then write_pending w v p else p) (map written_of bs) else map written_of bs ++ write_pending w v (record { number = n; written = λ i. None }) ∷ [])
        ≡ map written_of (if c then change_line n (write_dirty w v) bs else bs ++ write_dirty w v (record { number = n; words = 0 ∷ 0 ∷ 0 ∷ 0 ∷ 0 ∷ 0 ∷ 0 ∷ 0 ∷ []; dirty = 0; era = era }) ∷ [])
    one true = changed_written ws n w v small bs fit
    one false = ap (λ (p : PendingLine). map written_of bs ++ p ∷ []) (new_written n w v era small) ∙ added_written bs _

-- ---- a whole line

all_set : (d : ℕ) → d < 256 → list_all (is_bit_set d) eight ≡ (d == 0xff)
all_set d low = one (d == 0xff) refl (list_all (is_bit_set d) eight) refl
  where
    bit : (x i : ℕ) → is_bit_set x i ≡ true → bit_at x i ≡ 1
    bit x i h = eqb-true (bit_at x i) 1 h

    one : (c : Bool) → (d == 0xff) ≡ c → (e : Bool) → list_all (is_bit_set d) eight ≡ e → e ≡ c
    one true is true all = refl
    one false is false all = refl
    one true is false all = absurd (let g : list_all (is_bit_set d) eight ≡ true = ap (λ x. list_all (is_bit_set x) eight) (eqb-true d 0xff is) in cc)
    one false is true all =
        absurd (eqb-false d 0xff is (same_from_bits_below 8 d 0xff low (omega arith) (λ i within. bit d i (eight_pass (is_bit_set d) all i within) ∙ sym (bit 0xff i (eight_pass (is_bit_set 0xff) refl i within)))))

same_tests : (b : CacheLine) (xs : List ℕ) → list_all (λ w. is_some ((written_of b).written w)) xs ≡ list_all (is_bit_set b.dirty) xs
same_tests b [] = refl
same_tests b (x ∷ xs) = λ i. one (is_bit_set b.dirty x) i && same_tests b xs i
  where
    one : (c : Bool) → is_some (if c then Some (slice_index b.words x) else None) ≡ c
    one true = refl
    one false = refl

pub whole_written : (b : CacheLine) → b.dirty < 256 → is_whole (written_of b) ≡ (b.dirty == 0xff)
whole_written b low = same_tests b eight ∙ all_set b.dirty low
