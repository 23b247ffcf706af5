-- A line above the end of the physical addresses has no word; the first of eight words; lines in turn; a test of all items.
use Rattle.std.proofs.Common.{◌≡◌, ◌∙◌, ap, sym, refl, ℕ, ◌<◌, ◌≤◌, ◌+◌, ◌^◌, ◌&&◌, Bool, true, false, if◌then◌else◌, List, [], ◌∷◌, map, drop, Some}
use Rattle.std.specs.Prelude.{slice_index}
use Rattle.std.specs.Option.{option_map_or}
use Rattle.std.specs.List.{filter, fold, find, list_all}
use Rattle.mt_cache.specs.declared.line.CacheLine.{CacheLine}
use Rattle.mt_cache.specs.Lines.{eight, has_number}
use Rattle.mt_machine.specs.Memory.{IsMemory, Memory, word_address, word_at, write_back}
use Rattle.mt_laws.proofs.Places.{eight_more, no_place, nowhere_stays}

-- the first of these words is tested
pub found_first : (test : ℕ → Bool) (i : ℕ) → i < 8 → test i ≡ true → find test (drop i eight) ≡ Some i
found_first test i l is = ap (find test) (eight_more i l) ∙ ap (λ b. if b then Some i else find test (drop (i + 1) eight)) is

pub missed_first : (test : ℕ → Bool) (i : ℕ) → i < 8 → test i ≡ false → find test (drop i eight) ≡ find test (drop (i + 1) eight)
missed_first test i l is = ap (find test) (eight_more i l) ∙ ap (λ b. if b then Some i else find test (drop (i + 1) eight)) is

-- ---- a line above the end of the physical addresses

pub no_word : (m : Memory) (words : List ℕ) (n word : ℕ) → IsMemory m → 2 ^ 46 ≤ n → 0 ≡ word_at (record { windows = m.windows; words = words }) (word_address n word)
no_word m words n word h high = sym (ap (λ o. option_map_or (λ i. slice_index words i) o 0) (no_place m n word h high))

pub line_stays : (m : Memory) (words : List ℕ) (l : CacheLine) → IsMemory m → 2 ^ 46 ≤ l.number
    → record { windows = m.windows; words = words } ≡ write_back (record { windows = m.windows; words = words }) l
line_stays m words l h high = nowhere_stays (record { windows = m.windows; words = words }) l (λ word within. no_place m l.number word h high)

-- ---- the lines of a number in turn

pub written_here : (n : ℕ) (m : Memory) (l : CacheLine) (ls rest : List CacheLine) → rest ≡ l ∷ ls
    → fold write_back (if has_number n l then write_back m l else m) (filter (has_number n) ls) ≡ fold write_back m (filter (has_number n) rest)
written_here n m l ls rest is = one (has_number n l) refl ∙ ap (λ xs. fold write_back m (filter (has_number n) xs)) (sym is)
  where
    one : (b : Bool) → has_number n l ≡ b → fold write_back (if b then write_back m l else m) (filter (has_number n) ls) ≡ fold write_back m (if b then l ∷ filter (has_number n) ls else filter (has_number n) ls)
    one true e = refl
    one false e = refl

-- ---- a test of all items

replaced_one : {X : Type 0} (within test : X → Bool) (x y : X) (ys : List X) → within x ≡ true
    → (list_all within ys ≡ true → list_all within (map (λ z. if test z then x else z) ys) ≡ true)
    → (b t : Bool) → within y ≡ b → (b && list_all within ys) ≡ true → (within (if t then x else y) && list_all within (map (λ z. if test z then x else z) ys)) ≡ true
replaced_one within test x y ys own later true true is rest = ap (λ b. b && list_all within (map (λ z. if test z then x else z) ys)) own ∙ later rest
replaced_one within test x y ys own later true false is rest = ap (λ b. b && list_all within (map (λ z. if test z then x else z) ys)) is ∙ later rest
replaced_one within test x y ys own later false t is rest = absurd (cc)

pub all_replaced : {X : Type 0} (within test : X → Bool) (x : X) (xs : List X) → within x ≡ true → list_all within xs ≡ true → list_all within (map (λ y. if test y then x else y) xs) ≡ true
all_replaced within test x [] own all = refl
all_replaced within test x (y ∷ ys) own all = replaced_one within test x y ys own (λ rest. all_replaced within test x ys own rest) (within y) (test y) refl all
