-- The line of a number in a list of lines with distinct numbers.
use Rattle.std.proofs.Common.{◌≡◌, ◌∙◌, ap, sym, refl, ℕ, ◌==◌, Bool, true, false, not, List, [], ◌∷◌, if◌then◌else◌, Option, Some, None, slice_get}
use Rattle.std.proofs.lemmas.Bool.{eqb-true}
use Rattle.std.specs.List.{filter, fold}
use Rattle.std.specs.Option.{option_map_or}
use Rattle.mt_lists.proofs.Keys.{Apart, change_none, filter_none, found_key, to_apart}
use Rattle.mt_cache.specs.declared.line.CacheLine.{CacheLine}
use Rattle.mt_cache.specs.Lines.{AreDistinct, change_line, clean_line, find_line, has_number, without_line}
use Rattle.mt_cache.specs.Calls.{change_at, without_at}
use Rattle.mt_machine.specs.Memory.{Memory, write_back, write_back_of}

abbrev number_of : CacheLine → ℕ
number_of l = l.number

-- the calls of a cache at the place of the line of this number
pub change_found : (n i : ℕ) (f : CacheLine → CacheLine) (ls : List CacheLine) → slice_get ls i ≡ find_line n ls → change_at i f ls ≡ change_line n f ls
change_found n i f ls at = ap (λ o. option_map_or (λ (l : CacheLine). change_line l.number f ls) o ls) at ∙ one (find_line n ls) refl
  where
    one : (o : Option CacheLine) → find_line n ls ≡ o → option_map_or (λ (l : CacheLine). change_line l.number f ls) o ls ≡ change_line n f ls
    one None is = sym (change_none number_of n f ls is)
    one (Some l) is = ap (λ k. change_line k f ls) (found_key number_of n ls l is)

pub change_absent : (n : ℕ) (f : CacheLine → CacheLine) (ls : List CacheLine) → find_line n ls ≡ None → change_line n f ls ≡ ls
change_absent n f ls none = change_none number_of n f ls none

pub without_found : (n i : ℕ) (ls : List CacheLine) → slice_get ls i ≡ find_line n ls → without_at i ls ≡ without_line n ls
without_found n i ls at = ap (λ o. option_map_or (λ (l : CacheLine). without_line l.number ls) o ls) at ∙ one (find_line n ls) refl
  where
    one : (o : Option CacheLine) → find_line n ls ≡ o → option_map_or (λ (l : CacheLine). without_line l.number ls) o ls ≡ without_line n ls
    one None is = sym (filter_none number_of n ls is)
    one (Some l) is = ap (λ k. without_line k ls) (found_key number_of n ls l is)

pub without_absent : (n : ℕ) (ls : List CacheLine) → find_line n ls ≡ None → without_line n ls ≡ ls
without_absent n ls none = filter_none number_of n ls none

-- at most one line has the number
only_line : (n : ℕ) (ls : List CacheLine) → Apart number_of ls → filter (has_number n) ls ≡ option_map_or (λ l. l ∷ []) (find_line n ls) []
only_line n [] apart = refl
only_line n (x ∷ xs) apart = one (x.number == n) refl (only_line n xs apart.1)
  where
    one : (b : Bool) → (x.number == n) ≡ b → filter (has_number n) xs ≡ option_map_or (λ l. l ∷ []) (find_line n xs) []
        → (if b then x ∷ filter (has_number n) xs else filter (has_number n) xs) ≡ option_map_or (λ (l : CacheLine). l ∷ []) (if b then Some x else find_line n xs) []
    one true is rest = ap (λ ls. x ∷ ls) (rest ∙ ap (λ o. option_map_or (λ (l : CacheLine). l ∷ []) o []) (ap (λ k. find_line k xs) (sym (eqb-true _ _ is)) ∙ apart.0))
    one false is rest = rest

back_found : (n : ℕ) (m : Memory) (l : CacheLine) (ls : List CacheLine) → AreDistinct ls → find_line n ls ≡ Some l → write_back_of n m ls ≡ write_back m l
back_found n m l ls apart is = ap (fold write_back m) (only_line n ls (to_apart number_of ls apart) ∙ ap (λ o. option_map_or (λ (k : CacheLine). k ∷ []) o []) is)

pub back_absent : (n : ℕ) (m : Memory) (ls : List CacheLine) → AreDistinct ls → find_line n ls ≡ None → write_back_of n m ls ≡ m
back_absent n m ls apart none = ap (fold write_back m) (only_line n ls (to_apart number_of ls apart) ∙ ap (λ o. option_map_or (λ (k : CacheLine). k ∷ []) o []) none)

-- the line at the place of this number
pub back_at : (n i : ℕ) (m : Memory) (ls : List CacheLine) (l : CacheLine) → AreDistinct ls → slice_get ls i ≡ Some l → slice_get ls i ≡ find_line n ls → write_back_of n m ls ≡ write_back m l
back_at n i m ls l apart here at = back_found n m l ls apart (sym at ∙ here)

-- a line that is dropped may have been cleaned first
pub without_cleaned : (n : ℕ) (ls : List CacheLine) → without_line n (change_line n clean_line ls) ≡ without_line n ls
without_cleaned n [] = refl
without_cleaned n (l ∷ ls) = one (l.number == n) refl (without_cleaned n ls)
  where
    one : (b : Bool) → (l.number == n) ≡ b → without_line n (change_line n clean_line ls) ≡ without_line n ls
        → without_line n ((if b then clean_line l else l) ∷ change_line n clean_line ls) ≡ (if not b then l ∷ without_line n ls else without_line n ls)
    one true is rest = ap (λ x. if not x then clean_line l ∷ without_line n (change_line n clean_line ls) else without_line n (change_line n clean_line ls)) is ∙ rest
    one false is rest = ap (λ x. if not x then l ∷ without_line n (change_line n clean_line ls) else without_line n (change_line n clean_line ls)) is ∙ ap (λ xs. l ∷ xs) rest
