-- Lines of distinct numbers: what the calls make of them, by their numbers, and that they stay distinct.
use Rattle.std.proofs.Common.{◌≡◌, ◌≢◌, ℕ, zero, suc, ◌+◌, ◌<◌, ◌==◌, List, [], ◌∷◌, ◌++◌, length, set, get_or, ◌^◌, Some, None, Option, Bool, true, false, refl, sym, ap, subst, ◌∙◌, arith, ne_eqb}
use Rattle.std.specs.Prelude.{slice_get, slice_index_or, if◌then◌else◌, is_some}
use Rattle.std.specs.List.{All, refill, remove, position, find}
use Rattle.std.specs.Option.{option_map_or, option_map}
use Rattle.std.proofs.lemmas.Bool.{eq-eqb}
use Rattle.std.proofs.lemmas.List.Edits.{length-remove}
use Rattle.std.proofs.lemmas.List.Elements.{All-append, All-filter, All-set}
use Rattle.std.proofs.lemmas.Option.{slice_get-get_or}
use Rattle.std.specs.Int.{trailing_zeros}
use Rattle.std.proofs.Common.{w8}
use Rattle.std.proofs.lemmas.Nat.Bits.{bit_at-trailing_zeros}
use Rattle.std.proofs.lemmas.List.Quantifiers.{position-Some}
use Rattle.mt_kinds.specs.Bits.{is_bit_set}
use Rattle.mt_cache.specs.declared.line.CacheLine.{CacheLine}
use Rattle.mt_cache.specs.Lines.{AreDistinct, IsLine, eight, has_number, find_line, without_line, change_line, first_dirty_word, first_dirty_line, oldest_of_full}
use Rattle.mt_lists.proofs.Keys.{to_apart, from_apart, apart_filter, apart_change, apart_push, none_filter, removed, changed, at_position, no_position, position_within, filter_none, none_of, after_write}
use Rattle.mt_cache.specs.Calls.{AreLines, with_room, change_at, without_at, write_word, has_dirty_word}

abbrev pub number_of : CacheLine → ℕ
number_of l = l.number

abbrev pub KeepsNumber : (CacheLine → CacheLine) → Type 0
KeepsNumber f = (l : CacheLine) → (f l).number ≡ l.number

-- ---- one line is changed

pub write_gives : (f : CacheLine → CacheLine) (ls : List CacheLine) (i : ℕ) (d : CacheLine) → i < length ls → AreDistinct ls → set ls i (f (get_or ls i d)) ≡ change_at i f ls
write_gives f ls i d within distinct =
    let at : slice_get ls i ≡ Some (get_or ls i d) = slice_get-get_or ls i d within in
    changed number_of f ls i (get_or ls i d) (to_apart number_of ls distinct) at
    ∙ ap (λ (o : Option CacheLine). option_map_or (λ l. change_line l.number f ls) o ls) (sym at)

pub change_gives : (f : CacheLine → CacheLine) (ls shown : List CacheLine) (i : ℕ) (d line : CacheLine) → shown ≡ ls → i < length ls → line ≡ f (get_or shown i d) → AreDistinct ls → refill (length ls) ls (set shown i line) ≡ change_at i f ls
change_gives f ls shown i d line same within is distinct =
    let new : line ≡ f (get_or ls i d) = is ∙ ap (λ (xs : List CacheLine). f (get_or xs i d)) same in
    after_write ls shown i line same ∙ ap (set ls i) new ∙ write_gives f ls i d within distinct

pub change_distinct : (f : CacheLine → CacheLine) → KeepsNumber f → (ls : List CacheLine) (i : ℕ) → AreDistinct ls → AreDistinct (change_at i f ls)
change_distinct f keeps ls i distinct = one (slice_get ls i)
  where
    one : (o : Option CacheLine) → AreDistinct (option_map_or (λ l. change_line l.number f ls) o ls)
    one None = distinct
    one (Some l) = from_apart number_of (change_line l.number f ls) (apart_change number_of l.number f (λ x at. keeps x) ls (to_apart number_of ls distinct))

pub change_kept : (f : CacheLine → CacheLine) → KeepsNumber f → (ls shown : List CacheLine) (i : ℕ) (d line : CacheLine) → shown ≡ ls → i < length ls → line ≡ f (get_or shown i d) → IsLine line → AreLines ls → AreLines (refill (length ls) ls (set shown i line))
change_kept f keeps ls shown i d line same within is whole kept = record {
  distinct = subst AreDistinct (sym (change_gives f ls shown i d line same within is kept.distinct)) (change_distinct f keeps ls i kept.distinct);
  whole = subst (All IsLine) (sym (after_write ls shown i line same)) (All-set IsLine ls i line whole kept.whole);
}

-- ---- a line is taken out

pub line_at : (ls : List CacheLine) (i : ℕ) (l : CacheLine) → i < length ls → l ≡ slice_index_or ls i l → slice_get ls i ≡ Some l
line_at ls i l within is = slice_get-get_or ls i l within ∙ ap Some (sym is)

pub line_out : (ls : List CacheLine) (i : ℕ) (l : CacheLine) → slice_get ls i ≡ Some l → AreDistinct ls → remove ls i ≡ without_line l.number ls
line_out ls i l at distinct = removed number_of ls i l (to_apart number_of ls distinct) at

pub take_gives : (ls : List CacheLine) (i : ℕ) (l : CacheLine) → i < length ls → l ≡ slice_index_or ls i l → AreDistinct ls → remove ls i ≡ without_line l.number ls
take_gives ls i l within is distinct = line_out ls i l (line_at ls i l within is) distinct

pub without_distinct : (n : ℕ) (ls : List CacheLine) → AreDistinct ls → AreDistinct (without_line n ls)
without_distinct n ls distinct = from_apart number_of (without_line n ls) (apart_filter number_of _ ls (to_apart number_of ls distinct))

pub out_at : (ls : List CacheLine) (i : ℕ) (l : CacheLine) → slice_get ls i ≡ Some l → without_line l.number ls ≡ without_at i ls
out_at ls i l at = ap (λ (o : Option CacheLine). option_map_or (λ k. without_line k.number ls) o ls) (sym at)

pub out_kept : (ls : List CacheLine) (n : ℕ) → AreLines ls → AreLines (without_line n ls)
out_kept ls n kept = record { distinct = without_distinct n ls kept.distinct; whole = All-filter _ IsLine ls kept.whole }

pub take_kept : (ls : List CacheLine) (i : ℕ) (l : CacheLine) → i < length ls → l ≡ slice_index_or ls i l → AreLines ls → AreLines (remove ls i)
take_kept ls i l within is kept = subst AreLines (sym (take_gives ls i l within is kept.distinct)) (out_kept ls l.number kept)

pub taken_whole : (ls : List CacheLine) (i : ℕ) (l : CacheLine) → i < length ls → l ≡ slice_index_or ls i l → AreLines ls → IsLine l
taken_whole ls i l within is kept = subst IsLine (sym is) (kept.whole i l within)

-- ---- a line is added

pub room_full : (size : ℕ) (ls : List CacheLine) → 0 < size → length ls ≡ size → AreDistinct ls → remove ls 0 ≡ with_room size ls
room_full size [] some full distinct = absurd (omega (arith, full))
room_full size (l ∷ ls) some full distinct =
    let is : (length ls + 1 == size) ≡ true = eq-eqb (length ls + 1) size (omega (arith, full)) in
    removed number_of (l ∷ ls) 0 l (to_apart number_of (l ∷ ls) distinct) refl
    ∙ sym (ap (λ b. option_map_or (λ (x : CacheLine). without_line x.number (l ∷ ls)) (if b then Some l else None) (l ∷ ls)) is)

pub room_free : (size : ℕ) (ls : List CacheLine) → length ls ≢ size → ls ≡ with_room size ls
room_free size [] free = refl
room_free size (l ∷ ls) free =
    let is : (length ls + 1 == size) ≡ false = ne_eqb (length ls + 1) size (λ e. free (omega (arith, e))) in
    sym (ap (λ b. option_map_or (λ (x : CacheLine). without_line x.number (l ∷ ls)) (if b then Some l else None) (l ∷ ls)) is)

pub full_out : (size : ℕ) (ls : List CacheLine) → 0 < size → length ls ≡ size → without_at 0 ls ≡ with_room size ls
full_out size [] some full = refl
full_out size (l ∷ ls) some full =
    let is : (length ls + 1 == size) ≡ true = eq-eqb (length ls + 1) size (omega (arith, full)) in
    sym (ap (λ b. option_map_or (λ (x : CacheLine). without_line x.number (l ∷ ls)) (if b then Some l else None) (l ∷ ls)) is)

pub full_room : (size : ℕ) (ls : List CacheLine) → 0 < size → length ls ≡ size → AreDistinct ls → length (without_at 0 ls) < size
full_room size ls some full distinct =
    let rest : length (remove ls 0) + 1 ≡ length ls = length-remove ls 0 (omega (arith, some, full)) in
    subst (λ (xs : List CacheLine). length xs < size) (room_full size ls some full distinct ∙ sym (full_out size ls some full)) (omega (arith, rest, full))

pub push_kept : (ls : List CacheLine) (l : CacheLine) → AreLines ls → find_line l.number ls ≡ None → IsLine l → AreLines (ls ++ l ∷ [])
push_kept ls l kept none whole = record {
  distinct = from_apart number_of (ls ++ l ∷ []) (apart_push number_of ls l (to_apart number_of ls kept.distinct) none);
  whole = All-append IsLine ls (l ∷ []) kept.whole (λ k d below. one k d below);
}
  where
    one : (k : ℕ) (d : CacheLine) → k < 1 → IsLine (get_or (l ∷ []) k d)
    one zero d below = whole
    one (suc k) d below = absurd (omega arith)

pub room_kept : (size : ℕ) (ls : List CacheLine) → AreLines ls → AreLines (with_room size ls)
room_kept size ls kept = one (oldest_of_full size ls)
  where
    one : (o : Option CacheLine) → AreLines (option_map_or (λ (x : CacheLine). without_line x.number ls) o ls)
    one None = kept
    one (Some x) = out_kept ls x.number kept

pub absent_in_room : (n size : ℕ) (ls : List CacheLine) → find_line n ls ≡ None → find_line n (with_room size ls) ≡ None
absent_in_room n size ls none = one (oldest_of_full size ls)
  where
    one : (o : Option CacheLine) → find_line n (option_map_or (λ (l : CacheLine). without_line l.number ls) o ls) ≡ None
    one None = none
    one (Some l) = none_filter number_of _ n ls none

pub add_kept : (size : ℕ) (ls : List CacheLine) (l : CacheLine) → AreLines ls → find_line l.number ls ≡ None → IsLine l → AreLines (with_room size ls ++ l ∷ [])
add_kept size ls l kept none whole = push_kept (with_room size ls) l (room_kept size ls kept) (absent_in_room l.number size ls none) whole

pub write_keeps : (word value : ℕ) (dirty : Bool) → KeepsNumber (write_word word value dirty)
write_keeps word value true l = refl
write_keeps word value false l = refl

-- ---- a line's place

pub absent_line : (n : ℕ) (ls : List CacheLine) (o : Option ℕ) → o ≡ position (has_number n) ls → ((x : ℕ) → o ≡ Some x → ⊥) → find_line n ls ≡ None
absent_line n ls o is never = no_position (has_number n) ls (sym is ∙ none_of o never)

pub without_absent : (n : ℕ) (ls : List CacheLine) → find_line n ls ≡ None → without_line n ls ≡ ls
without_absent n ls none = filter_none number_of n ls none

-- ---- the first dirty word

find_first : (test : ℕ → Bool) (xs : List ℕ) (i d : ℕ) → i < length xs → test (get_or xs i d) ≡ true → ((j : ℕ) → j < i → test (get_or xs j d) ≡ false) → find test xs ≡ Some (get_or xs i d)
find_first test [] i d within is before = absurd (omega arith)
find_first test (x ∷ xs) zero d within is before = ap (λ b. if b then Some x else find test xs) is
find_first test (x ∷ xs) (suc i) d within is before =
    ap (λ b. if b then Some x else find test xs) (before 0 (omega arith)) ∙ find_first test xs i d (omega arith) is (λ j below. before (suc j) (omega arith))

place_in_eight : (t : ℕ) → t < 8 → get_or eight t 0 ≡ t
place_in_eight zero within = refl
place_in_eight (suc zero) within = refl
place_in_eight (suc (suc zero)) within = refl
place_in_eight (suc (suc (suc zero))) within = refl
place_in_eight (suc (suc (suc (suc zero)))) within = refl
place_in_eight (suc (suc (suc (suc (suc zero))))) within = refl
place_in_eight (suc (suc (suc (suc (suc (suc zero)))))) within = refl
place_in_eight (suc (suc (suc (suc (suc (suc (suc zero))))))) within = refl
place_in_eight (suc (suc (suc (suc (suc (suc (suc (suc t)))))))) within = absurd (omega arith)

pub first_bit : (x : ℕ) → 0 < x → x < 2 ^ 8 → Some (trailing_zeros w8 x) ≡ find (is_bit_set x) eight
first_bit x some fits =
    let bits = bit_at-trailing_zeros w8 x some fits in
    let t : ℕ = trailing_zeros w8 x in
    let at : get_or eight t 0 ≡ t = place_in_eight t bits.0 in
    sym (find_first (is_bit_set x) eight t 0 bits.0
    (ap (is_bit_set x) at ∙ eq-eqb _ 1 bits.1)
    (λ j below. ap (is_bit_set x) (place_in_eight j (omega (arith, bits.0, below))) ∙ ne_eqb _ 1 (λ e. apart _ (bits.2 j below) e))
    ∙ ap Some at)
  where
    apart : (a : ℕ) → a ≡ 0 → a ≡ 1 → ⊥
    apart a e g = omega (arith, e, g)

pub no_dirty_line : (ls : List CacheLine) (o : Option ℕ) → o ≡ position has_dirty_word ls → ((x : ℕ) → o ≡ Some x → ⊥) → first_dirty_line ls ≡ None
no_dirty_line ls o is never = no_position has_dirty_word ls (sym is ∙ none_of o never)

pub dirty_line : (ls : List CacheLine) (i : ℕ) → position has_dirty_word ls ≡ Some i → slice_get ls i ≡ first_dirty_line ls
dirty_line ls i is = at_position has_dirty_word ls i is

pub dirty_within : (ls : List CacheLine) (i : ℕ) → position has_dirty_word ls ≡ Some i → i < length ls
dirty_within ls i is = position_within has_dirty_word ls i is

read : (ls : List CacheLine) (i : ℕ) (l : CacheLine) → i < length ls → slice_get ls i ≡ Some l → get_or ls i l ≡ l
read ls i l within at = let e : Some (get_or ls i l) ≡ Some l = sym (slice_get-get_or ls i l within) ∙ at in cc

pub dirty_at_place : (ls : List CacheLine) (i : ℕ) (l : CacheLine) (o : Option ℕ) (word : ℕ) → position has_dirty_word ls ≡ Some i → slice_get ls i ≡ Some l → o ≡ find (is_bit_set l.dirty) eight → o ≡ Some word
    → option_map first_dirty_word (first_dirty_line ls) ≡ Some (Some word)
dirty_at_place ls i l o word at got is found =
    ap (option_map first_dirty_word) (sym (dirty_line ls i at) ∙ got) ∙ ap (λ (x : Option ℕ). Some x) (sym is ∙ found)

pub dirty_after_all : (ls : List CacheLine) (i : ℕ) (l : CacheLine) (o : Option ℕ) → position has_dirty_word ls ≡ Some i → slice_get ls i ≡ Some l → o ≡ find (is_bit_set l.dirty) eight → ((x : ℕ) → o ≡ Some x → ⊥)
    → first_dirty_line ls ≡ None
dirty_after_all ls i l o at got is never =
    let there : has_dirty_word (get_or ls i l) ≡ true = (position-Some has_dirty_word ls i l at).1 in
    let some : has_dirty_word l ≡ true = ap has_dirty_word (sym (read ls i l (dirty_within ls i at) got)) ∙ there in
    let none : has_dirty_word l ≡ false = ap (λ (x : Option ℕ). is_some x) (sym is ∙ none_of o never) in
    absurd (let e : true ≡ false = sym some ∙ none in cc)
