-- Lines in slots, in the order of their slots: what the calls on them make of the list.
use Rattle.std.proofs.Common.{◌≡◌, ◌≢◌, ℕ, zero, suc, ◌+◌, ◌-◌, ◌<◌, ◌≤◌, List, [], ◌∷◌, ◌++◌, length, map, set, get_or, take, drop, Some, None, Bool, true, false, refl, sym, ap, subst, ◌∙◌, arith, inl, inr, ◌⊎◌}
use Rattle.std.specs.Prelude.{if◌then◌else◌, nat_lt}
use Rattle.std.specs.List.{All, AllPairs, remove, position, position_or_len, range_with_len}
use Rattle.std.proofs.lemmas.Bool.{lt-ltb, le-ltb, cases_lt}
use borrow.Rule.Slice.PartMut.{mid_of, put_mid}
use Rattle.std.proofs.lemmas.List.{append_assoc, append-nil, length-drop, take_all, get_or-set_same, get_or-set_other, get_or-take, get_or-map, length-map, length-take-le, length_push, map_push, take_more, take-append-le, drop_more, drop_all, get_or_default}
use Rattle.std.proofs.lemmas.List.Edits.{length-remove, get_or-remove_below, get_or-remove_above}
use Rattle.std.proofs.lemmas.List.Elements.{All-append, All-set}
use Rattle.std.proofs.lemmas.List.Quantifiers.{all_pairs_push, all_pairs_remove}
use Rattle.std.proofs.lemmas.List.Sums.{position_or_len_is}
use Rattle.std.proofs.lemmas.List.FromFn.{length-range_with_len, get_or-range_with_len}
use Rattle.mt_cache.specs.declared.line.CacheLine.{CacheLine}
use Rattle.mt_cache.specs.Lines.{AreDistinct, IsLine}
use Rattle.mt_cache.specs.Calls.{AreLines, change_at}
use Rattle.mt_cache.specs.Slots.{IsOrder, in_order, in_slot, no_line}
use Rattle.mt_cache.proofs.Lists.{KeepsNumber, change_distinct, write_gives}

-- ---- each slot stays once in the order

-- two places of the order have two slots
differ : (order : List ℕ) → IsOrder order → (i j : ℕ) → i < 64 → j < 64 → i ≢ j → (d e : ℕ) → get_or order i d ≢ get_or order j e
differ order is i j within among other d e = one (cases_lt i j)
  where
    long : (k : ℕ) → k < 64 → k < length order
    long k below = subst (λ n. k < n) (sym is.long) below

    same : (k : ℕ) → k < 64 → (x y : ℕ) → get_or order k x ≡ get_or order k y
    same k below x y = get_or_default order k x y (long k below)

    one : (i < j) ⊎ (j ≤ i) → get_or order i d ≢ get_or order j e
    one (inl below) = λ eq. is.distinct i j 0 below (long j among) (same i within 0 d ∙ eq ∙ same j among e 0)
    one (inr above) = λ eq. is.distinct j i 0 (omega (arith, above, other)) (long i within) (same j among 0 e ∙ sym eq ∙ same i within d 0)

-- a place of the order without place i is another place of the order
elsewhere : (order : List ℕ) (i k : ℕ) → i < length order → k + 1 < length order → (j : ℕ) × (j < length order) × (j ≢ i) × ((d : ℕ) → get_or (remove order i) k d ≡ get_or order j d)
elsewhere order i k within among = one (cases_lt k i)
  where
    one : (k < i) ⊎ (i ≤ k) → (j : ℕ) × (j < length order) × (j ≢ i) × ((d : ℕ) → get_or (remove order i) k d ≡ get_or order j d)
    one (inl below) = (k, omega arith, λ e. omega (arith, e, below), λ d. get_or-remove_below order i d k below within)
    one (inr above) = (k + 1, among, λ e. omega (arith, e, above), λ d. get_or-remove_above order i d k above within)

pub kept_order : (order : List ℕ) (i s : ℕ) → IsOrder order → i < 64 → s ≡ get_or order i 0 → IsOrder (remove order i ++ s ∷ [])
kept_order order i s is within at = record { long = long; within = all; distinct = apart }
  where
    among : i < length order
    among = subst (λ n. i < n) (sym is.long) within

    rest : length (remove order i) + 1 ≡ 64
    rest = length-remove order i among ∙ is.long

    long : length (remove order i ++ s ∷ []) ≡ 64
    long = length_push (remove order i) s ∙ rest

    place : (k : ℕ) → k < length (remove order i) → (j : ℕ) × (j < length order) × (j ≢ i) × ((d : ℕ) → get_or (remove order i) k d ≡ get_or order j d)
    place k below = elsewhere order i k among (omega (arith, rest, below, is.long))

    all : All (λ x. x < 64) (remove order i ++ s ∷ [])
    all =
        All-append (λ x. x < 64) (remove order i) (s ∷ [])
        (λ k d below. let p = place k below in subst (λ x. x < 64) (sym (p.3 d)) (is.within p.0 d p.1))
        (λ k d below. last k d below)
      where
        last : (k d : ℕ) → k < 1 → get_or (s ∷ []) k d < 64
        last zero d below = subst (λ x. x < 64) (sym at) (is.within i 0 among)
        last (suc k) d below = absurd (omega arith)

    apart : AllPairs (λ a b. a ≢ b) (remove order i ++ s ∷ [])
    apart =
        all_pairs_push (λ a b. a ≢ b) (remove order i) s (all_pairs_remove (λ a b. a ≢ b) order i among is.distinct)
        (λ k d below e. let p = place k below in differ order is p.0 i (subst (λ n. p.0 < n) is.long p.1) within p.2 d 0 (sym (p.3 d) ∙ e ∙ at))

-- the order after the slots from place i on are turned by one
pub turned : (order piece : List ℕ) (i : ℕ) → length order ≡ 64 → i < 64 → piece ≡ drop 1 (mid_of i (64 - i) order) ++ take 1 (mid_of i (64 - i) order)
    → put_mid i (64 - i) order piece ≡ remove order i ++ get_or order i 0 ∷ []
turned order piece i long within is =
    let next : i + 1 ≡ suc i = omega arith in
    let s : ℕ = get_or order i 0 in
    let rest : List ℕ = drop (i + 1) order in
    let size : length (drop i order) ≤ 64 - i = omega (arith, length-drop i order, long) in
    let mid : mid_of i (64 - i) order ≡ s ∷ rest = take_all (64 - i) (drop i order) size ∙ drop_more order i 0 (omega (arith, long, within)) in
    let none : drop (64 - i) (drop i order) ≡ [] = drop_all (64 - i) (drop i order) size in
    ap (λ (ys : List ℕ). take i order ++ (ys ++ drop (64 - i) (drop i order))) (is ∙ ap (λ (ys : List ℕ). drop 1 ys ++ take 1 ys) mid)
    ∙ ap (λ (zs : List ℕ). take i order ++ ((rest ++ (s ∷ [])) ++ zs)) none
    ∙ ap (λ (ys : List ℕ). take i order ++ ys) (append-nil (rest ++ (s ∷ [])))
    ∙ sym (append_assoc (take i order) rest (s ∷ []))
    ∙ ap (λ (k : ℕ). (take i order ++ drop k order) ++ (s ∷ [])) next

pub in_turn : (order : List ℕ) → order ≡ range_with_len 0 64 → IsOrder order
in_turn order is = subst IsOrder (sym is) (record {
  long = length-range_with_len 0 64;
  within = λ k d below. let f = first k d (small k below) in omega (arith, f, small k below);
  distinct = λ i j d below within e. let f = first i d (omega (arith, below, small j within)) in let g = first j d (small j within) in omega (arith, below, f, g, e);
})
  where
    small : (k : ℕ) → k < length (range_with_len 0 64) → k < 64
    small k below = subst (λ n. k < n) (length-range_with_len 0 64) below

    first : (k d : ℕ) → k < 64 → get_or (range_with_len 0 64) k d ≡ 0 + k
    first k d below = get_or-range_with_len 0 64 k d below

-- ---- the list that is shown

pub count_of : (order : List ℕ) (slots : List CacheLine) (count : ℕ) → IsOrder order → count ≤ 64 → length (in_order count order slots) ≡ count
count_of order slots count is few = length-map (take count order) (in_slot slots) ∙ length-take-le count order (subst (λ n. count ≤ n) (sym is.long) few)

-- of the list as it is seen from outside
pub within_count : (order : List ℕ) (slots ls : List CacheLine) (count i : ℕ) → IsOrder order → count ≤ 64 → in_order count order slots ≡ ls → i < length ls → i < count
within_count order slots ls count i is few seen within = subst (λ n. i < n) (sym (ap (λ (xs : List CacheLine). length xs) seen) ∙ count_of order slots count is few) within

pub room_count : (order : List ℕ) (slots ls : List CacheLine) (count : ℕ) → IsOrder order → count ≤ 64 → in_order count order slots ≡ ls → length ls < 64 → count < 64
room_count order slots ls count is few seen room = subst (λ n. n < 64) (sym (ap (λ (xs : List CacheLine). length xs) seen) ∙ count_of order slots count is few) room

pub slot_at : (order : List ℕ) (slots : List CacheLine) (count k : ℕ) (d : CacheLine) → IsOrder order → count ≤ 64 → k < count → get_or (in_order count order slots) k d ≡ in_slot slots (get_or order k 0)
slot_at order slots count k d is few below =
    get_or-map (in_slot slots) (take count order) k 0 d (subst (λ n. k < n) (sym (length-take-le count order (subst (λ n. count ≤ n) (sym is.long) few))) below)
    ∙ ap (in_slot slots) (get_or-take count order k 0 below)

-- a line is written to a slot that the places shown don't have
unchanged : (slots : List CacheLine) (s : ℕ) (l : CacheLine) (xs : List ℕ) → ((k : ℕ) → k < length xs → get_or xs k 0 ≢ s) → map (in_slot (set slots s l)) xs ≡ map (in_slot slots) xs
unchanged slots s l [] other = refl
unchanged slots s l (x ∷ xs) other =
    let head : in_slot (set slots s l) x ≡ in_slot slots x = get_or-set_other slots s x l no_line (other 0 (omega arith)) in
    let tail : map (in_slot (set slots s l)) xs ≡ map (in_slot slots) xs = unchanged slots s l xs (λ k below. other (suc k) (omega arith)) in
    ap (λ y. y ∷ map (in_slot (set slots s l)) xs) head ∙ ap (λ ys. in_slot slots x ∷ ys) tail

-- and to the slot of one of them
written_at : (slots : List CacheLine) (s : ℕ) (l : CacheLine) (xs : List ℕ) (i : ℕ) → i < length xs → get_or xs i 0 ≡ s → s < length slots
    → ((k : ℕ) → k < length xs → k ≢ i → get_or xs k 0 ≢ s) → map (in_slot (set slots s l)) xs ≡ set (map (in_slot slots) xs) i l
written_at slots s l [] i within at among other = absurd (omega arith)
written_at slots s l (x ∷ xs) zero within at among other =
    let head : in_slot (set slots s l) x ≡ l = ap (in_slot (set slots s l)) at ∙ get_or-set_same slots s l no_line among in
    let tail : map (in_slot (set slots s l)) xs ≡ map (in_slot slots) xs = unchanged slots s l xs (λ k below. other (suc k) (omega arith) (λ e. omega (arith, e))) in
    ap (λ y. y ∷ map (in_slot (set slots s l)) xs) head ∙ ap (λ ys. l ∷ ys) tail
written_at slots s l (x ∷ xs) (suc i) within at among other =
    let head : in_slot (set slots s l) x ≡ in_slot slots x = get_or-set_other slots s x l no_line (other 0 (omega arith) (λ e. omega (arith, e))) in
    let tail : map (in_slot (set slots s l)) xs ≡ set (map (in_slot slots) xs) i l = written_at slots s l xs i (omega arith) at among (λ k below apart. other (suc k) (omega arith) (λ e. apart (omega (arith, e)))) in
    ap (λ y. y ∷ map (in_slot (set slots s l)) xs) head ∙ ap (λ ys. in_slot slots x ∷ ys) tail

take_remove : (xs : List ℕ) (i n : ℕ) → i ≤ n → take n (remove xs i) ≡ remove (take (suc n) xs) i
take_remove [] zero zero below = refl
take_remove [] zero (suc n) below = refl
take_remove [] (suc i) zero below = refl
take_remove [] (suc i) (suc n) below = refl
take_remove (x ∷ xs) zero n below = refl
take_remove (x ∷ xs) (suc i) zero below = absurd (omega arith)
take_remove (x ∷ xs) (suc i) (suc n) below = ap (λ ys. x ∷ ys) (take_remove xs i n (omega arith))

map_remove : (f : ℕ → CacheLine) (xs : List ℕ) (i : ℕ) → map f (remove xs i) ≡ remove (map f xs) i
map_remove f [] zero = refl
map_remove f [] (suc i) = refl
map_remove f (x ∷ xs) zero = refl
map_remove f (x ∷ xs) (suc i) = ap (λ ys. f x ∷ ys) (map_remove f xs i)

-- ---- what the calls leave

module _ (order : List ℕ) (slots : List CacheLine) (count : ℕ) (is : IsOrder order) (whole : length slots ≡ 64) (few : count ≤ 64) where
  shown : length (take count order) ≡ count
  shown = length-take-le count order (subst (λ n. count ≤ n) (sym is.long) few)

  slot_within : (i : ℕ) → i < 64 → get_or order i 0 < length slots
  slot_within i below = subst (λ n. get_or order i 0 < n) (sym whole) (is.within i 0 (subst (λ n. i < n) (sym is.long) below))

  pub pushed : (l : CacheLine) → count < 64 → in_order (count + 1) order (set slots (get_or order count 0) l) ≡ in_order count order slots ++ l ∷ []
  pushed l room =
      let s : ℕ = get_or order count 0 in
      let same : map (in_slot (set slots s l)) (take count order) ≡ in_order count order slots =
      unchanged slots s l (take count order)
      (λ k below. let among : k < count = subst (λ n. k < n) shown below in subst (λ x. x ≢ s) (sym (get_or-take count order k 0 among)) (differ order is k count (omega (arith, among, room)) room (λ e. omega (arith, e, among)) 0 0)) in
      ap (map (in_slot (set slots s l))) (take_more order count 0 (subst (λ n. count < n) (sym is.long) room))
      ∙ map_push (in_slot (set slots s l)) (take count order) s
      ∙ ap (λ y. map (in_slot (set slots s l)) (take count order) ++ y ∷ []) (get_or-set_same slots s l no_line (slot_within count room))
      ∙ ap (λ ys. ys ++ l ∷ []) same

  set_nth : (i : ℕ) (l : CacheLine) → i < count → in_order count order (set slots (get_or order i 0) l) ≡ set (in_order count order slots) i l
  set_nth i l within =
      let s : ℕ = get_or order i 0 in
      written_at slots s l (take count order) i (subst (λ n. i < n) (sym shown) within) (get_or-take count order i 0 within) (slot_within i (omega (arith, few, within)))
      (λ k below apart. let among : k < count = subst (λ n. k < n) shown below in subst (λ x. x ≢ s) (sym (get_or-take count order k 0 among)) (differ order is k i (omega (arith, among, few)) (omega (arith, within, few)) apart 0 0))

  -- f at the line at a place
  pub changed_nth : (i : ℕ) (f : CacheLine → CacheLine) (l : CacheLine) (ls : List CacheLine) → in_order count order slots ≡ ls → AreDistinct ls → i < length ls → l ≡ f (in_slot slots (get_or order i 0))
      → in_order count order (set slots (get_or order i 0) l) ≡ change_at i f ls
  changed_nth i f l ls seen distinct within line =
      let among : i < count = within_count order slots ls count i is few seen within in
      set_nth i l among
      ∙ ap (set (in_order count order slots) i) (line ∙ ap f (sym (slot_at order slots count i no_line is few among)))
      ∙ ap (λ (xs : List CacheLine). set xs i (f (get_or xs i no_line))) seen
      ∙ write_gives f ls i no_line within distinct

  pub changed_kept : (i : ℕ) (f : CacheLine → CacheLine) (l : CacheLine) (ls : List CacheLine) → KeepsNumber f → in_order count order slots ≡ ls → AreLines ls → i < length ls → l ≡ f (in_slot slots (get_or order i 0)) → IsLine l
      → AreLines (in_order count order (set slots (get_or order i 0) l))
  changed_kept i f l ls keeps seen kept within line full =
      let among : i < count = within_count order slots ls count i is few seen within in
      record {
        distinct = subst AreDistinct (sym (changed_nth i f l ls seen kept.distinct within line)) (change_distinct f keeps ls i kept.distinct);
        whole = subst (All IsLine) (sym (set_nth i l among ∙ ap (λ (xs : List CacheLine). set xs i l) seen)) (All-set IsLine ls i l full kept.whole);
      }

  pub taken : (i s : ℕ) → i < count → in_order (count - 1) (remove order i ++ s ∷ []) slots ≡ remove (in_order count order slots) i
  taken i s within =
      let among : i < length order = subst (λ n. i < n) (sym is.long) (omega (arith, few, within)) in
      let rest : length (remove order i) + 1 ≡ length order = length-remove order i among in
      let more : suc (count - 1) ≡ count = omega arith in
      ap (map (in_slot slots))
      (take-append-le (count - 1) (remove order i) (s ∷ []) (omega (arith, rest, is.long, few))
      ∙ take_remove order i (count - 1) (omega arith)
      ∙ ap (λ n. remove (take n order) i) more)
      ∙ map_remove (in_slot slots) (take count order) i

-- ---- places that are searched

-- the first so many lines fail a test
abbrev pub NoneBelow : (CacheLine → Bool) → List ℕ → List CacheLine → ℕ → Type 0
NoneBelow test order slots i = (k : ℕ) → k < i → test (in_slot slots (get_or order k 0)) ≡ false

pub found_here : (test : CacheLine → Bool) (order : List ℕ) (slots : List CacheLine) (count i : ℕ) → IsOrder order → count ≤ 64 → i < count → NoneBelow test order slots i → test (in_slot slots (get_or order i 0)) ≡ true
    → Some i ≡ position test (in_order count order slots)
found_here test order slots count i is few within before here =
    let xs : List CacheLine = in_order count order slots in
    let long : length xs ≡ count = count_of order slots count is few in
    let place : position_or_len test xs ≡ i =
    position_or_len_is test xs i no_line (omega (arith, long, within))
    (λ k below. ap test (slot_at order slots count k no_line is few (omega (arith, below, within))) ∙ before k below)
    (λ among. ap test (slot_at order slots count i no_line is few within) ∙ here) in
    let there : nat_lt (position_or_len test xs) (length xs) ≡ true = lt-ltb _ _ (omega (arith, place, long, within)) in
    sym (ap (λ b. if b then Some (position_or_len test xs) else None) there ∙ ap Some place)

pub found_nowhere : (test : CacheLine → Bool) (order : List ℕ) (slots : List CacheLine) (i count : ℕ) → IsOrder order → count ≤ 64 → count ≤ i → NoneBelow test order slots i
    → None ≡ position test (in_order count order slots)
found_nowhere test order slots i count is few past before =
    let xs : List CacheLine = in_order count order slots in
    let long : length xs ≡ count = count_of order slots count is few in
    let place : position_or_len test xs ≡ count =
    position_or_len_is test xs count no_line (omega (arith, long))
    (λ k below. ap test (slot_at order slots count k no_line is few below) ∙ before k (omega (arith, below, past)))
    (λ among. absurd (omega (arith, among, long))) in
    let there : nat_lt (position_or_len test xs) (length xs) ≡ false = le-ltb _ _ (omega (arith, place, long)) in
    sym (ap (λ b. if b then Some (position_or_len test xs) else None) there)
