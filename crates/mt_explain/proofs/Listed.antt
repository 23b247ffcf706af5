-- A note is listed if and only if it holds.
use Rattle.std.proofs.Common.{◌≡◌, ◌∙◌, ℕ, zero, suc, ◌+◌, ◌-◌, ◌<◌, ◌≤◌, Bool, true, false, List, [], ◌∷◌, ◌++◌, map, sym, ap, subst, refl, arith}
use Rattle.std.specs.Prelude.{cond, nat_lt, not, ◌&&◌, ◌||◌}
use Rattle.std.specs.List.{Contains, filter, list_all, list_any, range_with_len}
use Rattle.std.proofs.lemmas.Bool.{and_parts}
use Rattle.std.proofs.lemmas.Bool.Decides.{nat_tests}
use Rattle.std.proofs.lemmas.List.Elements.{Contains-append_left, Contains-append_right}
use Rattle.std.proofs.lemmas.List.FromFn.{get_or-map-range_with_len, length-map-range_with_len}
use Rattle.mt_ranges.specs.Match.{is_valid}
use Rattle.mt_regs.specs.RegisterFile.{IsRegisterFile, RegisterFile, pair_count}
use Rattle.mt_explain.specs.declared.note.Note.{Note}
use Rattle.mt_explain.specs.declared.note.Note.TheVariants.{Off, FixedOff, LocalApic, IoApic, IdlePair, OtherWidth}
use Rattle.mt_explain.specs.Notes.{candidates, is_mask_of, is_note, may_be_of, notes, widths}
use Rattle.mt_explain.proofs.Without.{valid_within}

first_in : {A : Type 0} (x y : A) (ys : List A) → y ≡ x → Contains (y ∷ ys) x
first_in x y ys is = (0, omega arith, is)

later_in : {A : Type 0} (x y : A) (ys : List A) → Contains ys x → Contains (y ∷ ys) x
later_in x y ys (k, within, is) = (suc k, omega (arith, within), is)

-- an element that passes the test is left
passes_in : {A : Type 0} (p : A → Bool) (xs : List A) (x : A) → Contains xs x → p x ≡ true → Contains (filter p xs) x
passes_in p [] x (k, within, is) ok = absurd (omega (arith, within))
passes_in p (y ∷ ys) x (zero, within, is) ok =
    let P : List _ → Type 0 = λ zs. Contains zs x in
    subst P (sym (ap (λ b. cond b (y ∷ filter p ys) (filter p ys)) (ap p is ∙ ok))) (first_in x y (filter p ys) is)
passes_in p (y ∷ ys) x (suc k, within, is) ok = by (p y) (passes_in p ys x (k, omega (arith, within), is) ok)
  where
    by : (b : Bool) → Contains (filter p ys) x → Contains (cond b (y ∷ filter p ys) (filter p ys)) x
    by true rest = later_in x y (filter p ys) rest
    by false rest = rest

-- what is left passes it
in_passes : {A : Type 0} (p : A → Bool) (xs : List A) (x : A) → Contains (filter p xs) x → p x ≡ true
in_passes p [] x (k, within, is) = absurd (omega (arith, within))
in_passes p (y ∷ ys) x has = by (p y) refl (in_passes p ys x) has
  where
    by : (b : Bool) → p y ≡ b → (Contains (filter p ys) x → p x ≡ true) → Contains (cond b (y ∷ filter p ys) (filter p ys)) x → p x ≡ true
    by true one go (zero, within, is) = ap p (sym is) ∙ one
    by true one go (suc k, within, is) = go (k, omega (arith, within), is)
    by false none go left = go left

in_range : (make : ℕ → Note) (from count n : ℕ) → from ≤ n → n < from + count → Contains (map make (range_with_len from count)) (make n)
in_range make from count n low high =
    let at : from + (n - from) ≡ n = omega (arith, low) in
    (n - from, omega (arith, low, high, length-map-range_with_len make from count), get_or-map-range_with_len make from count (n - from) n (make n) (omega (arith, low, high)) at)

-- the masks of a width are valid ones of 32 to 52 bits
width_within : (width : ℕ) (pairs : List (ℕ × ℕ)) → list_any is_valid pairs ≡ true → list_all (may_be_of width) pairs ≡ true
    → (nat_lt width 32 ≡ false) × (nat_lt 52 width ≡ false)
width_within width [] some all = absurd (cc some)
width_within width (p ∷ ps) some all = by (is_valid p) refl (width_within width ps)
  where
    mask : Bool
    mask = is_mask_of width p.1

    rest : Bool
    rest = list_all (may_be_of width) ps

    unless : (b : Bool) → not b ≡ true → b ≡ false
    unless true is = absurd (cc is)
    unless false is = refl

    by : (b : Bool) → is_valid p ≡ b → (list_any is_valid ps ≡ true → list_all (may_be_of width) ps ≡ true → (nat_lt width 32 ≡ false) × (nat_lt 52 width ≡ false))
        → (nat_lt width 32 ≡ false) × (nat_lt 52 width ≡ false)
    by true valid go =
        let both : ((not true || mask) && rest) ≡ true = ap (λ (b : Bool). (not b || mask) && rest) (sym valid) ∙ all in
        let parts = and_parts _ _ (and_parts _ _ (and_parts _ _ (and_parts _ _ (and_parts _ _ both).0).0).0).0 in
        (unless (nat_lt width 32) parts.0, unless (nat_lt 52 width) parts.1)
    by false other go =
        let any : list_any is_valid ps ≡ true = ap (λ (b : Bool). b || list_any is_valid ps) (sym other) ∙ some in
        go any (and_parts _ _ all).1

abbrev registers : List Note
registers = Off ∷ FixedOff ∷ LocalApic ∷ IoApic ∷ []

abbrev pairs : RegisterFile → List Note
pairs f = map IdlePair (range_with_len 0 (pair_count f))

candidate_in : (f : RegisterFile) (note : Note) → IsRegisterFile f → is_note f note ≡ true → Contains (candidates f) note
unfolding widths
candidate_in f Off is holds = (0, omega arith, refl)
candidate_in f FixedOff is holds = (1, omega arith, refl)
candidate_in f LocalApic is holds = (2, omega arith, refl)
candidate_in f IoApic is holds = (3, omega arith, refl)
candidate_in f (IdlePair n) is holds =
    let valid = (and_parts _ _ (and_parts _ _ (and_parts _ _ holds).1).0).0 in
    let within = valid_within f.pairs n valid in
    Contains-append_left (registers ++ pairs f) (map OtherWidth widths) (IdlePair n) (Contains-append_right registers (pairs f) (IdlePair n) (in_range IdlePair 0 (pair_count f) n (omega arith) (omega (arith, within, is.all_pairs))))
candidate_in f (OtherWidth width) is holds =
    let masks = and_parts _ _ holds in
    let bounds = width_within width f.pairs (and_parts _ _ masks.0).1 masks.1 in
    Contains-append_right (registers ++ pairs f) (map OtherWidth widths) (OtherWidth width) (in_range OtherWidth 32 21 width (not_below width 32 bounds.0) (low_enough (not_below 52 width bounds.1)))
  where
    not_below : (a b : ℕ) → nat_lt a b ≡ false → b ≤ a
    not_below a b none = grind (arith, nat_tests, none)

    low_enough : width ≤ 52 → width < 32 + 21
    low_enough order = omega (arith, order)

pub is_listed : (f : RegisterFile) → IsRegisterFile f → (note : Note) → (Contains (notes f) note → is_note f note ≡ true) × (is_note f note ≡ true → Contains (notes f) note)
is_listed f is note = (in_passes (is_note f) (candidates f) note, λ holds. passes_in (is_note f) (candidates f) note (candidate_in f note is holds) holds)
