-- The writable registers by their places in ascending order.
use Rattle.std.proofs.Common.{◌≡◌, ◌≢◌, ℕ, zero, suc, ◌+◌, ◌-◌, ◌*◌, ◌/◌, ◌%◌, ◌<◌, ◌≤◌, Bool, true, false, List, [], ◌∷◌, ◌++◌, length, drop, Some, None, refl, sym, ap, ◌∙◌, arith, length-append}
use Rattle.std.specs.Prelude.{if◌then◌else◌, slice_get}
use Rattle.std.specs.List.{find}
use Rattle.std.specs.Option.{option_map, option_or}
use Rattle.std.proofs.lemmas.Option.{slice_get-map, slice_get_past}
use Rattle.mt_regs.specs.declared.fault.Reason.{Reason}
use Rattle.mt_regs.specs.declared.registers.Register.{Register}
use Rattle.mt_regs.specs.declared.registers.Register.TheVariants.{PhysBase, PhysMask, FixedRange, Pat, DefaultType}
use Rattle.mt_regs.specs.RegisterFile.{RegisterFile, has_fixed, pair_count}
use Rattle.mt_regs.specs.Registers.{fixed_part_of, fixed_registers, number_of, pair_registers, writable}
use Rattle.mt_regs.specs.Faults.{fault_at, first_of, reason_of, register_fault}

get_front : {A : Type 0} (xs ys : List A) (i : ℕ) → i < length xs → slice_get (xs ++ ys) i ≡ slice_get xs i
get_front [] ys i within = absurd (omega arith)
get_front (x ∷ xs) ys zero within = refl
get_front (x ∷ xs) ys (suc i) within = get_front xs ys i (omega arith)

get_back : {A : Type 0} (xs ys : List A) (i : ℕ) → length xs ≤ i → slice_get (xs ++ ys) i ≡ slice_get ys (i - length xs)
get_back [] ys i past = let e : i ≡ i - 0 = omega arith in ap (slice_get ys) e
get_back (x ∷ xs) ys zero past = absurd (omega arith)
get_back (x ∷ xs) ys (suc i) past =
    let e : i - length xs ≡ suc i - suc (length xs) = omega arith in
    get_back xs ys i (omega arith) ∙ ap (slice_get ys) e

pub pairs_length : (first count : ℕ) → length (pair_registers first count) ≡ 2 * count
pairs_length first zero = refl
pairs_length first (suc count) = let h = pairs_length (first + 1) count in omega arith

base_at : (first count n : ℕ) → n < count → slice_get (pair_registers first count) (2 * n) ≡ Some (PhysBase (first + n))
base_at first zero n within = absurd (omega arith)
base_at first (suc count) zero within = let e : first ≡ first + 0 = omega arith in ap (λ k. Some (PhysBase k)) e
base_at first (suc count) (suc n) within =
    let e : 2 * suc n ≡ suc (suc (2 * n)) = omega arith in
    let k : first + 1 + n ≡ first + suc n = omega arith in
    rw e (base_at (first + 1) count n (omega arith) ∙ ap (λ k. Some (PhysBase k)) k)

mask_at : (first count n : ℕ) → n < count → slice_get (pair_registers first count) (suc (2 * n)) ≡ Some (PhysMask (first + n))
mask_at first zero n within = absurd (omega arith)
mask_at first (suc count) zero within = let e : first ≡ first + 0 = omega arith in ap (λ k. Some (PhysMask k)) e
mask_at first (suc count) (suc n) within =
    let e : 2 * suc n ≡ suc (suc (2 * n)) = omega arith in
    let k : first + 1 + n ≡ first + suc n = omega arith in
    rw e (mask_at (first + 1) count n (omega arith) ∙ ap (λ k. Some (PhysMask k)) k)

at_place : (p : ℕ) → p < 11 → slice_get (0 ∷ 1 ∷ 2 ∷ 3 ∷ 4 ∷ 5 ∷ 6 ∷ 7 ∷ 8 ∷ 9 ∷ 10 ∷ []) p ≡ Some p
at_place zero within = refl
at_place (suc zero) within = refl
at_place (suc (suc zero)) within = refl
at_place (suc (suc (suc zero))) within = refl
at_place (suc (suc (suc (suc zero)))) within = refl
at_place (suc (suc (suc (suc (suc zero))))) within = refl
at_place (suc (suc (suc (suc (suc (suc zero)))))) within = refl
at_place (suc (suc (suc (suc (suc (suc (suc zero))))))) within = refl
at_place (suc (suc (suc (suc (suc (suc (suc (suc zero)))))))) within = refl
at_place (suc (suc (suc (suc (suc (suc (suc (suc (suc zero))))))))) within = refl
at_place (suc (suc (suc (suc (suc (suc (suc (suc (suc (suc zero)))))))))) within = refl
at_place (suc (suc (suc (suc (suc (suc (suc (suc (suc (suc (suc n))))))))))) within = absurd (omega arith)

fixed_at : (b : Bool) (p : ℕ) → p < length (if b then fixed_registers else []) → slice_get (if b then fixed_registers else []) p ≡ Some (FixedRange p)
fixed_at true p within = slice_get-map FixedRange (0 ∷ 1 ∷ 2 ∷ 3 ∷ 4 ∷ 5 ∷ 6 ∷ 7 ∷ 8 ∷ 9 ∷ 10 ∷ []) p ∙ ap (option_map FixedRange) (at_place p within)
fixed_at false p within = absurd (omega arith)

in_pairs : (f : RegisterFile) (i : ℕ) → i < length (pair_registers 0 (pair_count f)) → slice_get (writable f) i ≡ slice_get (pair_registers 0 (pair_count f)) i
in_pairs f i within =
    get_front (pair_registers 0 (pair_count f) ++ fixed_part_of f) (Pat ∷ DefaultType ∷ []) i (omega (arith, length-append (pair_registers 0 (pair_count f)) (fixed_part_of f)))
    ∙ get_front (pair_registers 0 (pair_count f)) (fixed_part_of f) i within

pub writable_base : (f : RegisterFile) (i : ℕ) → i < length (pair_registers 0 (pair_count f)) → i % 2 ≡ 0 → slice_get (writable f) i ≡ Some (PhysBase (i / 2))
writable_base f i within even =
    let e : 2 * (i / 2) ≡ i = omega arith in
    let z : 0 + i / 2 ≡ i / 2 = omega arith in
    in_pairs f i within ∙ ap (slice_get (pair_registers 0 (pair_count f))) (sym e)
    ∙ base_at 0 (pair_count f) (i / 2) (omega (arith, pairs_length 0 (pair_count f))) ∙ ap (λ k. Some (PhysBase k)) z

pub writable_mask : (f : RegisterFile) (i : ℕ) → i < length (pair_registers 0 (pair_count f)) → i % 2 ≢ 0 → slice_get (writable f) i ≡ Some (PhysMask (i / 2))
writable_mask f i within odd =
    let e : suc (2 * (i / 2)) ≡ i = omega arith in
    let z : 0 + i / 2 ≡ i / 2 = omega arith in
    in_pairs f i within ∙ ap (slice_get (pair_registers 0 (pair_count f))) (sym e)
    ∙ mask_at 0 (pair_count f) (i / 2) (omega (arith, pairs_length 0 (pair_count f))) ∙ ap (λ k. Some (PhysMask k)) z

pub writable_fixed : (f : RegisterFile) (i : ℕ) → length (pair_registers 0 (pair_count f)) ≤ i → i - length (pair_registers 0 (pair_count f)) < length (fixed_part_of f)
    → slice_get (writable f) i ≡ Some (FixedRange (i - length (pair_registers 0 (pair_count f))))
writable_fixed f i past within =
    get_front (pair_registers 0 (pair_count f) ++ fixed_part_of f) (Pat ∷ DefaultType ∷ []) i (omega (arith, length-append (pair_registers 0 (pair_count f)) (fixed_part_of f)))
    ∙ get_back (pair_registers 0 (pair_count f)) (fixed_part_of f) i past
    ∙ fixed_at (has_fixed f) (i - length (pair_registers 0 (pair_count f))) within

pub writable_last : (f : RegisterFile) (i k : ℕ) → i ≡ length (pair_registers 0 (pair_count f)) + length (fixed_part_of f) + k
    → slice_get (writable f) i ≡ slice_get (Pat ∷ DefaultType ∷ []) k
writable_last f i k is =
    let size = length-append (pair_registers 0 (pair_count f)) (fixed_part_of f) in
    let e : i - length (pair_registers 0 (pair_count f) ++ fixed_part_of f) ≡ k = omega arith in
    get_back (pair_registers 0 (pair_count f) ++ fixed_part_of f) (Pat ∷ DefaultType ∷ []) i (omega arith) ∙ ap (slice_get (Pat ∷ DefaultType ∷ [])) e

pub writable_length : (f : RegisterFile) → length (writable f) ≡ length (pair_registers 0 (pair_count f)) + length (fixed_part_of f) + 2
writable_length f =
    let a = length-append (pair_registers 0 (pair_count f) ++ fixed_part_of f) (Pat ∷ DefaultType ∷ []) in
    let b = length-append (pair_registers 0 (pair_count f)) (fixed_part_of f) in
    omega arith

pub writable_past : (f : RegisterFile) (i : ℕ) → length (pair_registers 0 (pair_count f)) + length (fixed_part_of f) + 2 ≤ i → slice_get (writable f) i ≡ None
writable_past f i past = slice_get_past (writable f) i (omega (arith, writable_length f))

drop_at : {A : Type 0} (xs : List A) (i : ℕ) (x : A) → slice_get xs i ≡ Some x → drop i xs ≡ x ∷ drop (suc i) xs
drop_at [] i x is = absurd (cc)
drop_at (y ∷ ys) zero x is = let e : y ≡ x = cc is in ap (λ z. z ∷ ys) e
drop_at (y ∷ ys) (suc i) x is = drop_at ys i x is

-- the walk goes on behind a register without a fault
pub walk_on : (f : RegisterFile) (i : ℕ) (r : Register) → slice_get (writable f) i ≡ Some r → reason_of f r ≡ None
    → register_fault f ≡ first_of f (drop i (writable f)) → register_fault f ≡ first_of f (drop (i + 1) (writable f))
walk_on f i r at good is =
    let e : i + 1 ≡ suc i = omega arith in
    rw e (is ∙ ap (first_of f) (drop_at (writable f) i r at) ∙ ap (λ why. option_or (fault_at r why) (first_of f (drop (suc i) (writable f)))) good)

-- and ends at one with a fault
pub walk_ends : (f : RegisterFile) (i : ℕ) (r : Register) (why : Reason) → slice_get (writable f) i ≡ Some r → reason_of f r ≡ Some why
    → register_fault f ≡ first_of f (drop i (writable f)) → register_fault f ≡ Some (record { msr = number_of r; reason = why })
walk_ends f i r why at bad is =
    is ∙ ap (first_of f) (drop_at (writable f) i r at) ∙ ap (λ w. option_or (fault_at r w) (first_of f (drop (suc i) (writable f)))) bad

-- a search goes on behind an item that fails the test
pub search_on : {A : Type 0} (p : A → Bool) (xs : List A) (i : ℕ) (x : A) → slice_get xs i ≡ Some x → p x ≡ false → find p (drop i xs) ≡ find p (drop (i + 1) xs)
search_on p xs i x at fails =
    let e : i + 1 ≡ suc i = omega arith in
    rw e (ap (find p) (drop_at xs i x at) ∙ rw fails refl)

-- and ends at one that passes it
pub search_ends : {A : Type 0} (p : A → Bool) (xs : List A) (i : ℕ) (x : A) → slice_get xs i ≡ Some x → p x ≡ true → find p (drop i xs) ≡ Some x
search_ends p xs i x at passes = ap (find p) (drop_at xs i x at) ∙ rw passes refl
