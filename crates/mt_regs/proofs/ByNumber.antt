-- The registers of a file by number, and the values that they have.
use Rattle.std.proofs.Common.{◌≡◌, ◌∙◌, ◌<◌, ◌≤◌, ◌+◌, ◌-◌, ◌*◌, ◌/◌, ◌^◌, ℕ, zero, suc, Bool, true, false, ◌==◌, List, [], ◌∷◌, ◌++◌, length, Option, Some, None, refl, sym, ap, subst, arith, inl, inr, lit<, lit≤}
use Rattle.std.specs.Prelude.{if◌then◌else◌}
use Rattle.std.specs.List.{slice_get, find, AllByRecursion}
use Rattle.std.specs.Option.{option_map}
use Rattle.std.proofs.lemmas.Bool.{cases_Bool, eqb-true}
use Rattle.std.proofs.lemmas.Bool.Decides.{nat_tests}
use Rattle.std.proofs.lemmas.List.{ext_get_or}
use Rattle.std.proofs.lemmas.Option.{slice_get_within}
use Rattle.std.proofs.Math.ListN.{length-set}
use Rattle.mt_regs.specs.declared.registers.Register.{Register}
use Rattle.mt_regs.specs.declared.registers.Register.TheVariants.{PhysBase, PhysMask, FixedRange, Pat, DefaultType}
use Rattle.mt_regs.specs.RegisterFile.{IsRegisterFile, RegisterFile, has_fixed, low_byte, pair_count}
use Rattle.mt_regs.specs.Registers.{IsWithin, fixed_part_of, fixed_registers, number_of, pair_registers, register_of, value_at, value_of, with_value, writable, written}
use Rattle.mt_regs.specs.Words.{HasWords}
use Rattle.mt_regs.proofs.Writable.{pairs_length, writable_base, writable_mask, writable_fixed, writable_last}
use Rattle.mt_regs.proofs.Writes.{IsKnown, each_found, known}

-- each register's number is above those before it, from low on and below high
abbrev pub Ascend : ℕ → ℕ → List Register → Type 0
Ascend low high [] = Unit {0}
Ascend low high (r ∷ rs) = (low ≤ number_of r) × (number_of r < high) × Ascend (number_of r + 1) high rs

from_below : (low mid high : ℕ) (rs : List Register) → low ≤ mid → Ascend mid high rs → Ascend low high rs
from_below low mid high [] below up = tt
from_below low mid high (r ∷ rs) below up = (omega (arith, up.0), up.1, up.2)

ascend_append : (low mid high : ℕ) (rs ss : List Register) → low ≤ mid → mid ≤ high → Ascend low mid rs → Ascend mid high ss → Ascend low high (rs ++ ss)
ascend_append low mid high [] ss below within up later = from_below low mid high ss below later
ascend_append low mid high (r ∷ rs) ss below within up later = (up.0, omega (arith, up.1), ascend_append (number_of r + 1) mid high rs ss (omega (arith, up.1)) within up.2 later)

ascend_pairs : (low high first count : ℕ) → low ≤ 0x200 + 2 * first → 0x200 + 2 * (first + count) ≤ high → Ascend low high (pair_registers first count)
ascend_pairs low high first zero below within = tt
ascend_pairs low high first (suc count) below within =
    (omega arith, omega arith, (omega arith, omega arith, ascend_pairs (0x201 + 2 * first + 1) high (first + 1) count (omega arith) (omega arith)))

ascend_fixed : (test : Bool) → Ascend 0x250 0x277 (if test then fixed_registers else [])
ascend_fixed true = (lit≤ tt, lit< tt, (lit≤ tt, lit< tt, (lit≤ tt, lit< tt, (lit≤ tt, lit< tt, (lit≤ tt, lit< tt, (lit≤ tt, lit< tt, (lit≤ tt, lit< tt, (lit≤ tt, lit< tt, (lit≤ tt, lit< tt, (lit≤ tt, lit< tt, (lit≤ tt, lit< tt, tt)))))))))))
ascend_fixed false = tt

pub writable_ascend : (f : RegisterFile) → pair_count f ≤ 32 → Ascend 0x200 0x300 (writable f)
writable_ascend f few =
    ascend_append 0x200 0x277 0x300 (pair_registers 0 (pair_count f) ++ fixed_part_of f) (Pat ∷ DefaultType ∷ []) (lit≤ tt) (lit≤ tt)
    (ascend_append 0x200 0x250 0x277 (pair_registers 0 (pair_count f)) (fixed_part_of f) (lit≤ tt) (lit≤ tt) (ascend_pairs 0x200 0x250 0 (pair_count f) (omega arith) (omega arith)) (ascend_fixed (has_fixed f)))
    (lit≤ tt, lit< tt, (lit≤ tt, lit< tt, tt))

-- a register that is found lies in the bounds
pub found_bounds : (p : Register → Bool) (low high : ℕ) (rs : List Register) (r : Register) → Ascend low high rs → find p rs ≡ Some r → (low ≤ number_of r) × (number_of r < high)
found_bounds p low high [] r up is = absurd (cc is)
found_bounds p low high (s ∷ ss) r up is = elim (cases_Bool (p s)) [
  | inl passes ↦
      let e : Some s ≡ Some r = rw passes at is in
      let same : s ≡ r = cc e in
      subst (λ t. (low ≤ number_of t) × (number_of t < high)) same (up.0, up.1)
  | inr fails ↦ let later = found_bounds p (number_of s + 1) high ss r up.2 (rw fails at is) in (omega (arith, up.0, later.0), later.1)
]

-- each register is the one that is found by its number
abbrev IsFound : List Register → Register → Type 0
IsFound rs r = find (λ s. number_of s == number_of r) rs ≡ Some r

skip : (r : Register) (low high : ℕ) (rs ss : List Register) → number_of r < low → Ascend low high ss → AllByRecursion (IsFound rs) ss → AllByRecursion (IsFound (r ∷ rs)) ss
skip r low high rs [] below up found = tt
skip r low high rs (s ∷ ss) below up found =
    let apart : (number_of r == number_of s) ≡ false = other (number_of r) (number_of s) (omega (arith, up.0)) in
    (rw apart found.0, skip r (number_of s + 1) high rs ss (omega (arith, up.0)) up.2 found.1)
  where
    other : (a b : ℕ) → a < b → (a == b) ≡ false
    other a b less = grind (arith, nat_tests)

found_each : (low high : ℕ) (rs : List Register) → Ascend low high rs → AllByRecursion (IsFound rs) rs
found_each low high [] up = tt
found_each low high (r ∷ rs) up =
    let here : (number_of r == number_of r) ≡ true = same (number_of r) in
    (rw here refl, skip r (number_of r + 1) high rs rs (omega arith) up.2 (found_each (number_of r + 1) high rs up.2))
  where
    same : (a : ℕ) → (a == a) ≡ true
    same a = grind (arith, nat_tests)

pub all_at : {A : Type 0} (P : A → Type 0) (xs : List A) (i : ℕ) (x : A) → AllByRecursion P xs → slice_get xs i ≡ Some x → P x
all_at P [] i x all is = absurd (cc is)
all_at P (y ∷ ys) zero x all is = let same : y ≡ x = cc is in subst P same all.0
all_at P (y ∷ ys) (suc i) x all is = all_at P ys i x all.1 is

-- each writable register is the one of its number
pub writable_found : (f : RegisterFile) → pair_count f ≤ 32 → AllByRecursion (λ r. register_of f (number_of r) ≡ Some r) (writable f)
writable_found f few = found_each 0x200 0x300 (writable f) (writable_ascend f few)

-- where a register stands among the writable ones
pub place_in_writable : (f : RegisterFile) (r : Register) → IsRegisterFile f → IsWithin f r → (i : ℕ) × (slice_get (writable f) i ≡ Some r)
place_in_writable f (PhysBase n) is within =
    let half : 2 * n / 2 ≡ n = omega arith in
    (2 * n, writable_base f (2 * n) (omega (arith, is.all_pairs, pairs_length 0 (pair_count f))) (omega arith) ∙ ap (λ k. Some (PhysBase k)) half)
place_in_writable f (PhysMask n) is within =
    let half : (2 * n + 1) / 2 ≡ n = omega arith in
    (2 * n + 1, writable_mask f (2 * n + 1) (omega (arith, is.all_pairs, pairs_length 0 (pair_count f))) (λ e. omega arith) ∙ ap (λ k. Some (PhysMask k)) half)
place_in_writable f (FixedRange place) is within =
    let first : ℕ = length (pair_registers 0 (pair_count f)) in
    let size : length (fixed_part_of f) ≡ 11 = rw within.1 refl in
    let past : first + place - first ≡ place = omega arith in
    (first + place, writable_fixed f (first + place) (omega arith) (omega (arith, size, within.0)) ∙ ap (λ k. Some (FixedRange k)) past)
place_in_writable f Pat is within =
    (length (pair_registers 0 (pair_count f)) + length (fixed_part_of f) + 0, writable_last f (length (pair_registers 0 (pair_count f)) + length (fixed_part_of f) + 0) 0 refl)
place_in_writable f DefaultType is within =
    (length (pair_registers 0 (pair_count f)) + length (fixed_part_of f) + 1, writable_last f (length (pair_registers 0 (pair_count f)) + length (fixed_part_of f) + 1) 1 refl)

pub register_of-number_of : (f : RegisterFile) (r : Register) → IsRegisterFile f → IsWithin f r → register_of f (number_of r) ≡ Some r
register_of-number_of f r is within =
    let place = place_in_writable f r is within in
    all_at (λ s. register_of f (number_of s) ≡ Some s) (writable f) place.0 r (writable_found f is.few_pairs) place.1

-- what a number tells of its register
module _ (f : RegisterFile) (number : ℕ) (r : Register) (is : IsRegisterFile f) (found : register_of f number ≡ Some r) where
  parts : IsKnown f r × ((number_of r == number) ≡ true)
  parts = each_found (IsKnown f) (λ s. number_of s == number) (writable f) r (known f is.all_pairs) found

  pub register_of-within : IsWithin f r
  register_of-within = parts.0.0

  pub register_of-number : number_of r ≡ number
  register_of-number = eqb-true _ _ parts.1

  pub register_of-range : (0x200 ≤ number) × (number < 0x300)
  register_of-range =
      let bounds = found_bounds (λ s. number_of s == number) 0x200 0x300 (writable f) r (writable_ascend f is.few_pairs) found in
      (omega (arith, bounds.0, register_of-number), omega (arith, bounds.1, register_of-number))

-- the register that is written, where there is one
pub written_register : (f new : RegisterFile) (number v : ℕ) → written f number v ≡ Some new → (r : Register) × (register_of f number ≡ Some r) × (with_value f r v ≡ new)
written_register f new number v is = by (register_of f number) refl is
  where
    by : (found : Option Register) → register_of f number ≡ found → option_map (λ r. with_value f r v) found ≡ Some new → (r : Register) × (register_of f number ≡ Some r) × (with_value f r v ≡ new)
    by None is_found is = absurd (cc is)
    by (Some r) is_found is = (r, is_found, cc is)

-- a write keeps what a file is
pub is_file-with_value : (f : RegisterFile) (r : Register) (v : ℕ) → IsRegisterFile f → IsWithin f r → IsRegisterFile (with_value f r v)
is_file-with_value f (PhysBase n) v is within = record { wide = is.wide; narrow = is.narrow; few_pairs = is.few_pairs; all_pairs = simp length-set is.all_pairs; all_fixed = is.all_fixed; no_fixed = is.no_fixed }
is_file-with_value f (PhysMask n) v is within = record { wide = is.wide; narrow = is.narrow; few_pairs = is.few_pairs; all_pairs = simp length-set is.all_pairs; all_fixed = is.all_fixed; no_fixed = is.no_fixed }
is_file-with_value f (FixedRange place) v is within = record {
  wide = is.wide;
  narrow = is.narrow;
  few_pairs = is.few_pairs;
  all_pairs = is.all_pairs;
  all_fixed = simp length-set is.all_fixed;
  no_fixed = λ none. let e : true ≡ false = sym within.1 ∙ none in cc e;
}
is_file-with_value f Pat v is within = record { wide = is.wide; narrow = is.narrow; few_pairs = is.few_pairs; all_pairs = is.all_pairs; all_fixed = is.all_fixed; no_fixed = is.no_fixed }
is_file-with_value f DefaultType v is within = record { wide = is.wide; narrow = is.narrow; few_pairs = is.few_pairs; all_pairs = is.all_pairs; all_fixed = is.all_fixed; no_fixed = is.no_fixed }

pub is_file-written : (old new : RegisterFile) (number v : ℕ) → IsRegisterFile old → written old number v ≡ Some new → IsRegisterFile new
is_file-written old new number v is write =
    let w = written_register old new number v write in
    subst IsRegisterFile w.2 (is_file-with_value old w.0 v is (register_of-within old number w.0 is w.1))

not_capabilities : (number : ℕ) → 0x200 ≤ number → (number == 0xfe) ≡ false
not_capabilities number high = grind (arith, nat_tests, high)

-- the value at a register's number is the register's
pub value_at-number_of : (f : RegisterFile) (r : Register) → IsRegisterFile f → IsWithin f r → value_at f (number_of r) ≡ Some (value_of f r)
value_at-number_of f r is within =
    let found = register_of-number_of f r is within in
    rw (not_capabilities (number_of r) (register_of-range f (number_of r) r is found).0, found) refl

pair_ext : (x y : ℕ × ℕ) → x.0 ≡ y.0 → x.1 ≡ y.1 → x ≡ y
pair_ext (a, b) (c, d) first second = ap (λ n. let p : ℕ × ℕ = (n, b) in p) first ∙ ap (λ n. let p : ℕ × ℕ = (c, n) in p) second

abbrev made : ℕ → ℕ → List (ℕ × ℕ) → List ℕ → ℕ → ℕ → RegisterFile
made width capabilities pairs fixed pat default_type = record { width = width; capabilities = capabilities; pairs = pairs; fixed = fixed; pat = pat; default_type = default_type }

file_ext : {w1 w2 c1 c2 t1 t2 d1 d2 : ℕ} {p1 p2 : List (ℕ × ℕ)} {f1 f2 : List ℕ} → w1 ≡ w2 → c1 ≡ c2 → p1 ≡ p2 → f1 ≡ f2 → t1 ≡ t2 → d1 ≡ d2 → made w1 c1 p1 f1 t1 d1 ≡ made w2 c2 p2 f2 t2 d2
file_ext width capabilities pairs fixed pat default_type = cc

-- Files of one width in which every register has one value are one file.
module _ (f g : RegisterFile) (is : IsRegisterFile f) (is_too : IsRegisterFile g) (same : (number : ℕ) → value_at f number ≡ value_at g number) where
  same_capabilities : f.capabilities ≡ g.capabilities
  same_capabilities = let e : Some f.capabilities ≡ Some g.capabilities = same 0xfe in cc e

  same_count : length f.pairs ≡ length g.pairs
  same_count = is.all_pairs ∙ ap low_byte same_capabilities ∙ sym is_too.all_pairs

  same_tests : has_fixed f ≡ has_fixed g
  same_tests = rw same_capabilities refl

  within_other : (r : Register) → IsWithin f r → IsWithin g r
  within_other (PhysBase n) within = omega (arith, same_count)
  within_other (PhysMask n) within = omega (arith, same_count)
  within_other (FixedRange place) within = (within.0, sym same_tests ∙ within.1)
  within_other Pat within = tt
  within_other DefaultType within = tt

  same_value_of : (r : Register) → IsWithin f r → value_of f r ≡ value_of g r
  same_value_of r within =
      let e : Some (value_of f r) ≡ Some (value_of g r) = sym (value_at-number_of f r is within) ∙ same (number_of r) ∙ value_at-number_of g r is_too (within_other r within) in
      cc e

  same_pairs : f.pairs ≡ g.pairs
  same_pairs = ext_get_or (0, 0) f.pairs g.pairs same_count (λ i within. pair_ext _ _ (same_value_of (PhysBase i) within) (same_value_of (PhysMask i) within))

  same_fixed : (test : Bool) → has_fixed f ≡ test → f.fixed ≡ g.fixed
  same_fixed true test = ext_get_or 0 f.fixed g.fixed (is.all_fixed ∙ sym is_too.all_fixed) (λ i within. same_value_of (FixedRange i) (omega (arith, is.all_fixed), test))
  same_fixed false test = is.no_fixed test ∙ sym (is_too.no_fixed (sym same_tests ∙ test))

  pub same_file : f.width ≡ g.width → f ≡ g
  same_file width = file_ext width same_capabilities same_pairs (same_fixed (has_fixed f) refl) (same_value_of Pat tt) (same_value_of DefaultType tt)

-- the registers below a place have values of 64 bits
abbrev pub HasWordsBelow : RegisterFile → ℕ → Type 0
HasWordsBelow f i = (k : ℕ) (r : Register) → k < i → slice_get (writable f) k ≡ Some r → value_of f r < 2 ^ 64

pub all_fit : (f : RegisterFile) (count : ℕ) → IsRegisterFile f → count ≡ length (writable f) → HasWordsBelow f count → f.capabilities < 2 ^ 64 → HasWords f
all_fit f count is all each capabilities number value found = elim (cases_Bool (number == 0xfe)) [
  | inl hit ↦ let e : Some f.capabilities ≡ Some value = rw hit at found in let same : f.capabilities ≡ value = cc e in omega arith
  | inr miss ↦ by (register_of f number) refl (rw miss at found)
]
  where
    by : (o : Option Register) → register_of f number ≡ o → option_map (value_of f) (register_of f number) ≡ Some value → value < 2 ^ 64
    by None none some = absurd (cc (rw none at some))
    by (Some r) is_r some =
        let place = place_in_writable f r is (register_of-within f number r is is_r) in
        let fits = each place.0 r (omega (arith, slice_get_within (writable f) place.0 r place.1)) place.1 in
        let e : Some (value_of f r) ≡ Some value = rw is_r at some in
        let same : value_of f r ≡ value = cc e in
        omega (arith, fits)
