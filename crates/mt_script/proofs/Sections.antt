-- The registers that a section gives are as many as can be written, at most.
use Rattle.std.proofs.Common.{◌≡◌, ℕ, suc, zero, ◌≤◌, ◌<◌, ◌+◌, ◌==◌, ◌&&◌, ◌||◌, not, nat_eq, Bool, true, false, List, [], ◌∷◌, ◌++◌, length, Option, Some, None, refl, sym, ◌∙◌, arith, lit≤}
use Rattle.std.specs.Prelude.{is_some, IfSome, map, if◌then◌else◌}
use Rattle.std.specs.List.{IsDistinct, AllByRecursion, list_any, slice_get}
use Rattle.std.specs.Set.{is_member}
use Rattle.std.specs.Cmp.{nat_eq_equiv}
use Rattle.std.specs.Option.{option_map}
use Rattle.std.proofs.lemmas.Map.Made.{length-le_from_is_member}
use Rattle.std.proofs.lemmas.List.Folds.{list_any-append}
use Rattle.std.proofs.lemmas.Bool.{eqb-true}
use Rattle.mt_regs.specs.RegisterFile.{RegisterFile, IsRegisterFile, has_fixed, pair_count}
use Rattle.mt_regs.specs.Registers.{register_of, value_of, number_of, writable, fixed_registers, fixed_part_of}
use Rattle.mt_regs.specs.declared.registers.Register.{Register}
use Rattle.mt_regs.proofs.ByNumber.{place_in_writable, register_of-number, register_of-within}
use Rattle.mt_regs.proofs.Writable.{pairs_length, writable_length}
use Rattle.mt_script.specs.Numbers.{is_writable}

or_parts : (a b : Bool) → (a || b) ≡ false → (a ≡ false) × (b ≡ false)
or_parts false false is = (refl, refl)
or_parts false true is = cc is
or_parts true b is = cc is

all_then : (P : ℕ → Type 0) (xs : List ℕ) (m : ℕ) → AllByRecursion P xs → P m → AllByRecursion P (xs ++ m ∷ [])
all_then P [] m all last = (last, tt)
all_then P (x ∷ xs) m all last = (all.0, all_then P xs m all.1 last)

distinct_then : (xs : List ℕ) (m : ℕ) → IsDistinct nat_eq xs → is_member nat_eq xs m ≡ false → IsDistinct nat_eq (xs ++ m ∷ [])
unfolding IsDistinct
distinct_then [] m distinct new = (tt, tt)
distinct_then (x ∷ xs) m distinct new =
    let parts = or_parts (nat_eq m x) (list_any (nat_eq m) xs) new in
    (all_then (λ y. nat_eq x y ≡ false) xs m distinct.0 (nat_eq_equiv.symm x m ∙ parts.0), distinct_then xs m distinct.1 parts.1)

member_at : (rs : List Register) (i : ℕ) (r : Register) → slice_get rs i ≡ Some r → is_member nat_eq (map number_of rs) (number_of r) ≡ true
member_at [] i r found = cc found
member_at (s ∷ rs) zero r found = let e : s ≡ r = cc found in rw (e, nat_eq_equiv.refl (number_of r)) refl
member_at (s ∷ rs) (suc i) r found = or_true (nat_eq (number_of r) (number_of s)) (list_any (nat_eq (number_of r)) (map number_of rs)) (member_at rs i r found)
  where
    or_true : (a b : Bool) → b ≡ true → (a || b) ≡ true
    or_true true b is = refl
    or_true false b is = is

member_writable : (file : RegisterFile) (q : ℕ) → IsRegisterFile file → is_writable (Some file) q ≡ true → is_member nat_eq (map number_of (writable file)) q ≡ true
member_writable file q is known = by (q == 0xfe) (register_of file q) refl known
  where
    by : (cap : Bool) (found : Option Register) → register_of file q ≡ found → (not cap && is_some (if cap then Some file.capabilities else option_map (value_of file) found)) ≡ true → is_member nat_eq (map number_of (writable file)) q ≡ true
    by true found at known = cc known
    by false None at known = cc known
    by false (Some r) at known =
        let place = place_in_writable file r is (register_of-within file q r is at) in
        rw (← register_of-number file q r is at) (member_at (writable file) place.0 r place.1)

length-numbers : (rs : List Register) → length (map number_of rs) ≡ length rs
length-numbers [] = refl
length-numbers (r ∷ rs) = let e = length-numbers rs in omega arith

few_fixed : (file : RegisterFile) → length (fixed_part_of file) ≤ 11
few_fixed file = by (has_fixed file)
  where
    by : (fixed : Bool) → length (if fixed then fixed_registers else []) ≤ 11
    by true = lit≤ tt
    by false = lit≤ tt

few_writable : (file : RegisterFile) → IsRegisterFile file → length (map number_of (writable file)) ≤ 77
few_writable file is =
    let same = length-numbers (writable file) in
    let all = writable_length file in
    let pairs = pairs_length 0 (pair_count file) in
    let fixed = few_fixed file in
    let few = is.few_pairs in
    omega arith

few_members : (file : Option RegisterFile) (xs : List ℕ) → IfSome file IsRegisterFile → IsDistinct nat_eq xs → ((q : ℕ) → is_member nat_eq xs q ≡ true → is_writable file q ≡ true) → length xs ≤ 77
few_members None [] is distinct known = omega arith
few_members None (x ∷ xs) is distinct known = none (x == 0xfe) (known x (rw (nat_eq_equiv.refl x) refl))
  where
    none : (cap : Bool) → (not cap && false) ≡ true → length (x ∷ xs) ≤ 77
    none true is = cc is
    none false is = cc is
few_members (Some file) xs is distinct known =
    let count = length-le_from_is_member nat_eq_equiv xs (map number_of (writable file)) distinct (λ q member. member_writable file q is (known q member)) in
    let most = few_writable file is in
    omega arith

-- one more register may be given
module _ (file : Option RegisterFile) (seen : List ℕ) (msr : ℕ) (is : IfSome file IsRegisterFile) (distinct : IsDistinct nat_eq seen)
    (all : (q : ℕ) → is_member nat_eq seen q ≡ true → is_writable file q ≡ true) (known : is_writable file msr ≡ true) (new : is_member nat_eq seen msr ≡ false) where
  pub one_more_distinct : IsDistinct nat_eq (seen ++ msr ∷ [])
  one_more_distinct = distinct_then seen msr distinct new

  pub one_more_known : (q : ℕ) → is_member nat_eq (seen ++ msr ∷ []) q ≡ true → is_writable file q ≡ true
  one_more_known q member = by (list_any (nat_eq q) seen) (nat_eq q msr) refl refl (sym (list_any-append (nat_eq q) seen (msr ∷ [])) ∙ member)
    where
      by : (old last : Bool) → list_any (nat_eq q) seen ≡ old → nat_eq q msr ≡ last → (list_any (nat_eq q) seen || list_any (nat_eq q) (msr ∷ [])) ≡ true → is_writable file q ≡ true
      by true last old_is last_is member = all q old_is
      by false true old_is last_is member = let e : q ≡ msr = eqb-true q msr last_is in rw e known
      by false false old_is last_is member = cc (rw (old_is, last_is) at member)

  pub room_for_one : length seen < 77
  room_for_one = below seen (few_members file (seen ++ msr ∷ []) is one_more_distinct one_more_known)
    where
      length_then : (xs : List ℕ) → length (xs ++ msr ∷ []) ≡ length xs + 1
      length_then [] = refl
      length_then (x ∷ xs) = let e = length_then xs in omega arith

      below : (xs : List ℕ) → length (xs ++ msr ∷ []) ≤ 77 → length xs < 77
      below xs count = let e = length_then xs in omega arith
