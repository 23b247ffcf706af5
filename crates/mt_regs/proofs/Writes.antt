-- What a write of one register does to the others.
use Rattle.std.proofs.Common.{◌≡◌, ◌≢◌, ℕ, zero, suc, ◌+◌, ◌<◌, ◌≤◌, ◌==◌, Bool, true, false, List, [], ◌∷◌, ◌++◌, length, Option, Some, None, refl, sym, ap, ◌∙◌, subst, inl, inr, arith, lit<, lit≤, slice_set}
use Rattle.std.specs.Prelude.{if◌then◌else◌}
use Rattle.std.specs.List.{find}
use Rattle.std.specs.Option.{option_map}
use Rattle.std.proofs.lemmas.Bool.{cases_Bool, cases_lt, eqb-true}
use Rattle.std.proofs.lemmas.Bool.Decides.{nat_tests}
use Rattle.std.proofs.lemmas.List.{get_or-set_same, get_or-set_other}
use Rattle.mt_regs.specs.declared.registers.Register.{Register}
use Rattle.mt_regs.specs.declared.registers.Register.TheVariants.{PhysBase, PhysMask, FixedRange, Pat, DefaultType}
use Rattle.mt_regs.specs.RegisterFile.{IsRegisterFile, RegisterFile, has_fixed, pair_at, pair_count}
use Rattle.mt_regs.specs.Registers.{ChangesOnly, IsWithin, fixed_part_of, fixed_registers, number_of, pair_registers, register_of, value_of, with_value, writable, written}

pub Each : (Register → Type 0) → List Register → Type 0
Each P [] = Unit {0}
Each P (r ∷ rs) = P r × Each P rs

each_append : (P : Register → Type 0) (rs ss : List Register) → Each P rs → Each P ss → Each P (rs ++ ss)
unfolding Each
each_append P [] ss left right = right
each_append P (r ∷ rs) ss left right = (left.0, each_append P rs ss left.1 right)

pub each_found : (P : Register → Type 0) (p : Register → Bool) (rs : List Register) (r : Register) → Each P rs → find p rs ≡ Some r → P r × (p r ≡ true)
unfolding Each
each_found P p [] r each is = absurd (cc)
each_found P p (s ∷ ss) r each is = elim (cases_Bool (p s)) [
  | inl passes ↦
      let e : Some s ≡ Some r = rw passes at is in
      let same : s ≡ r = cc e in
      (subst P same each.0, ap p (sym same) ∙ passes)
  | inr fails ↦ each_found P p ss r each.1 (rw fails at is)
]

-- the file has the register, and its number is none of a capability register
abbrev pub IsKnown : RegisterFile → Register → Type 0
IsKnown f r = IsWithin f r × (0x200 ≤ number_of r)

known_pairs : (f : RegisterFile) (first count : ℕ) → first + count ≤ length f.pairs → Each (IsKnown f) (pair_registers first count)
unfolding Each
known_pairs f first zero within = tt
known_pairs f first (suc count) within =
    ((omega arith, omega arith), ((omega arith, omega arith), known_pairs f (first + 1) count (omega arith)))

known_fixed : (f : RegisterFile) (b : Bool) → has_fixed f ≡ b → Each (IsKnown f) (if b then fixed_registers else [])
unfolding Each
known_fixed f true has =
    (((lit< tt, has), lit≤ tt), (((lit< tt, has), lit≤ tt), (((lit< tt, has), lit≤ tt), (((lit< tt, has), lit≤ tt), (((lit< tt, has), lit≤ tt), (((lit< tt, has), lit≤ tt), (((lit< tt, has), lit≤ tt), (((lit< tt, has), lit≤ tt), (((lit< tt, has), lit≤ tt), (((lit< tt, has), lit≤ tt), (((lit< tt, has), lit≤ tt), tt)))))))))))
known_fixed f false has = tt

pub known : (f : RegisterFile) → length f.pairs ≡ pair_count f → Each (IsKnown f) (writable f)
unfolding Each
known f all =
    each_append (IsKnown f) (pair_registers 0 (pair_count f) ++ fixed_part_of f) (Pat ∷ DefaultType ∷ [])
    (each_append (IsKnown f) (pair_registers 0 (pair_count f)) (fixed_part_of f) (known_pairs f 0 (pair_count f) (omega arith)) (known_fixed f (has_fixed f) refl))
    ((tt, lit≤ tt), ((tt, lit≤ tt), tt))

-- the half of each pair that isn't written stays
same_half : {A : Type 0} (half : ℕ × ℕ → A) (pairs : List (ℕ × ℕ)) (n k : ℕ) (pair : ℕ × ℕ) → n < length pairs → half pair ≡ half (pair_at pairs n)
    → half (pair_at (slice_set pairs n pair) k) ≡ half (pair_at pairs k)
same_half half pairs n k pair within same = elim (cases_lt k n) [
  | inl below ↦ ap half (get_or-set_other pairs n k pair (0, 0) (λ e. omega arith))
  | inr past ↦ elim (cases_lt n k) [
    | inl above ↦ ap half (get_or-set_other pairs n k pair (0, 0) (λ e. omega arith))
    | inr level ↦
        let e : k ≡ n = omega arith in
        rw e (ap half (get_or-set_same pairs n pair (0, 0) within) ∙ same)
  ]
]

changed_value : (f : RegisterFile) (r : Register) (v : ℕ) → length f.fixed ≡ 11 → IsWithin f r → value_of (with_value f r v) r ≡ v
changed_value f (PhysBase n) v size within = ap (λ p. p.0) (get_or-set_same f.pairs n (v, (pair_at f.pairs n).1) (0, 0) within)
changed_value f (PhysMask n) v size within = ap (λ p. p.1) (get_or-set_same f.pairs n ((pair_at f.pairs n).0, v) (0, 0) within)
changed_value f (FixedRange place) v size within = get_or-set_same f.fixed place v 0 (omega (arith, within.0))
changed_value f Pat v size within = refl
changed_value f DefaultType v size within = refl

kept_value : (f : RegisterFile) (r s : Register) (v : ℕ) → IsWithin f r → r ≢ s → value_of (with_value f r v) s ≡ value_of f s
kept_value f (PhysBase n) (PhysBase k) v within apart = ap (λ p. p.0) (get_or-set_other f.pairs n k (v, (pair_at f.pairs n).1) (0, 0) (λ e. apart (ap PhysBase (sym e))))
kept_value f (PhysBase n) (PhysMask k) v within apart = same_half (λ p. p.1) f.pairs n k (v, (pair_at f.pairs n).1) within refl
kept_value f (PhysBase n) (FixedRange q) v within apart = refl
kept_value f (PhysBase n) Pat v within apart = refl
kept_value f (PhysBase n) DefaultType v within apart = refl
kept_value f (PhysMask n) (PhysBase k) v within apart = same_half (λ p. p.0) f.pairs n k ((pair_at f.pairs n).0, v) within refl
kept_value f (PhysMask n) (PhysMask k) v within apart = ap (λ p. p.1) (get_or-set_other f.pairs n k ((pair_at f.pairs n).0, v) (0, 0) (λ e. apart (ap PhysMask (sym e))))
kept_value f (PhysMask n) (FixedRange q) v within apart = refl
kept_value f (PhysMask n) Pat v within apart = refl
kept_value f (PhysMask n) DefaultType v within apart = refl
kept_value f (FixedRange place) (PhysBase k) v within apart = refl
kept_value f (FixedRange place) (PhysMask k) v within apart = refl
kept_value f (FixedRange place) (FixedRange q) v within apart = get_or-set_other f.fixed place q v 0 (λ e. apart (ap FixedRange (sym e)))
kept_value f (FixedRange place) Pat v within apart = refl
kept_value f (FixedRange place) DefaultType v within apart = refl
kept_value f Pat (PhysBase k) v within apart = refl
kept_value f Pat (PhysMask k) v within apart = refl
kept_value f Pat (FixedRange q) v within apart = refl
kept_value f Pat Pat v within apart = absurd (apart refl)
kept_value f Pat DefaultType v within apart = refl
kept_value f DefaultType (PhysBase k) v within apart = refl
kept_value f DefaultType (PhysMask k) v within apart = refl
kept_value f DefaultType (FixedRange q) v within apart = refl
kept_value f DefaultType Pat v within apart = refl
kept_value f DefaultType DefaultType v within apart = absurd (apart refl)

same_capabilities : (f : RegisterFile) (r : Register) (v : ℕ) → (with_value f r v).capabilities ≡ f.capabilities
same_capabilities f (PhysBase n) v = refl
same_capabilities f (PhysMask n) v = refl
same_capabilities f (FixedRange place) v = refl
same_capabilities f Pat v = refl
same_capabilities f DefaultType v = refl

same_width : (f : RegisterFile) (r : Register) (v : ℕ) → (with_value f r v).width ≡ f.width
same_width f (PhysBase n) v = refl
same_width f (PhysMask n) v = refl
same_width f (FixedRange place) v = refl
same_width f Pat v = refl
same_width f DefaultType v = refl

same_registers : (f : RegisterFile) (r : Register) (v number : ℕ) → register_of (with_value f r v) number ≡ register_of f number
same_registers f (PhysBase n) v number = refl
same_registers f (PhysMask n) v number = refl
same_registers f (FixedRange place) v number = refl
same_registers f Pat v number = refl
same_registers f DefaultType v number = refl

not_capabilities : (number : ℕ) → 0x200 ≤ number → (number == 0xfe) ≡ false
not_capabilities number high = grind (arith, nat_tests, high)

of_register : (f : RegisterFile) (r : Register) (number v : ℕ) → IsRegisterFile f → register_of f number ≡ Some r → ChangesOnly f (with_value f r v) number v
of_register f r number v is found =
    let at = each_found (IsKnown f) (λ s. number_of s == number) (writable f) r (known f is.all_pairs) found in
    let number_is : number_of r ≡ number = eqb-true _ _ at.1 in
    let apart : (number == 0xfe) ≡ false = not_capabilities number (omega (arith, at.0.1)) in
    let value : value_of (with_value f r v) r ≡ v = changed_value f r v is.all_fixed at.0.0 in
    record {
      changed = rw (apart, same_registers f r v number, found) (ap Some value);
      others = λ other away. elim (cases_Bool (other == 0xfe)) [
        | inl capabilities ↦ rw (capabilities, same_capabilities f r v) refl
        | inr register ↦ rw (register, same_registers f r v other) (kept other away number_is at.0.0 (register_of f other) refl)
      ];
      width = same_width f r v;
    }
  where
    kept : (other : ℕ) → other ≢ number → number_of r ≡ number → IsWithin f r → (o : Option Register) → register_of f other ≡ o → option_map (value_of (with_value f r v)) o ≡ option_map (value_of f) o
    kept other away number_is within None at = refl
    kept other away number_is within (Some s) at =
        let there = each_found (IsKnown f) (λ t. number_of t == other) (writable f) s (known f is.all_pairs) at in
        let other_is : number_of s ≡ other = eqb-true _ _ there.1 in
        ap Some (kept_value f r s v within (λ same. away (sym other_is ∙ ap number_of (sym same) ∙ number_is)))

pub changes_only : (old new : RegisterFile) (number v : ℕ) → IsRegisterFile old → written old number v ≡ Some new → ChangesOnly old new number v
changes_only old new number v is = by_register (register_of old number) refl
  where
    by_register : (o : Option Register) → register_of old number ≡ o → option_map (λ r. with_value old r v) o ≡ Some new → ChangesOnly old new number v
    by_register None found done = absurd (cc done)
    by_register (Some r) found done =
        let P : RegisterFile → Type 0 = λ f. ChangesOnly old f number v in
        let same : with_value old r v ≡ new = cc done in
        subst P same (of_register old r number v is found)
