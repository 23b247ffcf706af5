-- A file without one of its valid pairs.
use Rattle.std.proofs.Common.{◌≡◌, ◌∙◌, ℕ, ◌-◌, ◌*◌, ◌/◌, ◌%◌, ◌^◌, ◌<◌, ◌≤◌, Bool, true, false, List, [], ◌∷◌, length, Option, Some, None, sym, ap, subst, inl, inr, refl, arith, ◌⊎◌}
use Rattle.std.specs.Prelude.{not, ◌&&◌, ◌||◌, ◌==◌, if◌then◌else◌}
use Rattle.std.specs.Option.{option_or}
use Rattle.std.proofs.Math.Nat.{div-eq_of_lt, div-lt_iff_lt-mul}
use Rattle.std.proofs.lemmas.List.{get_or_past, get_or-set_other, get_or-set_same}
use Rattle.std.proofs.lemmas.Bool.{cases_lt, eqb-true}
use Rattle.std.proofs.lemmas.Nat.{pow_pos}
use Rattle.mt_kinds.specs.Bits.{is_bit_set}
use Rattle.mt_ranges.specs.Match.{is_run, is_valid, page_field}
use Rattle.mt_regs.specs.declared.fault.Reason.{Reason}
use Rattle.mt_regs.specs.declared.fault.Reason.TheVariants.{BrokenMask, ReservedBit, UnsupportedType}
use Rattle.mt_regs.specs.declared.registers.Register.{Register}
use Rattle.mt_regs.specs.declared.registers.Register.TheVariants.{PhysBase, PhysMask, FixedRange, Pat, DefaultType}
use Rattle.mt_regs.specs.RegisterFile.{RegisterFile, pair_at}
use Rattle.mt_regs.specs.Registers.{writable}
use Rattle.mt_regs.specs.Faults.{fault_at, first_of, has_broken_mask, has_reserved_bit, has_unsupported_type, reason_of, register_fault}
use Rattle.mt_explain.specs.Notes.{without}

-- a pair that the file doesn't have isn't valid
pub valid_within : (pairs : List (ℕ × ℕ)) (n : ℕ) → is_valid (pair_at pairs n) ≡ true → n < length pairs
valid_within pairs n valid = elim (cases_lt n (length pairs)) [
  | inl within ↦ within
  | inr past ↦ let e : is_valid (pair_at pairs n) ≡ false = ap is_valid (get_or_past pairs n (0, 0) past) in absurd (cc (sym e ∙ valid))
]

-- a value with bit 11 set, and the value without it
set_high : (mask : ℕ) → is_bit_set mask 11 ≡ true → mask / 2048 % 2 ≡ 1
set_high mask set = eqb-true _ _ set

pub valid_high : (mask : ℕ) → is_bit_set mask 11 ≡ true → 2 ^ 11 ≤ mask
valid_high mask set = let e = set_high mask set in let h : 2048 ≤ mask = omega (arith, e) in h

clear_bit : (mask : ℕ) → is_bit_set mask 11 ≡ true → is_bit_set (mask - 2 ^ 11) 11 ≡ false
clear_bit mask set =
    let e = set_high mask set in
    let z : (mask - 2048) / 2048 % 2 ≡ 0 = omega (arith, e) in
    ap (λ x. x == 1) z

clear_low : (mask : ℕ) → is_bit_set mask 11 ≡ true → (mask % 2 ^ 11 == 0) ≡ true → ((mask - 2 ^ 11) % 2 ^ 11 == 0) ≡ true
clear_low mask set low =
    let e = set_high mask set in
    let l : mask % 2048 ≡ 0 = eqb-true _ _ low in
    let z : (mask - 2048) % 2048 ≡ 0 = omega (arith, e, l) in
    ap (λ x. x == 0) z

clear_above : (mask width : ℕ) → (mask / 2 ^ width == 0) ≡ true → ((mask - 2 ^ 11) / 2 ^ width == 0) ≡ true
clear_above mask width above =
    let none : mask / 2 ^ width ≡ 0 = eqb-true _ _ above in
    let within : mask < 1 * 2 ^ width = (div-lt_iff_lt-mul (pow_pos width)).0 (omega (arith, none)) in
    ap (λ x. x == 0) (div-eq_of_lt (omega (arith, within)))

-- what is wrong with a mask whose low bits are clear, whose bits above the width are, that is valid, and that has no gap
abbrev of_mask : Bool → Bool → Bool → Bool → Option Reason
of_mask low high valid run = if not low || not high then Some ReservedBit else if valid && not run then Some BrokenMask else None

mask_parts : (low high valid run : Bool) → of_mask low high valid run ≡ None → (low ≡ true) × (high ≡ true)
mask_parts true true valid run none = (refl, refl)
mask_parts true false valid run none = absurd (cc none)
mask_parts false high valid run none = absurd (cc none)

module _ (f : RegisterFile) (n : ℕ) (valid : is_valid (pair_at f.pairs n) ≡ true) where
  abbrev left : ℕ × ℕ
  left = ((pair_at f.pairs n).0, (pair_at f.pairs n).1 - 2 ^ 11)

  at_n : pair_at (without f n).pairs n ≡ left
  at_n = get_or-set_same f.pairs n left (0, 0) (valid_within f.pairs n valid)

  at : (k : ℕ) → (k ≡ n) ⊎ (pair_at (without f n).pairs k ≡ pair_at f.pairs k)
  at k = elim (cases_lt k n) [
    | inl below ↦ inr (get_or-set_other f.pairs n k left (0, 0) (λ e. absurd (omega (arith, below, e))))
    | inr past ↦ elim (cases_lt n k) [
      | inl above ↦ inr (get_or-set_other f.pairs n k left (0, 0) (λ e. absurd (omega (arith, above, e))))
      | inr level ↦ inl (omega (arith, past, level))
    ]
  ]

  abbrev reason_for : Register → ℕ → Option Reason
  reason_for r v =
      if has_reserved_bit f r v then Some ReservedBit
      else if has_unsupported_type f r v then Some UnsupportedType
      else if has_broken_mask f r v then Some BrokenMask
      else None

  base_kept : (k : ℕ) → (pair_at (without f n).pairs k).0 ≡ (pair_at f.pairs k).0
  base_kept k = elim (at k) [
    | inl same ↦ let P : ℕ → Type 0 = λ j. (pair_at (without f n).pairs j).0 ≡ (pair_at f.pairs j).0 in subst P (sym same) (ap (λ (p : ℕ × ℕ). p.0) at_n)
    | inr kept ↦ ap (λ (p : ℕ × ℕ). p.0) kept
  ]

  mask_good : reason_of f (PhysMask n) ≡ None → reason_of (without f n) (PhysMask n) ≡ None
  mask_good good =
      let v = (pair_at f.pairs n).1 in
      let parts = mask_parts (v % 2 ^ 11 == 0) (v / 2 ^ f.width == 0) (is_bit_set v 11) (is_run (f.width - 12) (page_field f.width v)) good in
      ap (λ (p : ℕ × ℕ). reason_for (PhysMask n) p.1) at_n
      ∙ ap (λ (b : Bool). of_mask b (left.1 / 2 ^ f.width == 0) (is_bit_set left.1 11) (is_run (f.width - 12) (page_field f.width left.1))) (clear_low v valid parts.0)
      ∙ ap (λ (b : Bool). of_mask true b (is_bit_set left.1 11) (is_run (f.width - 12) (page_field f.width left.1))) (clear_above v f.width parts.1)
      ∙ ap (λ (b : Bool). of_mask true true b (is_run (f.width - 12) (page_field f.width left.1))) (clear_bit v valid)

  keeps : (r : Register) → reason_of f r ≡ None → reason_of (without f n) r ≡ None
  keeps (PhysBase k) good = ap (reason_for (PhysBase k)) (base_kept k) ∙ good
  keeps (PhysMask k) good = elim (at k) [
    | inl same ↦
        let P : ℕ → Type 0 = λ j. reason_of f (PhysMask j) ≡ None → reason_of (without f n) (PhysMask j) ≡ None in
        subst P (sym same) mask_good good
    | inr kept ↦ ap (λ (p : ℕ × ℕ). reason_for (PhysMask k) p.1) kept ∙ good
  ]
  keeps (FixedRange place) good = good
  keeps Pat good = good
  keeps DefaultType good = good

none_first : (f g : RegisterFile) (rs : List Register) → ((r : Register) → reason_of f r ≡ None → reason_of g r ≡ None) → first_of f rs ≡ None → first_of g rs ≡ None
none_first f g [] keep none = refl
none_first f g (r ∷ rs) keep none = by (reason_of f r) refl (none_first f g rs keep)
  where
    by : (why : Option Reason) → reason_of f r ≡ why → (first_of f rs ≡ None → first_of g rs ≡ None) → first_of g (r ∷ rs) ≡ None
    by None is go =
        let rest : first_of f rs ≡ None = sym (ap (λ (w : Option Reason). option_or (fault_at r w) (first_of f rs)) is) ∙ none in
        ap (λ (w : Option Reason). option_or (fault_at r w) (first_of g rs)) (keep r is) ∙ go rest
    by (Some why) is go = absurd (cc (sym (ap (λ (w : Option Reason). option_or (fault_at r w) (first_of f rs)) is) ∙ none))

-- no register of it is at fault if none of the file is
pub without_checked : (f : RegisterFile) (n : ℕ) → is_valid (pair_at f.pairs n) ≡ true → register_fault f ≡ None → register_fault (without f n) ≡ None
without_checked f n valid none = none_first f (without f n) (writable f) (keeps f n valid) none
