-- Where no register has a fault, no valid mask has a gap.
use Rattle.std.proofs.Common.{◌≡◌, ℕ, zero, suc, ◌+◌, ◌-◌, ◌<◌, Bool, true, false, List, [], ◌∷◌, ◌++◌, length, Option, Some, None, refl, arith}
use Rattle.std.specs.Prelude.{not, ◌&&◌, if◌then◌else◌}
use Rattle.std.specs.Option.{option_or}
use Rattle.mt_kinds.specs.Bits.{is_bit_set}
use Rattle.mt_ranges.specs.Match.{is_run, page_field}
use Rattle.mt_regs.specs.declared.fault.Reason.{Reason}
use Rattle.mt_regs.specs.declared.fault.Reason.TheVariants.{ReservedBit, UnsupportedType, BrokenMask}
use Rattle.mt_regs.specs.declared.registers.Register.{Register}
use Rattle.mt_regs.specs.declared.registers.Register.TheVariants.{PhysMask, Pat, DefaultType}
use Rattle.mt_regs.specs.RegisterFile.{RegisterFile, has_fixed, pair_at, pair_count}
use Rattle.mt_regs.specs.Registers.{fixed_registers, pair_registers, value_of}
use Rattle.mt_regs.specs.Faults.{fault_at, first_of, has_broken_mask, has_reserved_bit, has_unsupported_type, reason_of, register_fault}
use Rattle.mt_regs.specs.Alike.{IsWhole}

or_none_left : {A : Type 0} (a b : Option A) → option_or a b ≡ None → a ≡ None
or_none_left None b h = refl
or_none_left (Some x) b h = h

or_none_right : {A : Type 0} (a b : Option A) → option_or a b ≡ None → b ≡ None
or_none_right None b h = h
or_none_right (Some x) b h = absurd (cc)

no_reason : (r : Register) (why : Option Reason) → fault_at r why ≡ None → why ≡ None
no_reason r None h = refl
no_reason r (Some why) h = absurd (cc)

pub front_none : (f : RegisterFile) (front others : List Register) → first_of f (front ++ others) ≡ None → first_of f front ≡ None
front_none f [] others h = refl
front_none f (r ∷ rs) others h =
    let first : fault_at r (reason_of f r) ≡ None = or_none_left _ _ h in
    let later : first_of f rs ≡ None = front_none f rs others (or_none_right _ _ h) in
    rw (first, later) refl

mask_passes : (f : RegisterFile) (first count k : ℕ) → first_of f (pair_registers first count) ≡ None → k < count → reason_of f (PhysMask (first + k)) ≡ None
mask_passes f first zero k h within = absurd (omega arith)
mask_passes f first (suc count) zero h within =
    let e : first + 0 ≡ first = omega arith in
    rw e (no_reason (PhysMask first) _ (or_none_left _ _ (or_none_right _ _ h)))
mask_passes f first (suc count) (suc k) h within =
    let e : first + suc k ≡ first + 1 + k = omega arith in
    rw e (mask_passes f (first + 1) count k (or_none_right _ _ (or_none_right _ _ h)) (omega arith))

not_broken : (a b c : Bool) → (if a then Some ReservedBit else if b then Some UnsupportedType else if c then Some BrokenMask else None) ≡ None → c ≡ false
not_broken true b c h = absurd (cc)
not_broken false true c h = absurd (cc)
not_broken false false true h = absurd (cc)
not_broken false false false h = refl

run_of : (valid run : Bool) → (valid && not run) ≡ false → valid ≡ true → run ≡ true
run_of true true h is = refl
run_of true false h is = absurd (cc)
run_of false run h is = absurd (cc)

pairs_pass : (f : RegisterFile) → register_fault f ≡ None → first_of f (pair_registers 0 (pair_count f)) ≡ None
pairs_pass f checked =
    let fixed : List Register = (if has_fixed f then fixed_registers else []) in
    front_none f (pair_registers 0 (pair_count f)) fixed (front_none f (pair_registers 0 (pair_count f) ++ fixed) (Pat ∷ DefaultType ∷ []) checked)

pub whole_masks : (f : RegisterFile) → length f.pairs ≡ pair_count f → register_fault f ≡ None → (n : ℕ) → n < length f.pairs → IsWhole f.width (pair_at f.pairs n)
whole_masks f all checked n within valid =
    let pairs : first_of f (pair_registers 0 (pair_count f)) ≡ None = pairs_pass f checked in
    let e : 0 + n ≡ n = omega arith in
    let passes : reason_of f (PhysMask n) ≡ None = rw e at (mask_passes f 0 (pair_count f) n pairs (omega arith)) in
    let v : ℕ = value_of f (PhysMask n) in
    let sound : has_broken_mask f (PhysMask n) v ≡ false = not_broken (has_reserved_bit f (PhysMask n) v) (has_unsupported_type f (PhysMask n) v) (has_broken_mask f (PhysMask n) v) passes in
    run_of (is_bit_set v 11) (is_run (f.width - 12) (page_field f.width v)) sound valid
