-- The blank file of a register file's width and capabilities is one, and it is accepted.
use Rattle.std.proofs.Common.{◌≡◌, ◌∙◌, ap, sym, refl, subst, ℕ, zero, suc, ◌/◌, ◌^◌, Bool, true, false, List, [], ◌∷◌, replicate, Option, None, Some}
use Rattle.std.specs.Prelude.{◌==◌, not, if◌then◌else◌, slice_index, MatchOption}
use Rattle.std.specs.Option.{option_or}
use Rattle.std.proofs.Math.Nat.{zero-div}
use Rattle.std.proofs.lemmas.List.{length-replicate}
use Rattle.mt_regs.specs.declared.fault.Fault.{Fault}
use Rattle.mt_regs.specs.declared.fault.Reason.{Reason}
use Rattle.mt_regs.specs.declared.fault.Reason.TheVariants.{ReservedBit, UnsupportedType, BrokenMask}
use Rattle.mt_regs.specs.declared.registers.Register.{Register}
use Rattle.mt_regs.specs.declared.registers.Register.TheVariants.{PhysBase, PhysMask, FixedRange, Pat, DefaultType}
use Rattle.mt_regs.specs.RegisterFile.{RegisterFile, IsRegisterFile, blank_file, low_byte, pair_at}
use Rattle.mt_regs.specs.Registers.{writable}
use Rattle.mt_regs.specs.Faults.{IsAccepted, IsOverlap, fault_at, first_of, has_broken_mask, has_reserved_bit, has_unsupported_type, reason_of, register_fault}

zero_pair : (count n : ℕ) → pair_at (replicate count (0, 0)) n ≡ (0, 0)
zero_pair zero n = refl
zero_pair (suc count) zero = refl
zero_pair (suc count) (suc n) = zero_pair count n

zero_word : (count n : ℕ) → slice_index (replicate count 0) n ≡ 0
zero_word zero n = refl
zero_word (suc count) zero = refl
zero_word (suc count) (suc n) = zero_word count n

-- the reason for a value of a register
abbrev reason_for : RegisterFile → Register → ℕ → Option Reason
reason_for f r v =
    if has_reserved_bit f r v then Some ReservedBit
    else if has_unsupported_type f r v then Some UnsupportedType
    else if has_broken_mask f r v then Some BrokenMask
    else None

no_high_bit : (width : ℕ) → not (0 / 2 ^ width == 0) ≡ false
no_high_bit width = ap (λ (n : ℕ). not (n == 0)) (zero-div (2 ^ width))

if_not : (b : Bool) (why : Reason) → b ≡ false → (if b then Some why else None) ≡ None
if_not true why h = absurd (cc)
if_not false why h = refl

no_reason : (width capabilities : ℕ) (r : Register) → reason_of (blank_file width capabilities) r ≡ None
no_reason width capabilities (PhysBase n) =
    ap (λ (p : ℕ × ℕ). reason_for (blank_file width capabilities) (PhysBase n) p.0) (zero_pair (low_byte capabilities) n)
    ∙ if_not (not (0 / 2 ^ width == 0)) ReservedBit (no_high_bit width)
no_reason width capabilities (PhysMask n) =
    ap (λ (p : ℕ × ℕ). reason_for (blank_file width capabilities) (PhysMask n) p.1) (zero_pair (low_byte capabilities) n)
    ∙ if_not (not (0 / 2 ^ width == 0)) ReservedBit (no_high_bit width)
no_reason width capabilities (FixedRange place) = ap (reason_for (blank_file width capabilities) (FixedRange place)) (zero_word 11 place)
no_reason width capabilities Pat = refl
no_reason width capabilities DefaultType = refl

none_first : (f : RegisterFile) → ((r : Register) → reason_of f r ≡ None) → (rs : List Register) → first_of f rs ≡ None
none_first f none [] = refl
none_first f none (r ∷ rs) = ap (λ why. option_or (fault_at r why) (first_of f rs)) (none r) ∙ none_first f none rs

pub blank_is_accepted : (width capabilities : ℕ) → IsAccepted (blank_file width capabilities)
blank_is_accepted width capabilities =
    let f : RegisterFile = blank_file width capabilities in
    let none : register_fault f ≡ None = none_first f (no_reason width capabilities) (writable f) in
    subst (λ (o : Option Fault). MatchOption o (IsOverlap f None) (λ fault. None ≡ Some fault)) (sym none) (λ page within undefined. absurd (cc))

pub blank_is_file : (f : RegisterFile) → IsRegisterFile f → IsRegisterFile (blank_file f.width f.capabilities)
blank_is_file f h = record {
  wide = h.wide;
  narrow = h.narrow;
  few_pairs = h.few_pairs;
  all_pairs = length-replicate (low_byte f.capabilities) (0, 0);
  all_fixed = refl;
  no_fixed = λ _. refl;
}
