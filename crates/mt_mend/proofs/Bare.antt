-- A file with zeros in its pairs is accepted.
use Rattle.std.proofs.Common.{◌≡◌, ◌≢◌, ◌∙◌, ℕ, zero, suc, Bool, true, false, List, [], ◌∷◌, Option, Some, None, refl, sym, ap, subst, replicate}
use Rattle.std.specs.Prelude.{◌&&◌, nat_lt, not, if◌then◌else◌}
use Rattle.std.specs.Option.{option_or}
use Rattle.mt_kinds.specs.declared.mem_type.MemType.{MemType}
use Rattle.mt_kinds.specs.declared.mem_type.MemType.TheVariants.{UC}
use Rattle.mt_regs.specs.declared.fault.Reason.{Reason}
use Rattle.mt_regs.specs.declared.page_type.PageType.TheVariants.{Kind, Undefined}
use Rattle.mt_regs.specs.declared.registers.Register.{Register}
use Rattle.mt_regs.specs.declared.registers.Register.TheVariants.{PhysBase, PhysMask, FixedRange, Pat, DefaultType}
use Rattle.mt_regs.specs.RegisterFile.{RegisterFile, is_enabled, is_fixed_enabled, low_byte, pair_at, pair_count}
use Rattle.mt_regs.specs.Registers.{writable}
use Rattle.mt_regs.specs.PageTypes.{fixed_type, listed_type, page_type_among, types_at}
use Rattle.mt_regs.specs.Faults.{IsAccepted, fault_at, first_of, reason_of, register_fault}
use Rattle.mt_tidy.specs.Sound.{IsPairValue}
use Rattle.mt_tidy.proofs.Fitted.{accepted_of, base_sound, mask_sound, zeros_no_fault}
use Rattle.mt_mend.specs.Mended.{bare_file}

zeros_at : (count n : ℕ) → pair_at (replicate count (0, 0)) n ≡ (0, 0)
zeros_at zero n = refl
zeros_at (suc count) zero = refl
zeros_at (suc count) (suc n) = zeros_at count n

-- the file's own tests are the other file's, if the register has one value in both
module _ (f : RegisterFile) where
  zero_value : (n : ℕ) → IsPairValue (bare_file f) (pair_at (bare_file f).pairs n)
  zero_value n = subst (IsPairValue (bare_file f)) (sym (zeros_at (pair_count f) n)) (zeros_no_fault (bare_file f))

  keeps : (r : Register) → reason_of f r ≡ None → reason_of (bare_file f) r ≡ None
  keeps (PhysBase n) good = base_sound (bare_file f) n (zero_value n)
  keeps (PhysMask n) good = mask_sound (bare_file f) n (zero_value n)
  keeps (FixedRange place) good = good
  keeps Pat good = good
  keeps DefaultType good = good

  none_first : (rs : List Register) → first_of f rs ≡ None → first_of (bare_file f) rs ≡ None
  none_first [] none = refl
  none_first (r ∷ rs) none = by (reason_of f r) refl (none_first rs)
    where
      by : (why : Option Reason) → reason_of f r ≡ why → (first_of f rs ≡ None → first_of (bare_file f) rs ≡ None) → first_of (bare_file f) (r ∷ rs) ≡ None
      by None is go =
          let rest : first_of f rs ≡ None = sym (ap (λ (w : Option Reason). option_or (fault_at r w) (first_of f rs)) is) ∙ none in
          ap (λ (w : Option Reason). option_or (fault_at r w) (first_of (bare_file f) rs)) (keeps r is) ∙ go rest
      by (Some why) is go = absurd (cc (sym (ap (λ (w : Option Reason). option_or (fault_at r w) (first_of f rs)) is) ∙ none))

  pub bare_checked : register_fault f ≡ None → register_fault (bare_file f) ≡ None
  bare_checked none = none_first (writable f) none

-- zeros match no page
none_match : (width count page : ℕ) → types_at width (replicate count (0, 0)) page ≡ []
none_match width zero page = refl
none_match width (suc count) page = none_match width count page

by_default : (enabled fixed : Bool) (byte default : MemType) → (if not enabled then Kind UC else if fixed then Kind byte else Kind default) ≢ Undefined
by_default true true byte default = λ h. cc
by_default true false byte default = λ h. cc
by_default false fixed byte default = λ h. cc

pub bare_accepted : (f : RegisterFile) → register_fault f ≡ None → IsAccepted (bare_file f)
bare_accepted f checked = accepted_of (bare_file f) (bare_checked f checked) (λ page below undefined.
    by_default (is_enabled f) (is_fixed_enabled f && nat_lt page 0x100) (fixed_type f page) (listed_type (low_byte f.default_type))
    (ap (λ ts. page_type_among f ts page) (sym (none_match f.width (pair_count f) page)) ∙ undefined))
