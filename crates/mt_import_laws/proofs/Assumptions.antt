-- Each value that an assumption gives is a named one.
use Rattle.std.proofs.Common.{◌≡◌, ℕ, ◌+◌, ◌-◌, ◌*◌, ◌^◌, ◌==◌, ◌&&◌, ◌||◌, nat_lt, Bool, true, false, Option, Some, None, refl, sym, ◌∙◌, inl, inr}
use Rattle.std.specs.Prelude.{◌⊎◌, if◌then◌else◌, unwrap_or}
use Rattle.std.proofs.lemmas.Bool.{eqb-true}
use Rattle.mt_regs.specs.Registers.{fixed_numbers}
use Rattle.mt_import.specs.declared.format.Format.{Format}
use Rattle.mt_import.specs.declared.format.Format.TheVariants.{Rdmsr, X86info, Inteltool, Coreboot, Edk2, Linux, Xen, Chipsec, Windbg, Plain}
use Rattle.mt_import.specs.declared.shape.Known.{Known}
use Rattle.mt_import.specs.declared.shape.Slot.{Slot}
use Rattle.mt_import.specs.declared.supplied.Assumed.{Assumed}
use Rattle.mt_import.specs.Supplied.{Supplied}
use Rattle.mt_import.specs.Values.{assumed_capabilities, assumed_default, assumed_fixed, assumed_mask, assumed_of, assumed_pair, assumed_pat, assumed_value, assumed_zero, firmware_value, has_pairs, is_fixed_number, is_pair_number, is_unshown, lacks_fix, likely_flags, likely_type, linux_pat, only_if, or_supplied, pair_count, power_up_pat, shows_fix_clear, shows_one_of, shows_part, size_in, uncached_pairs, xen_pat}
use Rattle.mt_import.specs.Outcome.{Seen, findings_of, known_by, slot_shown}
use Rattle.mt_import_laws.specs.Assumptions.{IsNamedValue, of_capabilities, of_default, of_fixed, of_no_pair, of_pat, of_size}
use Rattle.mt_import_laws.specs.Origins.{IsAssumed}

-- what is given only if it is allowed, or only if a test holds
allowed : (test : Bool) (one : Option ℕ) (value : ℕ) → only_if test one ≡ Some value → one ≡ Some value
allowed true one value is = is
allowed false one value is = cc is

tested : (test : Bool) (one value : ℕ) → (if test then Some one else None) ≡ Some value → value ≡ one
tested true one value is = let e : one ≡ value = cc is in sym e
tested false one value is = cc is

untested : (test : Bool) (one value : ℕ) → (if test then None else Some one) ≡ Some value → value ≡ one
untested true one value is = cc is
untested false one value is = let e : one ≡ value = cc is in sym e

pat_of : (format : Option Format) → ((assumed_pat format ≡ power_up_pat) ⊎ (assumed_pat format ≡ xen_pat)) ⊎ (assumed_pat format ≡ linux_pat)
pat_of None = inl (inl refl)
pat_of (Some Rdmsr) = inl (inl refl)
pat_of (Some X86info) = inl (inl refl)
pat_of (Some Inteltool) = inl (inl refl)
pat_of (Some Coreboot) = inl (inl refl)
pat_of (Some Edk2) = inl (inl refl)
pat_of (Some Linux) = inr refl
pat_of (Some Xen) = inl (inr refl)
pat_of (Some Chipsec) = inl (inl refl)
pat_of (Some Windbg) = inl (inl refl)
pat_of (Some Plain) = inl (inl refl)

module _ (slots : ℕ → Slot) (number value : ℕ) where
  by_pat : (format : Option Format) → number ≡ 0x277 → value ≡ assumed_pat format → IsNamedValue slots number value
  by_pat format at is = elim (pat_of format) [
    | inl earlier ↦ elim earlier [
      | inl power ↦ of_pat at (inl (inl (is ∙ power)))
      | inr xen ↦ of_pat at (inl (inr (is ∙ xen)))
    ]
    | inr linux ↦ of_pat at (inr (is ∙ linux))
  ]

  by_mask : (width : Option ℕ) → is_pair_number number ≡ true → assumed_mask (slots number) width ≡ Some value → IsNamedValue slots number value
  by_mask None pair is = cc is
  by_mask (Some width) pair is =
      of_size width pair (tested (nat_lt 0xfff (size_in (slots number)) && nat_lt (size_in (slots number)) (2 ^ width) && (slots number).bits == 2 * size_in (slots number) - 1)
      (2 ^ width - size_in (slots number) + 0x800) value is)

  by_pair : (assumed : Assumed) (width : Option ℕ) → is_pair_number number ≡ true → assumed_pair assumed slots width number ≡ Some value → IsNamedValue slots number value
  by_pair assumed width pair is = by (only_if assumed.masks (assumed_mask (slots number) width)) refl is
    where
      by : (mask : Option ℕ) → only_if assumed.masks (assumed_mask (slots number) width) ≡ mask → or_supplied mask (only_if assumed.pairs (assumed_zero slots number)) ≡ Some value → IsNamedValue slots number value
      by (Some other) of_mask some = by_mask width pair (allowed assumed.masks (assumed_mask (slots number) width) value (of_mask ∙ some))
      by None of_mask some = of_no_pair pair (tested (is_unshown slots number && has_pairs slots) 0 value (allowed assumed.pairs (assumed_zero slots number) value some))

  by_fixed : is_fixed_number number ≡ true → value ≡ firmware_value number → IsNamedValue slots number value
  by_fixed fixed is = by (number == 0x259) (nat_lt number 0x260) is
    where
      by : (hole low : Bool) → value ≡ (if hole then 0 else if low then 0x0606060606060606 else 0x0505050505050505) → IsNamedValue slots number value
      by true low of_hole = of_fixed fixed (inl (inr of_hole))
      by false true of_low = of_fixed fixed (inl (inl of_low))
      by false false of_high = of_fixed fixed (inr of_high)

  by_default : (given : Option ℕ) → number ≡ 0x2ff → value ≡ likely_flags (slots 0xfe) given + likely_type slots → IsNamedValue slots number value
  by_default given at is = by (shows_fix_clear (slots 0xfe) || lacks_fix given) (unwrap_or (uncached_pairs slots 32) false) is
    where
      by : (lacks uncached : Bool) → value ≡ (if lacks then 0x800 else 0xc00) + (if uncached then 6 else 0) → IsNamedValue slots number value
      by true true sum = of_default at (inr (inl sum))
      by true false sum = of_default at (inl (inl sum))
      by false true sum = of_default at (inr (inr sum))
      by false false sum = of_default at (inl (inr sum))

  by_value : (assumed : Assumed) (known : Known) → assumed_value assumed slots known number ≡ Some value → IsNamedValue slots number value
  by_value assumed known is = by (number == 0x277) refl (number == 0xfe) refl (is_pair_number number) refl (is_fixed_number number) refl (number == 0x2ff) refl is
    where
      by : (pat : Bool) → (number == 0x277) ≡ pat → (capabilities : Bool) → (number == 0xfe) ≡ capabilities → (pair : Bool) → is_pair_number number ≡ pair
          → (fixed : Bool) → is_fixed_number number ≡ fixed → (default : Bool) → (number == 0x2ff) ≡ default
          → (if pat then only_if assumed.pat (Some (assumed_pat known.format)) else if capabilities then only_if assumed.capabilities (assumed_capabilities slots)
          else if pair then assumed_pair assumed slots known.width number else if fixed then only_if assumed.fixed (assumed_fixed slots number)
          else if default then only_if assumed.fixed (assumed_default slots known.given) else None) ≡ Some value → IsNamedValue slots number value
      by true is_pat capabilities is_capabilities pair is_pair fixed is_fixed default is_default some =
          let e : Some (assumed_pat known.format) ≡ Some value = allowed assumed.pat (Some (assumed_pat known.format)) value some in
          let same : assumed_pat known.format ≡ value = cc e in
          by_pat known.format (eqb-true number 0x277 is_pat) (sym same)
      by false is_pat true is_capabilities pair is_pair fixed is_fixed default is_default some =
          of_capabilities (eqb-true number 0xfe is_capabilities) (tested (shows_part (slots 0xfe)) (pair_count slots + 0x500) value (allowed assumed.capabilities (assumed_capabilities slots) value some))
      by false is_pat false is_capabilities true is_pair fixed is_fixed default is_default some = by_pair assumed known.width is_pair some
      by false is_pat false is_capabilities false is_pair true is_fixed default is_default some =
          by_fixed is_fixed (untested (shows_one_of slots fixed_numbers) (firmware_value number) value (allowed assumed.fixed (assumed_fixed slots number) value some))
      by false is_pat false is_capabilities false is_pair false is_fixed true is_default some =
          by_default known.given (eqb-true number 0x2ff is_default)
          (tested ((slots 0x2ff).bits == 0) (likely_flags (slots 0xfe) known.given + likely_type slots) value (allowed assumed.fixed (assumed_default slots known.given) value some))
      by false is_pat false is_capabilities false is_pair false is_fixed false is_default some = cc some

pub named_value : (supplied : Supplied) (seen : Seen) (processor number value : ℕ) → IsAssumed supplied seen processor number value → IsNamedValue (slot_shown seen.readings processor) number value
named_value supplied seen processor number value is =
    by_value (slot_shown seen.readings processor) number value (assumed_of processor supplied.assumed) (known_by supplied (findings_of seen)) is
