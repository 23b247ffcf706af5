-- What the registers of a file pass where none of them is at fault by itself (own).
use Rattle.std.specs.Prelude.{◌≡◌, ℕ, ◌-◌, ◌/◌, ◌%◌, ◌^◌, ◌==◌, Bool, false, not, ◌&&◌, ◌||◌}
use Rattle.mt_kinds.specs.Bits.{bits, is_bit_set}
use Rattle.mt_ranges.specs.Match.{is_run, page_field}
use Rattle.mt_regs.specs.RegisterFile.{RegisterFile, has_write_combining, low_byte}
use Rattle.mt_regs.specs.Faults.{any_byte, is_supported}

-- the values of a pair
pub record IsPairValue (f : RegisterFile) (pair : ℕ × ℕ) : Type 0 where
  pub base_bits : (not (bits pair.0 8 4 == 0) || not (pair.0 / 2 ^ f.width == 0)) ≡ false
  pub base_type : not (is_supported (has_write_combining f) (low_byte pair.0)) ≡ false
  pub mask_bits : (not (pair.1 % 2 ^ 11 == 0) || not (pair.1 / 2 ^ f.width == 0)) ≡ false
  pub mask_run : (is_bit_set pair.1 11 && not (is_run (f.width - 12) (page_field f.width pair.1))) ≡ false

-- the value of a fixed-range register
abbrev pub has_types : Bool → ℕ → Bool
has_types combining value = not (any_byte (λ byte. not (is_supported combining byte)) value 8)
