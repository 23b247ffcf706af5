-- A line that says more, and registers of which lines say no more.
use Rattle.std.proofs.Common.{◌≡◌, ℕ, true, false, refl, ap, subst, arith, lit<, codes}
use Rattle.mt_kinds.specs.Bits.{is_bit_set}
use Rattle.mt_regs.specs.RegisterFile.{pair_at}
use Rattle.mt_text.specs.declared.place.Place.{Place}
use Rattle.mt_import.specs.Slot.{all_bits}
use Rattle.mt_import.specs.declared.format.Format.TheVariants.{Inteltool, Linux}
use Rattle.mt_import.specs.declared.reading.LineSays.{LineSays}
use Rattle.mt_import.specs.declared.reading.LineSays.TheVariants.{Nothing, Announces, Value, Turns, Shows, Lists, Begins, FixedRanges, VariableRanges, Width, Warns, Bad}
use Rattle.mt_import.specs.Shown.{said_of}
use Rattle.mt_import_laws.specs.Printed.{IsSame, SaysNoMore, no_match, only_shows, only_turns, only_warns, only_width}
use Rattle.mt_import_laws.specs.WorkedPrinted.{ordinary_pc}

-- the width of what shows one
width_in : LineSays → ℕ
width_in (Width width place) = width
width_in Nothing = 0
width_in (Announces processor number) = 0
width_in (Value value place) = 0
width_in (Turns turn) = 0
width_in (Shows processor shows) = 0
width_in (Begins shows) = 0
width_in (FixedRanges enabled alone place) = 0
width_in (VariableRanges enabled place) = 0
width_in (Warns warning number) = 0
width_in (Lists processor shown) = 0
width_in (Bad why place) = 0

pub other_width : SaysNoMore Linux ordinary_pc (said_of Linux 1 (codes "Address sizes: 39 bits physical, 48 bits virtual")) → ⊥
unfolding width_in
other_width (no_match is) = let e : 39 ≡ 0 = ap width_in is in omega (arith, e)
other_width (only_width place is) = let e : 39 ≡ 36 = ap width_in is in omega (arith, e)
other_width (only_warns warning number is) = let e : 39 ≡ 0 = ap width_in is in omega (arith, e)
other_width (only_turns is) = let e : 39 ≡ 0 = ap width_in is in omega (arith, e)
other_width (only_shows processor shows is own others) = let e : 39 ≡ 0 = ap width_in is in omega (arith, e)

-- PhysBase0 as inteltool prints it
pub own_base : (place : Place) → IsSame Inteltool ordinary_pc (record { number = 0x200; bits = all_bits; value = 6; place = place })
own_base place = record { whole = 6; has = refl; small = lit< tt; part = refl; off = λ kernel n at hidden. cc kernel }

-- PhysBase0, and the size of the pair, in /proc/mtrr
pub own_pair_base : (place : Place) → IsSame Linux ordinary_pc (record { number = 0x200; bits = all_bits; value = 6; place = place })
own_pair_base place = record { whole = 6; has = refl; small = lit< tt; part = refl; off = λ kernel n at hidden. absurd (omega (arith, at)) }

pub own_pair_mask : (place : Place) → IsSame Linux ordinary_pc (record { number = 0x201; bits = 0x1ffffffff; value = 0x100000800; place = place })
own_pair_mask place = record { whole = 0xf00000800; has = refl; small = lit< tt; part = refl; off = λ kernel n at hidden. absurd (first n (omega (arith, at)) hidden) }
  where
    first : (n : ℕ) → n ≡ 0 → is_bit_set (pair_at ordinary_pc.pairs n).1 11 ≡ false → ⊥
    first n zero hidden = let e : true ≡ false = subst (λ k. is_bit_set (pair_at ordinary_pc.pairs k).1 11 ≡ false) zero hidden in cc e
