-- A bit of a slot behind a reading that doesn't clash.
use Rattle.std.proofs.Common.{◌≡◌, ◌<◌, ℕ, Bool, true, false, ◌==◌, not, refl, sym, ◌∙◌, ap, arith, bit_and, bit_or, inl, inr}
use Rattle.std.specs.Prelude.{◌⊎◌, max, min}
use Rattle.std.specs.Int.{bit_at}
use Rattle.std.proofs.lemmas.Bool.{eqb-true}
use Rattle.std.proofs.lemmas.Bool.Decides.{nat_tests}
use Rattle.std.proofs.lemmas.Nat.Bits.{bit_at-lt, bit_at_and, bit_at_or}
use Rattle.mt_import.specs.declared.shape.Reading.{Reading}
use Rattle.mt_import.specs.declared.shape.Slot.{Slot}
use Rattle.mt_import.specs.Slot.{clashes}

pub same_number : (a b : ℕ) → a ≡ b → (a == b) ≡ true
same_number a b e = grind (arith, nat_tests, e)

pub not_false : (test : Bool) → not test ≡ false → test ≡ true
not_false true is = refl
not_false false is = cc is

-- the bits of two values, of which each is shown where the other is
keeps_first : (sv rb rv sb : ℕ) → sv < 2 → rv < 2 → min sv rb ≡ min rv sb → sb ≡ 1 → max sv rv ≡ sv
keeps_first sv rb rv sb small small_too same one = grind (arith, nat_tests, small, small_too, same, one)

keeps_second : (sv rb rv sb : ℕ) → sv < 2 → rv < 2 → min sv rb ≡ min rv sb → rb ≡ 1 → max sv rv ≡ rv
keeps_second sv rb rv sb small small_too same one = grind (arith, nat_tests, small, small_too, same, one)

module _ (slot : Slot) (reading : Reading) (i : ℕ) where
  same_bits : clashes slot reading ≡ false → min (bit_at slot.value i) (bit_at reading.bits i) ≡ min (bit_at reading.value i) (bit_at slot.bits i)
  same_bits fits =
      let e : bit_and slot.value reading.bits ≡ bit_and reading.value slot.bits =
      eqb-true (bit_and slot.value reading.bits) (bit_and reading.value slot.bits) (not_false (bit_and slot.value reading.bits == bit_and reading.value slot.bits) fits) in
      sym (bit_at_and slot.value reading.bits i) ∙ ap (λ x. bit_at x i) e ∙ bit_at_and reading.value slot.bits i

  pub value_kept : clashes slot reading ≡ false → bit_at slot.bits i ≡ 1 → bit_at (bit_or slot.value reading.value) i ≡ bit_at slot.value i
  value_kept fits one =
      bit_at_or slot.value reading.value i
      ∙ keeps_first (bit_at slot.value i) (bit_at reading.bits i) (bit_at reading.value i) (bit_at slot.bits i) (bit_at-lt slot.value i) (bit_at-lt reading.value i) (same_bits fits) one

  pub value_new : clashes slot reading ≡ false → bit_at reading.bits i ≡ 1 → bit_at (bit_or slot.value reading.value) i ≡ bit_at reading.value i
  value_new fits one =
      bit_at_or slot.value reading.value i
      ∙ keeps_second (bit_at slot.value i) (bit_at reading.bits i) (bit_at reading.value i) (bit_at slot.bits i) (bit_at-lt slot.value i) (bit_at-lt reading.value i) (same_bits fits) one

-- a bit of one or the other
max_one : (a b : ℕ) → a < 2 → b < 2 → max a b ≡ 1 → (b ≡ 1) ⊎ (a ≡ 1)
max_one a b small small_too is = by (b == 1) refl
  where
    by : (test : Bool) → (b == 1) ≡ test → (b ≡ 1) ⊎ (a ≡ 1)
    by true same = inl (eqb-true b 1 same)
    by false other = inr (grind (arith, nat_tests, small, small_too, is, other))

pub bit_of_either : (a b i : ℕ) → bit_at (bit_or a b) i ≡ 1 → (bit_at b i ≡ 1) ⊎ (bit_at a i ≡ 1)
bit_of_either a b i is = max_one (bit_at a i) (bit_at b i) (bit_at-lt a i) (bit_at-lt b i) (sym (bit_at_or a b i) ∙ is)

one_first : (a b : ℕ) → a < 2 → b < 2 → a ≡ 1 → max a b ≡ 1
one_first a b small small_too one = grind (arith, nat_tests, small, small_too, one)

one_second : (a b : ℕ) → a < 2 → b < 2 → b ≡ 1 → max a b ≡ 1
one_second a b small small_too one = grind (arith, nat_tests, small, small_too, one)

pub bit_first : (a b i : ℕ) → bit_at a i ≡ 1 → bit_at (bit_or a b) i ≡ 1
bit_first a b i one = bit_at_or a b i ∙ one_first (bit_at a i) (bit_at b i) (bit_at-lt a i) (bit_at-lt b i) one

pub bit_second : (a b i : ℕ) → bit_at b i ≡ 1 → bit_at (bit_or a b) i ≡ 1
bit_second a b i one = bit_at_or a b i ∙ one_second (bit_at a i) (bit_at b i) (bit_at-lt a i) (bit_at-lt b i) one
