-- Bits of a value that lines show.
use Rattle.std.proofs.Common.{◌≡◌, ◌∙◌, ◌^◌, ◌<◌, ℕ, sym, ap, arith, lit<, bit_and, bit_or, mod-eq_of_lt}
use Rattle.std.specs.Prelude.{max, min}
use Rattle.std.specs.Int.{bit_at}
use Rattle.std.proofs.lemmas.Bool.Decides.{nat_tests}
use Rattle.std.proofs.lemmas.Nat.Bits.{bit_at-lt, bit_at_and, bit_at_ones, bit_at_or, same_from_bits, same_from_bits_below}
use Rattle.std.proofs.lemmas.Nat.{and_assoc}
use lib.Bits.{and_comm, and_mask, or_add_and}
use Rattle.mt_import.specs.Slot.{all_bits}

distribute : (x y z : ℕ) → x < 2 → y < 2 → z < 2 → max (min x y) (min x z) ≡ min x (max y z)
distribute x y z one two three = grind (arith, nat_tests, one, two, three)

-- parts of one value are a part of it together
pub parts_join : (value a b : ℕ) → bit_or (bit_and value a) (bit_and value b) ≡ bit_and value (bit_or a b)
parts_join value a b = same_from_bits (bit_or (bit_and value a) (bit_and value b)) (bit_and value (bit_or a b)) by
  where
    by : (i : ℕ) → bit_at (bit_or (bit_and value a) (bit_and value b)) i ≡ bit_at (bit_and value (bit_or a b)) i
    by i =
        rw (bit_at_or (bit_and value a) (bit_and value b) i, bit_at_and value a i, bit_at_and value b i, bit_at_and value (bit_or a b) i, bit_at_or a b i)
        (distribute (bit_at value i) (bit_at a i) (bit_at b i) (bit_at-lt value i) (bit_at-lt a i) (bit_at-lt b i))

-- parts of one value agree where both show a bit
pub parts_agree : (value a b : ℕ) → bit_and (bit_and value a) b ≡ bit_and (bit_and value b) a
parts_agree value a b = and_assoc b value a ∙ ap (bit_and value) (and_comm a b) ∙ sym (and_assoc a value b)

absorb : (x y z : ℕ) → x < 2 → y < 2 → z < 2 → min x y ≡ y → min (max x z) y ≡ y
absorb x y z one two three same = grind (arith, nat_tests, one, two, three, same)

absorb_both : (x y z : ℕ) → x < 2 → y < 2 → z < 2 → min x y ≡ y → min (max x z) (max y z) ≡ max y z
absorb_both x y z one two three same = grind (arith, nat_tests, one, two, three, same)

absorb_new : (x z : ℕ) → x < 2 → z < 2 → min (max x z) z ≡ z
absorb_new x z one two = grind (arith, nat_tests, one, two)

module _ (bits fresh new : ℕ) where
  bit_of : bit_and bits fresh ≡ fresh → (i : ℕ) → min (bit_at bits i) (bit_at fresh i) ≡ bit_at fresh i
  bit_of covers i = sym (bit_at_and bits fresh i) ∙ ap (λ x. bit_at x i) covers

  -- what is covered stays so behind more bits
  pub covers_old : bit_and bits fresh ≡ fresh → bit_and (bit_or bits new) fresh ≡ fresh
  covers_old covers = same_from_bits (bit_and (bit_or bits new) fresh) fresh (λ i.
      bit_at_and (bit_or bits new) fresh i ∙ rw (bit_at_or bits new i) (absorb (bit_at bits i) (bit_at fresh i) (bit_at new i) (bit_at-lt bits i) (bit_at-lt fresh i) (bit_at-lt new i) (bit_of covers i)))

  pub covers_both : bit_and bits fresh ≡ fresh → bit_and (bit_or bits new) (bit_or fresh new) ≡ bit_or fresh new
  covers_both covers = same_from_bits (bit_and (bit_or bits new) (bit_or fresh new)) (bit_or fresh new) (λ i.
      bit_at_and (bit_or bits new) (bit_or fresh new) i
      ∙ rw (bit_at_or bits new i, bit_at_or fresh new i) (absorb_both (bit_at bits i) (bit_at fresh i) (bit_at new i) (bit_at-lt bits i) (bit_at-lt fresh i) (bit_at-lt new i) (bit_of covers i)))

pub covers_new : (bits new : ℕ) → bit_and (bit_or bits new) new ≡ new
covers_new bits new = same_from_bits (bit_and (bit_or bits new) new) new (λ i.
    bit_at_and (bit_or bits new) new i ∙ rw (bit_at_or bits new i) (absorb_new (bit_at bits i) (bit_at new i) (bit_at-lt bits i) (bit_at-lt new i)))

-- ---- all 64 bits

pub whole_part : (value : ℕ) → value < 2 ^ 64 → bit_and value all_bits ≡ value
whole_part value fits = and_mask value 64 ∙ mod-eq_of_lt fits

pub all_or : (bits : ℕ) → bits < 2 ^ 64 → bit_or bits all_bits ≡ all_bits
all_or bits fits =
    let sum = or_add_and bits all_bits in
    let part = whole_part bits fits in
    omega (arith, sum, part)

-- a part that covers all bits is the value
pub whole_of_part : (value bits : ℕ) → value < 2 ^ 64 → bit_and bits all_bits ≡ all_bits → bit_and value bits ≡ value
whole_of_part value bits fits covers =
    ap (λ v. bit_and v bits) (sym (whole_part value fits)) ∙ and_assoc bits value all_bits ∙ ap (bit_and value) (and_comm all_bits bits ∙ covers) ∙ whole_part value fits

-- 64 bits of which each is there
pub whole_by_bits : (bits : ℕ) → bits < 2 ^ 64 → ((i : ℕ) → i < 64 → bit_at bits i ≡ 1) → bits ≡ all_bits
whole_by_bits bits fits each = same_from_bits_below 64 bits all_bits fits (lit< tt) (λ i within. each i within ∙ sym (bit_at_ones 64 i within))
