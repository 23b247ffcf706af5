-- The dirty bits of a line, set and cleared.
use Rattle.std.proofs.Common.{◌≡◌, ◌≢◌, ℕ, ◌-◌, ◌^◌, ◌<◌, ◌==◌, true, false, ap, ◌∙◌, arith, w8}
use Rattle.std.specs.Prelude.{min, max}
use Rattle.std.specs.Int.{bit_at}
use Rattle.std.proofs.lemmas.Nat.{or_lt, and_le_l, pow_below}
use Rattle.std.proofs.lemmas.Nat.Bits.{bit_at_or, bit_at_and, bit_at_not, bit_at-zero, bit_at-pow_same, bit_at-pow_other, bit_at-lt}
use Rattle.mt_kinds.specs.Bits.{is_bit_set}
use Rattle.mt_cache.specs.Lines.{set_bit, clear_bit}

pub no_bit : (i : ℕ) → is_bit_set 0 i ≡ false
no_bit i = ap (λ b. b == 1) (bit_at-zero i)

max_one : (b : ℕ) → b < 2 → max b 1 ≡ 1
max_one b h = omega arith

pub set_same : (x i : ℕ) → is_bit_set (set_bit x i) i ≡ true
set_same x i = ap (λ b. b == 1) (bit_at_or x (2 ^ i) i ∙ ap (max (bit_at x i)) (bit_at-pow_same i) ∙ max_one (bit_at x i) (bit_at-lt x i))

pub set_other : (x i j : ℕ) → j ≢ i → is_bit_set (set_bit x i) j ≡ is_bit_set x j
set_other x i j other =
    let low : max (bit_at x j) 0 ≡ bit_at x j = omega arith in
    ap (λ b. b == 1) (bit_at_or x (2 ^ i) j ∙ ap (max (bit_at x j)) (bit_at-pow_other i j other) ∙ low)

min_zero : (b : ℕ) → min b 0 ≡ 0
min_zero b = omega arith

pub clear_same : (x i : ℕ) → i < 8 → is_bit_set (clear_bit x i) i ≡ false
clear_same x i small =
    ap (λ b. b == 1)
    (bit_at_and x (255 - 2 ^ i) i
    ∙ ap (min (bit_at x i)) (bit_at_not w8 (2 ^ i) i (pow_below i 8 small) small ∙ ap (λ b. 1 - b) (bit_at-pow_same i))
    ∙ min_zero (bit_at x i))

min_one : (b : ℕ) → b < 2 → min b 1 ≡ b
min_one b h = omega arith

pub clear_other : (x i j : ℕ) → i < 8 → j < 8 → j ≢ i → is_bit_set (clear_bit x i) j ≡ is_bit_set x j
clear_other x i j small within other =
    ap (λ b. b == 1)
    (bit_at_and x (255 - 2 ^ i) j
    ∙ ap (min (bit_at x j)) (bit_at_not w8 (2 ^ i) j (pow_below i 8 small) within ∙ ap (λ b. 1 - b) (bit_at-pow_other i j other))
    ∙ min_one (bit_at x j) (bit_at-lt x j))

pub set_below : (x i : ℕ) → x < 256 → i < 8 → set_bit x i < 256
set_below x i low small = or_lt 8 x (2 ^ i) low (pow_below i 8 small)

pub clear_below : (x i : ℕ) → x < 256 → clear_bit x i < 256
clear_below x i low = let h = and_le_l x (255 - 2 ^ i) in omega arith
