-- Bytes of a value, each after the other.
use Rattle.std.proofs.Common.{◌+◌, ◌*◌, ◌^◌, ◌≤◌, ◌<◌, Fits, w64, ℕ, zero, suc, arith}

-- seven bytes at most
below : (n value : ℕ) → n ≤ 7 → value < 256 ^ n → value < 72057594037927936
below zero value few less = omega (arith, less)
below (suc zero) value few less = omega (arith, less)
below (suc (suc zero)) value few less = omega (arith, less)
below (suc (suc (suc zero))) value few less = omega (arith, less)
below (suc (suc (suc (suc zero)))) value few less = omega (arith, less)
below (suc (suc (suc (suc (suc zero))))) value few less = omega (arith, less)
below (suc (suc (suc (suc (suc (suc zero)))))) value few less = omega (arith, less)
below (suc (suc (suc (suc (suc (suc (suc zero))))))) value few less = omega (arith, less)
below (suc (suc (suc (suc (suc (suc (suc (suc n)))))))) value few less = absurd (omega (arith, few))

pub product_fits : (n value : ℕ) → n ≤ 7 → value < 256 ^ n → Fits w64 (256 * value)
product_fits n value few less = omega (arith, below n value few less)

pub sum_fits : (n low value : ℕ) → low < 256 → n ≤ 7 → value < 256 ^ n → Fits w64 (low + 256 * value)
sum_fits n low value small few less = omega (arith, small, below n value few less)
