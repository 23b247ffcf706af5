use Rattle.std.proofs.Common.{ℕ, ◌+◌, ◌*◌, ◌^◌, ◌<◌, ◌≤◌, arith}
use Rattle.std.proofs.Math.Nat.{pow-le-pow_right}
use Rattle.std.proofs.lemmas.Grind.{pow_more}
use Rattle.mt_text.proofs.number.hex_value.Goals as goal

-- one more of at most sixteen digits
room : (value i next : ℕ) → value < 16 ^ i → i < 16 → next < 16 → value * 16 + next < 2 ^ 64
room value i next small few digit =
    let fits : i + 1 ≤ 16 = omega arith in
    let most : 16 ^ (i + 1) ≤ 16 ^ 16 = pow-le-pow_right {n = 16} (omega arith) {i = i + 1} {j = 16} fits in
    omega (arith, most, pow_more 16 i)

pub overflow_mul-value : goal.overflow_mul-value
overflow_mul-value c = let fits = room c.digits.value c.digits.digit-index 0 c.digits.invariant.small (omega arith) (omega arith) in omega (arith, fits)

pub overflow_add-value : goal.overflow_add-value
overflow_add-value c = let fits = room c.digits.value c.digits.digit-index c.in-Some.next c.digits.invariant.small (omega arith) (c.in-Some.ensures.small) in omega (arith, fits)
