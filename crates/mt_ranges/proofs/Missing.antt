-- Ones from the top of a number: what is missing above them is a power of two.
use Rattle.std.proofs.Common.{◌≡◌, ◌≢◌, ℕ, ◌+◌, ◌-◌, ◌*◌, ◌^◌, ◌<◌, ◌≤◌, ◌∙◌, ap, inl, inr, arith}
use Rattle.std.proofs.Math.Pow.{pow_mono}
use Rattle.std.proofs.lemmas.Bool.{cases_lt}
use Rattle.mt_ranges.proofs.Powers.{doubled, log_le}

pub ones_of_missing : (count part k : ℕ) → part < 2 ^ count → 2 ^ count - part ≡ 2 ^ k → (k ≤ count) × (part ≡ 2 ^ count - 2 ^ k)
ones_of_missing count part k fits is = (log_le k count (omega arith), omega arith)

pub no_ones : (count part k j : ℕ) → 2 ^ k ≤ 2 ^ count - part → 2 ^ count - part < 2 * 2 ^ k → 2 ^ count - part ≢ 2 ^ k
    → j ≤ count → part ≡ 2 ^ count - 2 ^ j → ⊥
no_ones count part k j low high apart order is =
    let fits : 2 ^ j ≤ 2 ^ count = pow_mono order in
    let missing : 2 ^ count - part ≡ 2 ^ j = omega arith in
    elim (cases_lt k j) [
      | inl above ↦ let step : 2 ^ (k + 1) ≤ 2 ^ j = pow_mono (omega arith) in omega (arith, doubled k)
      | inr below ↦
          let order_back : k ≤ j = log_le k j (omega arith) in
          let same : j ≡ k = omega arith in
          apart (missing ∙ ap (λ n. 2 ^ n) same)
    ]
