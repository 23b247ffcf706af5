use Rattle.std.proofs.Common.{◌≡◌, ℕ, ◌<◌, ◌^◌, ◌+◌, length, slice_index}
use Rattle.mt_explain.specs.Fit.{IsNeeded}
use Rattle.mt_explain.proofs.fit.least_by_chunk.Given as goal

abbrev pub invariant-loop-n : goal.invariant-loop-n
invariant-loop-n l = record {
  room : length l.least ≡ 41;
  found : (k : ℕ) → k < l.n → IsNeeded l.f (2 ^ (12 + k)) (slice_index l.least k);
}
