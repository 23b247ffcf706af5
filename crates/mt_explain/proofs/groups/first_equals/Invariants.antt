use Rattle.std.proofs.Common.{◌≡◌, ℕ, ◌<◌, length}
use Rattle.std.specs.Prelude.{slice_index}
use Rattle.mt_explain.specs.Groups.{IsFirstEqual}
use Rattle.mt_explain.proofs.groups.first_equals.Given as goal

abbrev pub invariant-loop-k : goal.invariant-loop-k
invariant-loop-k l = record {
  count : length l.firsts.items ≡ l.k;
  each : (j : ℕ) → j < l.k → IsFirstEqual l.files j (slice_index l.firsts.items j);
}
