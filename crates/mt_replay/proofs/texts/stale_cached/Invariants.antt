use Rattle.std.proofs.Common.{◌≡◌, ◌≤◌, nat_lt, take}
use Rattle.std.specs.List.{count_by}
use Rattle.mt_replay.proofs.texts.stale_cached.Given as goal

abbrev pub invariant-lines : goal.invariant-lines
invariant-lines l = record {
  value : l.count ≡ count_by (λ k. nat_lt k.era l.era) (take l.i l.cache);
  few : l.count ≤ l.i;
}
