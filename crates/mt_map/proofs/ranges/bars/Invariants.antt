use Rattle.std.proofs.Common.{◌≡◌, ◌≤◌, ◌+◌, ◌++◌, None, drop, length}
use Rattle.arrayvec.specs.ArrayVec.{array_vec_len}
use Rattle.mt_regs.specs.Faults.{register_fault}
use Rattle.mt_map.specs.Shapes.{bars_of, pair_bars}
use Rattle.mt_map.proofs.ranges.bars.Given as goal

abbrev pub invariant-pairs : goal.invariant-pairs
invariant-pairs l = record {
  few : array_vec_len l.bars ≤ l.n + 1;
  bars : register_fault l.f ≡ None → l.bars.items ++ pair_bars l.f (length l.bars.items) l.n (drop l.n l.f.pairs) ≡ bars_of l.f;
}
