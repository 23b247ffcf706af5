use Rattle.std.proofs.Common.{◌≡◌, ◌++◌, ◌≤◌, drop, length, vec_capacity}
use Rattle.mt_private.specs.OneByOne.{ran}
use Rattle.mt_private.proofs.runs.do_ops.Given as goal

abbrev pub invariant-loop-i : goal.invariant-loop-i
invariant-loop-i l = record {
  after : (ran l.k (drop l.i l.ops) l.core.system).after ≡ (ran l.k l.ops l.fn.core.system).after;
  order : l.core.order ≡ l.fn.core.order;
  answers : l.told.items ++ (ran l.k (drop l.i l.ops) l.core.system).answers ≡ (ran l.k l.ops l.fn.core.system).answers;
  count : length l.core.system.processors ≡ length l.fn.core.system.processors;
  done : length l.told.items ≡ l.i;
  room : length l.ops ≤ vec_capacity l.told;
}
