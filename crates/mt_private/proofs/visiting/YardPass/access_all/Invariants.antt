use Rattle.std.proofs.Common.{◌≡◌, ◌≤◌, ◌++◌, drop, length}
use Rattle.std.specs.Prelude.{vec_capacity}
use Rattle.mt_private.specs.InYard.{HasNotTaken, IsReleased, done_of}
use Rattle.mt_private.specs.OneByOne.{ran}
use Rattle.mt_private.proofs.visiting.YardPass.access_all.Given as goal

abbrev pub invariant-loop-i : goal.invariant-loop-i
invariant-loop-i l = record {
  not_taken : HasNotTaken l.yard l.fn.self l.fn.core → HasNotTaken l.yard l.self l.core;
  released : IsReleased l.yard l.fn.self l.fn.core → IsReleased l.yard l.self l.core;
  done : done_of l.self ++ drop l.i l.ops ≡ done_of l.fn.self ++ l.ops;
  number : l.self.number ≡ l.fn.self.number;
  after : (ran 0 (drop l.i l.ops) l.core.system).after ≡ (ran 0 l.ops l.fn.core.system).after;
  order : l.core.order ≡ l.fn.core.order;
  answers : l.told.items ++ (ran 0 (drop l.i l.ops) l.core.system).answers ≡ (ran 0 l.ops l.fn.core.system).answers;
  count : length l.told.items ≡ l.i;
  room : length l.ops ≤ vec_capacity l.told;
}
