use Rattle.std.proofs.Common.{◌≡◌, take}
use Rattle.mt_private.specs.Alone.{named_by_none}
use Rattle.mt_private.specs.Own.{own_memory}
use Rattle.mt_private.proofs.gather.keep_left.Given as goal

abbrev pub invariant-loop-k : goal.invariant-loop-k
invariant-loop-k l = record {
  left : l.ram ≡ own_memory (named_by_none (take l.k l.cpus)) l.initial.ram;
}
