use Rattle.std.proofs.Common.{◌≡◌, ◌-◌, length}
use Rattle.std.specs.List.{fold, range_with_len}
use Rattle.mt_core.specs.Rounds.{each_steps}
use Rattle.mt_core.specs.Steps.{step_after}
use Rattle.mt_rendezvous.proofs.broadcast.take_all.Given as goal

abbrev pub invariant-loop-k : goal.invariant-loop-k
invariant-loop-k l =
    (fold step_after l.core (range_with_len l.k (l.count - l.k)) ≡ each_steps l.fn.core) × (length l.core.system.processors ≡ l.count)
