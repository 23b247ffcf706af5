use Rattle.std.proofs.Common.{◌≡◌, ◌-◌, length}
use Rattle.std.specs.List.{fold, range_with_len}
use Rattle.mt_core.specs.Rounds.{each_steps}
use Rattle.mt_core.specs.Steps.{step_after}
use Rattle.mt_core.proofs.core_type.Core.turn.Given as goal

abbrev pub invariant-loop-k : goal.invariant-loop-k
invariant-loop-k l =
    (fold step_after l.self (range_with_len l.k (l.k-end - l.k)) ≡ each_steps l.fn.self) × (length l.self.system.processors ≡ l.k-end)
