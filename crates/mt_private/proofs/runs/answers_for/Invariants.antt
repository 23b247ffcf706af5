use Rattle.std.proofs.Common.{◌≡◌, ◌≤◌, length, vec_capacity}
use Rattle.mt_private.specs.declared.job.Part.{Part}
use Rattle.mt_private.specs.Jobs.{AreOpen}
use Rattle.mt_private.proofs.runs.answers_for.Given as goal

abbrev pub invariant-loop-k : goal.invariant-loop-k
invariant-loop-k l = record {
  count : length l.told.items ≡ l.k;
  room : length l.jobs ≤ vec_capacity l.told;
  opens : (part : Part) → AreOpen part l.jobs l.told.items;
}
