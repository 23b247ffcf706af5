use Rattle.std.proofs.Common.{◌≡◌, ℕ, ◌++◌, ◌≤◌, drop, take, length, Some}
use Rattle.std.specs.Prelude.{map, slice_get}
use Rattle.mt_private.specs.declared.job.Job.{Job}
use Rattle.mt_private.specs.declared.job.JobAnswers.{JobAnswers}
use Rattle.mt_private.specs.Jobs.{AreOpen, IsOpen, answers_in, ops_in, other_part}
use Rattle.mt_private.specs.OneByOne.{ran_each}
use Rattle.mt_private.proofs.runs.do_parts.Given as goal

abbrev pub invariant-loop-k : goal.invariant-loop-k
invariant-loop-k l = record {
  after : (ran_each l.k (map (ops_in l.part) (drop l.k l.jobs)) l.core.system).after ≡ (ran_each 0 (map (ops_in l.part) l.jobs) l.fn.core.system).after;
  order : l.core.order ≡ l.fn.core.order;
  answers : map (answers_in l.part) (take l.k l.told) ++ (ran_each l.k (map (ops_in l.part) (drop l.k l.jobs)) l.core.system).answers ≡ (ran_each 0 (map (ops_in l.part) l.jobs) l.fn.core.system).answers;
  other : map (answers_in (other_part l.part)) l.told ≡ map (answers_in (other_part l.part)) l.fn.told;
  opens : (i : ℕ) (j : Job) (t : JobAnswers) → l.k ≤ i → slice_get l.jobs i ≡ Some j → slice_get l.told i ≡ Some t → IsOpen l.part j t;
  opens_too : AreOpen (other_part l.part) l.jobs l.fn.told → AreOpen (other_part l.part) l.jobs l.told;
  count : length l.core.system.processors ≡ length l.fn.core.system.processors;
}
