use Rattle.std.proofs.Common.{◌≡◌, ℕ, ◌<◌, ◌≤◌, get_or, length, map, vec_capacity}
use Rattle.std.specs.List.{range_with_len}
use Rattle.mt_private.specs.declared.job.Job.{Job}
use Rattle.mt_private.specs.declared.job.Part.TheVariants.{After, Before}
use Rattle.mt_private.specs.Jobs.{FitsJob, ops_in}
use Rattle.mt_cli.specs.Measured.{ops_after, ops_before}
use Rattle.mt_cli.proofs.measured.jobs_of.Given as goal

abbrev pub invariant-loop-k : goal.invariant-loop-k
invariant-loop-k l = record {
  before : map (ops_in Before) l.jobs.items ≡ map (ops_before l.n l.count) (range_with_len 0 l.k);
  after : map (ops_in After) l.jobs.items ≡ map (ops_after l.n l.count) (range_with_len 0 l.k);
  fits : (k : ℕ) → k < l.k → (d : Job) → FitsJob (get_or l.jobs.items k d);
  size : length l.jobs.items ≡ l.k;
  room : l.cpus ≤ vec_capacity l.jobs;
}
