use Rattle.std.proofs.Common.{ℕ, ◌<◌, get_or}
use Rattle.mt_private.specs.declared.job.Job.{Job}
use Rattle.mt_private.specs.Jobs.{FitsJob}
use Rattle.mt_thread_tests.proofs.job_tests.all_fit.Given as goal

abbrev pub invariant-loop-i : goal.invariant-loop-i
invariant-loop-i l = (k : ℕ) → k < l.i → (d : Job) → FitsJob (get_or l.jobs k d)
