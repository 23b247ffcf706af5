use Rattle.std.proofs.Common.{rules, subst, List}
use Rattle.std.specs.List.{All}
use Rattle.mt_private.specs.declared.job.Job.{Job}
use Rattle.mt_private.specs.Jobs.{FitsJob}
use Rattle.mt_thread_tests.proofs.job_tests.on_threads.Goals as goal

pub run_private-requires : goal.run_private-requires
run_private-requires g c = (
  c.type_bounds.sync-R,
  (
    c.type_bounds.sync-G,
    record {
      update = search rules;
      one_each = search rules;
      addresses = subst (λ (js : List Job). All FitsJob js) c.as_slice.ensures.value (c.all_fit.ensures c.if-not-all_fit.false);
    },
  ),
)
