use Rattle.std.proofs.Common.{◌≡◌, refl, sym, subst, arith, get_or, length, Some, below_more, rules}
use Rattle.std.specs.Prelude.{slice_get}
use Rattle.std.proofs.lemmas.Option.{get_or_from_slice_get, slice_get_read}
use Rattle.mt_private.specs.declared.job.Job.{Job}
use Rattle.mt_private.specs.Jobs.{FitsJob}
use Rattle.mt_thread_tests.proofs.job_tests.all_fit.Goals as goal

pub loop-i-preserved : goal.loop-i-preserved
loop-i-preserved c =
    let jobs = c.args.jobs.now in
    let i = c.loop-i.i in
    let at : slice_get jobs i ≡ Some c.index-jobs-i.result = slice_get_read jobs (length jobs) i c.index-jobs-i.result refl (omega arith) c.index-jobs-i.is in
    let fits : FitsJob c.index-jobs-i.result = search rules in
    below_more (λ k. (d : Job) → FitsJob (get_or jobs k d)) i c.loop-i.invariant (λ d. subst FitsJob (sym (get_or_from_slice_get jobs i c.index-jobs-i.result d at)) fits)

pub returns : goal.returns
returns c is k d within = c.loop-i.invariant k (omega arith) d
