use Rattle.std.proofs.Common.{◌≡◌, sym, subst, refl, arith, rules, length, Some, List}
use Rattle.std.specs.Prelude.{slice_get}
use Rattle.std.proofs.lemmas.Option.{slice_get_read}
use Rattle.mt_private.specs.declared.job.Part.{Part}
use Rattle.mt_private.specs.declared.job.JobAnswers.{JobAnswers}
use Rattle.mt_private.specs.Jobs.{AreOpen}
use Rattle.mt_private.proofs.Accessed.{open_more}
use Rattle.mt_private.proofs.runs.answers_for.Goals as goal

pub loop-k-preserved : goal.loop-k-preserved
loop-k-preserved c =
    let k = c.loop-k.k in
    let jobs = c.args.jobs.now in
    let job = c.index-jobs-k.result in
    let at_job : slice_get jobs k ≡ Some job = slice_get_read jobs (length jobs) k job refl (omega arith) c.index-jobs-k.is in
    record {
      count = search rules;
      room = search rules;
      opens = subst (λ (ts : List JobAnswers). (part : Part) → AreOpen part jobs ts) (sym c.push_reserved.ensures.items) (open_more jobs c.loop-k.told.items k job c.in-Ok-new.answers at_job c.loop-k.invariant.count c.in-Ok-new.ensures c.loop-k.invariant.opens);
    }
