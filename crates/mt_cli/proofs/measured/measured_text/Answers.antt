use Rattle.std.proofs.Common.{◌∙◌, ap, refl, List}
use Rattle.std.specs.List.{fold}
use Rattle.mt_machine.specs.Machine.{Machine}
use Rattle.mt_private.specs.declared.job.Part.TheVariants.{After, Before}
use Rattle.mt_private.specs.declared.job.JobAnswers.{JobAnswers}
use Rattle.mt_private.specs.Jobs.{answers_in}
use Rattle.mt_cli.specs.Measured.{sums_text, values_from, words_sum}
use Rattle.mt_cli.proofs.Drawing.{sums}
use Rattle.mt_cli.proofs.measured.measured_text.Goals as goal

pub returns : goal.returns
returns g c =
    c.told_text.ensures
    ∙ ap (λ (ts : List JobAnswers). sums_text (fold (λ s t. values_from s (answers_in After t)) (fold (λ s t. values_from s (answers_in Before t)) 0 ts) ts) (words_sum c.run_jobs.new.core.system.memory.words)) c.as_slice.ensures.value
    ∙ sums _ _ _ c.run_jobs.new.core c.args.cpus c.args.n c.args.accesses _ _ c.in_ok-told.ensures (ap (λ (m : Machine). m.system) c.in_ok-core.ensures.machine) c.in_ok-jobs.ensures.before c.in_ok-jobs.ensures.after refl refl
