use Rattle.std.proofs.Common.{◌≡◌, ◌∙◌, ap, ℕ}
use Rattle.std.specs.List.{fold}
use Rattle.mt_private.specs.declared.job.Part.TheVariants.{After, Before}
use Rattle.mt_private.specs.Jobs.{answers_in}
use Rattle.mt_cli.specs.Measured.{sums_text, values_from}
use Rattle.mt_cli.proofs.measured.told_text.Goals as goal

pub returns : goal.returns
returns c =
    let told = c.args.told.now in
    let values : c.all_values_from-values.result ≡ fold (λ s t. values_from s (answers_in After t)) (fold (λ s t. values_from s (answers_in Before t)) 0 told) told =
    c.all_values_from-values.ensures ∙ ap (λ (s : ℕ). fold (λ s t. values_from s (answers_in After t)) s told) c.all_values_from-before.ensures in
    c.sums_text.ensures ∙ (λ i. sums_text (values i) (c.memory_sum.ensures i))
