use Rattle.std.proofs.Common.{◌≡◌, ◌∙◌, List, ap, inl, inr, refl, subst, ℕ}
use Rattle.mt_ports.specs.declared.status.Status.TheVariants.{Done}
use Rattle.mt_output.specs.Written.{Writes}
use Rattle.mt_replay.specs.Summary.{summary}
use Rattle.mt_replay.specs.declared.summing.Totals.{Totals}
use Rattle.mt_answers.specs.Generator.{make_text}
use Rattle.mt_cli.specs.Output.{big_text, summary_text}
use Rattle.mt_cli.proofs.sums.big.Goals as goal

-- the numbers of a transcript, as they are written
big_is : (n : ℕ) (text written : List ℕ) (t : Totals) → text ≡ make_text n → t ≡ summary text → written ≡ summary_text t → written ≡ big_text n
unfolding big_text
big_is n text written t made is line = line ∙ ap summary_text (is ∙ ap summary made)

pub returns-in-Ok-summary_with-clause-bytes : goal.returns-in-Ok-summary_with-clause-bytes
returns-in-Ok-summary_with-clause-bytes g c =
    inl (subst (λ (t : List ℕ). Writes t Done (g.K.Sink.taken c.args.sink.now) (g.K.Sink.taken c.written.new.sink) c.written.result)
    (big_is c.args.n c.as_slice.result.now c.as_slice-in-Ok-summary_with.result.now c.in-Ok-summary_with.totals (c.as_slice.ensures.value ∙ c.in-Ok.ensures) c.in-Ok-summary_with.ensures (c.as_slice-in-Ok-summary_with.ensures.value ∙ c.summary_text.ensures))
    c.written.ensures.bytes)

pub returns-clause-bytes : goal.returns-clause-bytes
returns-clause-bytes g c = inr (refl, refl)

pub returns-in_default-clause-bytes : goal.returns-in_default-clause-bytes
returns-in_default-clause-bytes g c = inr (refl, refl)
