use Rattle.std.proofs.Common.{◌≡◌, ◌∙◌, ap, false, sym}
use Rattle.mt_regs.specs.RegisterFile.{RegisterFile, is_enabled}
use Rattle.mt_answers.specs.Lines.{disabled_line}
use Rattle.mt_answers.specs.declared.command.DumpCommand.TheVariants.{Tidy}
use Rattle.mt_answers.specs.Answer.{FileAnswer, tidied, disabled, too_few}
use Rattle.mt_answers.proofs.Answering.{answers_with}
use Rattle.mt_answers.proofs.answers.tidied.Goals as goal

pub returns-then-not-is_enabled-clause-bytes : goal.returns-then-not-is_enabled-clause-bytes
returns-then-not-is_enabled-clause-bytes g c =
    let off : is_enabled c.args.f.now ≡ false = sym c.is_enabled.ensures ∙ c.if-not-is_enabled.true in
    answers_with (FileAnswer c.args.f.now (Tidy c.args.spare c.args.chunk)) _ _ _ _ _ _ (disabled c.args.spare c.args.chunk off)
    (c.as_slice.ensures.value ∙ c.disabled_line.ensures ∙ ap (λ (f : RegisterFile). disabled_line f.default_type) c.f.view_is) c.written.ensures.bytes

pub returns-in-Ok-clause-bytes : goal.returns-in-Ok-clause-bytes
returns-in-Ok-clause-bytes g c =
    answers_with (FileAnswer c.args.f.now (Tidy c.args.spare c.args.chunk)) _ _ _ _ _ _ (tidied c.args.spare c.args.chunk c.in-Ok.tidied c.in-Ok.ensures.ok)
    (c.as_slice-in-Ok.ensures.value ∙ c.tidied_text-text.ensures) c.written-in-Ok.ensures.bytes

pub returns-in-Err-clause-bytes : goal.returns-in-Err-clause-bytes
returns-in-Err-clause-bytes g c =
    answers_with (FileAnswer c.args.f.now (Tidy c.args.spare c.args.chunk)) _ _ _ _ _ _ (too_few c.args.spare c.args.chunk c.in-Err.field-0.needs c.in-Err.field-0.has c.in-Err.ensures.err)
    (c.as_slice-in-Err.ensures.value ∙ c.too_few_line.ensures) c.written-in-Err.ensures.bytes
