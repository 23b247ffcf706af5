use Rattle.std.proofs.Common.{◌∙◌, ap}
use Rattle.mt_answers.specs.declared.command.DumpCommand.TheVariants.{Types}
use Rattle.mt_answers.specs.Lines.{types_text}
use Rattle.mt_answers.specs.Answer.{FileAnswer, typed}
use Rattle.mt_answers.proofs.Answering.{answers_with}
use Rattle.mt_answers.proofs.answers.types.Goals as goal

pub returns-in-Ok-types_text-clause-bytes : goal.returns-in-Ok-types_text-clause-bytes
returns-in-Ok-types_text-clause-bytes g c =
    answers_with (FileAnswer c.args.f.now Types) _ _ _ _ _ _ (typed c.in-Ok.runs c.in-Ok.ensures)
    (c.as_slice.ensures.value ∙ c.in-Ok-types_text.ensures ∙ ap types_text c.all.ensures.runs) c.written.ensures.bytes
