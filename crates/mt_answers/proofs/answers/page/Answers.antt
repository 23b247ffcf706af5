use Rattle.std.proofs.Common.{◌∙◌}
use Rattle.mt_answers.specs.declared.command.DumpCommand.TheVariants.{Page}
use Rattle.mt_answers.specs.Answer.{FileAnswer, paged}
use Rattle.mt_answers.proofs.Answering.{answers_with}
use Rattle.mt_answers.proofs.answers.page.Goals as goal

pub returns-clause-bytes : goal.returns-clause-bytes
returns-clause-bytes g c =
    answers_with (FileAnswer c.args.f.now (Page c.args.address c.args.index)) _ _ _ _ _ _ (paged c.args.address c.args.index)
    (c.as_slice.ensures.value ∙ c.page_text.ensures) c.written.ensures.bytes
