use Rattle.std.proofs.Common.{◌∙◌}
use Rattle.mt_answers.specs.declared.command.DumpCommand.TheVariants.{Show}
use Rattle.mt_answers.specs.Answer.{Answer, shown}
use Rattle.mt_answers.proofs.Answering.{answers_with}
use Rattle.mt_answers.proofs.answers.show.Goals as goal

pub returns-clause-bytes : goal.returns-clause-bytes
returns-clause-bytes g c = answers_with (Answer c.args.d.now Show) _ _ _ _ _ _ shown (c.as_slice.ensures.value ∙ c.canonical_text.ensures) c.written.ensures.bytes
