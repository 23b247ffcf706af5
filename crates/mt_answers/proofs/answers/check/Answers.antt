use Rattle.std.proofs.Common.{◌∙◌}
use Rattle.mt_answers.specs.declared.command.DumpCommand.TheVariants.{Check}
use Rattle.mt_answers.specs.Answer.{Answer, accepted}
use Rattle.mt_answers.proofs.Answering.{answers_with}
use Rattle.mt_answers.proofs.answers.check.Goals as goal

pub returns-clause-bytes : goal.returns-clause-bytes
returns-clause-bytes g c = answers_with (Answer c.args.d.now Check) _ _ _ _ _ _ (accepted c.requires) (c.as_slice.ensures.value ∙ c.check_text.ensures) c.written.ensures.bytes
