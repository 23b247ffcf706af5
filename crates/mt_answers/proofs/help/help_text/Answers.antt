use Rattle.std.proofs.Common.{refl}
use Rattle.mt_answers.specs.Help.{help_text}
use Rattle.mt_answers.proofs.help.help_text.Goals as goal

pub returns : goal.returns
unfolding help_text
returns c = refl
