use Rattle.std.proofs.Common.{refl}
use Rattle.mt_answers.specs.Help.{version_text}
use Rattle.mt_answers.proofs.help.version_text.Goals as goal

pub returns : goal.returns
unfolding version_text
returns c = refl
