use Rattle.std.proofs.Common.{refl}
use Rattle.mt_judge.specs.Help.{help_text}
use Rattle.mt_judge.proofs.program.help_text.Goals as goal

pub returns : goal.returns
unfolding help_text
returns c = refl
