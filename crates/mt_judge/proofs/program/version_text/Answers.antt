use Rattle.std.proofs.Common.{refl}
use Rattle.mt_judge.specs.Help.{version_text}
use Rattle.mt_judge.proofs.program.version_text.Goals as goal

pub returns : goal.returns
unfolding version_text
returns c = refl
