use Rattle.std.proofs.Common.{refl}
use Rattle.mt_memory.specs.Help.{version_text}
use Rattle.mt_memory.proofs.help.version_text.Goals as goal

pub returns-clause-text : goal.returns-clause-text
unfolding version_text
returns-clause-text c = refl
