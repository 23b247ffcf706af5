use Rattle.std.proofs.Common.{refl}
use Rattle.mt_memory.specs.Help.{help_text}
use Rattle.mt_memory.proofs.help.help_text.Goals as goal

pub returns-clause-text : goal.returns-clause-text
unfolding help_text
returns-clause-text c = refl
