use Rattle.std.proofs.Common.{refl}
use Rattle.mt_import.specs.Help.{version_text}
use Rattle.mt_import.proofs.help.version_text.Goals as goal

pub returns-clause-text : goal.returns-clause-text
unfolding version_text
returns-clause-text c = refl
