use Rattle.std.proofs.Common.{refl}
use Rattle.mt_map.specs.Asked.{help_text}
use Rattle.mt_map.proofs.asked.help_text.Goals as goal

pub returns : goal.returns
unfolding help_text
returns c = refl
