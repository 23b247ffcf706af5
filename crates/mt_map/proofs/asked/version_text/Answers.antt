use Rattle.std.proofs.Common.{refl}
use Rattle.mt_map.specs.Asked.{version_text}
use Rattle.mt_map.proofs.asked.version_text.Goals as goal

pub returns : goal.returns
unfolding version_text
returns c = refl
