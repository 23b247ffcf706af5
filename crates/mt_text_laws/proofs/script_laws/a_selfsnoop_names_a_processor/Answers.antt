use Rattle.std.proofs.Common.{◌<◌, subst}
use Rattle.mt_script.proofs.Keeping.{all_there}
use Rattle.mt_text_laws.proofs.script_laws.a_selfsnoop_names_a_processor.Goals as goal

pub returns : goal.returns
returns c = λ now k is fits. subst (λ most. k < most) (all_there now is fits.0) fits.1
