use Rattle.mt_text_laws.proofs.Good.{good_exactly}
use Rattle.mt_text_laws.proofs.script_laws.a_script_is_good_or_has_an_offence.Goals as goal

pub returns : goal.returns
returns c = good_exactly
