use Rattle.mt_mend.proofs.Granted.{last_decides, none_decides}
use Rattle.mt_mend.proofs.laws.the_last_wish_decides.Goals as goal

pub returns : goal.returns
returns c = record { last = last_decides; own = none_decides }
