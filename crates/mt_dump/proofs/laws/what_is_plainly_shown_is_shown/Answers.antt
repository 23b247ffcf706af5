use Rattle.mt_dump.proofs.PlainForm.{plainly_shown}
use Rattle.mt_dump.proofs.laws.what_is_plainly_shown_is_shown.Goals as goal

pub returns : goal.returns
returns c = plainly_shown
