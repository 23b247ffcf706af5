use Rattle.mt_plain_laws.proofs.Followed as followed
use Rattle.mt_plain_laws.proofs.moves_are_led.Goals as goal

pub returns : goal.returns
returns c = followed.moves_are_led
