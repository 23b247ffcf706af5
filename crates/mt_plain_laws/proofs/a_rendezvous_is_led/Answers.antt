use Rattle.mt_plain_laws.proofs.Followed.{rendezvous_is_led}
use Rattle.mt_plain_laws.proofs.a_rendezvous_is_led.Goals as goal

pub returns : goal.returns
returns c = rendezvous_is_led
