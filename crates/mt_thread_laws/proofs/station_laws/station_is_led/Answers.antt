use Rattle.mt_rendezvous.proofs.Unique.{stands_for_one}
use Rattle.mt_thread_laws.proofs.station_laws.station_is_led.Goals as goal

pub returns-clause-led : goal.returns-clause-led
returns-clause-led c = λ key s m. m.led_to

pub returns-clause-one : goal.returns-clause-one
returns-clause-one c = stands_for_one
