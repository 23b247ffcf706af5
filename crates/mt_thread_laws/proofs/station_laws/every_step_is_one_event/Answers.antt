use Rattle.mt_thread_laws.proofs.EveryStep.{each_step_follows, shown_is_found}
use Rattle.mt_thread_laws.proofs.station_laws.every_step_is_one_event.Goals as goal

pub returns-clause-events : goal.returns-clause-events
returns-clause-events c = each_step_follows

pub returns-clause-shown : goal.returns-clause-shown
returns-clause-shown c = shown_is_found
