use Rattle.mt_private.proofs.Residents.Seats.{joins, placed, says, splits}
use Rattle.mt_thread_laws.proofs.Residents.Ends.{shown_is_found}
use Rattle.mt_thread_laws.proofs.Residents.Steps.{each_step_follows}
use Rattle.mt_thread_laws.proofs.yard_laws.each_yard_step_is_one_event.Goals as goal

pub returns-clause-steps : goal.returns-clause-steps
returns-clause-steps c = each_step_follows

pub returns-clause-shown : goal.returns-clause-shown
returns-clause-shown c = shown_is_found

pub returns-clause-moves : goal.returns-clause-moves
returns-clause-moves c = placed

pub returns-clause-decides : goal.returns-clause-decides
returns-clause-decides c = says

pub returns-clause-split : goal.returns-clause-split
returns-clause-split c = splits

pub returns-clause-join : goal.returns-clause-join
returns-clause-join c = joins
