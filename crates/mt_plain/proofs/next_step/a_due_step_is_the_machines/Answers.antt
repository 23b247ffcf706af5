use Rattle.mt_plain.proofs.Turns.{event_is, next_is, words_are}
use Rattle.mt_plain.proofs.next_step.a_due_step_is_the_machines.Goals as goal

pub returns-clause-event : goal.returns-clause-event
returns-clause-event c = event_is

pub returns-clause-words : goal.returns-clause-words
returns-clause-words c = λ u d o ps p old told. words_are u d o ps p told old

pub returns-clause-next : goal.returns-clause-next
returns-clause-next c = next_is
