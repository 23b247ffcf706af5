use Rattle.mt_replay_laws.proofs.Courses.Calling.{accepted_where_idle_and_whole, goals_are_of_their_sections}
use Rattle.mt_replay_laws.proofs.Courses.Numbers.{steps_are_of_their_lines}
use Rattle.mt_replay_laws.proofs.Courses.Releasing.{released_updates_are_kept}
use Rattle.mt_replay_laws.proofs.Courses.Newcomers.{newcomers_where_idle}
use Rattle.mt_replay_laws.proofs.Courses.Since.{complete_updates_are_kept, joins_are_kept, refused_updates_change_nothing}
use Rattle.mt_replay_laws.proofs.Courses.States.{starts_as_the_dump_shows, states_are_of_the_course}
use Rattle.mt_replay_laws.proofs.Courses.Steps.{replays_are_of_the_course, steps_follow, transcript_is_of_the_course, transcript_is_one_line}
use Rattle.mt_replay_laws.proofs.headline.the_headline_holds.Goals as goal

pub returns-clause-transcript : goal.returns-clause-transcript
returns-clause-transcript c = transcript_is_of_the_course

pub returns-clause-written : goal.returns-clause-written
returns-clause-written c = replays_are_of_the_course

pub returns-clause-one_line : goal.returns-clause-one_line
returns-clause-one_line c = transcript_is_one_line

pub returns-clause-follow : goal.returns-clause-follow
returns-clause-follow c = steps_follow

pub returns-clause-accepted : goal.returns-clause-accepted
returns-clause-accepted c = accepted_where_idle_and_whole

pub returns-clause-those_registers : goal.returns-clause-those_registers
returns-clause-those_registers c = goals_are_of_their_sections

pub returns-clause-complete : goal.returns-clause-complete
returns-clause-complete c = complete_updates_are_kept

pub returns-clause-released : goal.returns-clause-released
returns-clause-released c = released_updates_are_kept

pub returns-clause-refused : goal.returns-clause-refused
returns-clause-refused c = refused_updates_change_nothing

pub returns-clause-states : goal.returns-clause-states
returns-clause-states c = states_are_of_the_course

pub returns-clause-starts : goal.returns-clause-starts
returns-clause-starts c = starts_as_the_dump_shows

pub returns-clause-lines : goal.returns-clause-lines
returns-clause-lines c = steps_are_of_their_lines

pub returns-clause-newcomers : goal.returns-clause-newcomers
returns-clause-newcomers c = newcomers_where_idle

pub returns-clause-joined : goal.returns-clause-joined
returns-clause-joined c = joins_are_kept
