use Rattle.mt_replay.proofs.Refusals.Outcomes.{one_dump_shown}
use Rattle.mt_replay_laws.proofs.statuses.a_text_shows_one_dump.Goals as goal

pub returns : goal.returns
returns c = one_dump_shown
