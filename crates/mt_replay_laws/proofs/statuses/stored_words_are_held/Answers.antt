use Rattle.mt_replay_laws.proofs.Refusals.Releases.{released_words_are_held}
use Rattle.mt_replay_laws.proofs.Refusals.Updates.{updated_words_are_held}
use Rattle.mt_replay_laws.proofs.statuses.stored_words_are_held.Goals as goal

pub returns-clause-updated : goal.returns-clause-updated
returns-clause-updated c = updated_words_are_held

pub returns-clause-released : goal.returns-clause-released
returns-clause-released c = released_words_are_held
