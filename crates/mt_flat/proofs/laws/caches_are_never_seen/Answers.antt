use Rattle.mt_flat.proofs.Seeing.{answers_are_flat, caches_are_never_seen}
use Rattle.mt_flat.proofs.laws.caches_are_never_seen.Goals as goal

pub returns-clause-answer : goal.returns-clause-answer
returns-clause-answer c = answers_are_flat

pub returns-clause-run : goal.returns-clause-run
returns-clause-run c = caches_are_never_seen
