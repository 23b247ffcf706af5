use Rattle.mt_flat.proofs.Coursing.{courses_hide_caches, courses_keep_flat}
use Rattle.mt_flat.proofs.laws.courses_are_flat.Goals as goal

pub returns-clause-keep : goal.returns-clause-keep
returns-clause-keep c = courses_keep_flat

pub returns-clause-answer : goal.returns-clause-answer
returns-clause-answer c = courses_hide_caches
