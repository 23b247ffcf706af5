use Rattle.std.proofs.Common.{refl}
use Rattle.mt_plain.specs.WorkedTurns.{alone}
use Rattle.mt_plain_laws.specs.Rendezvous.{first_words}
use Rattle.mt_plain_laws.proofs.worked_books.Goals as goal

pub returns-clause-allowed : goal.returns-clause-allowed
returns-clause-allowed c = ((first_words alone, refl, refl), (refl, tt))
