use Rattle.mt_plain_laws.proofs.Followed.{begins_telling}
use Rattle.mt_plain_laws.proofs.books_begin.Goals as goal

pub returns : goal.returns
returns c = begins_telling
