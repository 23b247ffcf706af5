use Rattle.mt_plain_laws.proofs.Followed.{each_is_told}
use Rattle.mt_plain_laws.proofs.books_are_told.Goals as goal

pub returns : goal.returns
returns c = each_is_told
