use Rattle.mt_plain_laws.proofs.Followed as followed
use Rattle.mt_plain_laws.proofs.none_runs_in_books.Goals as goal

pub returns : goal.returns
returns c = followed.none_runs_in_books
