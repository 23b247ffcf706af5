use Rattle.mt_dump.proofs.Comments.{shown_behind_comment}
use Rattle.mt_dump.proofs.laws.a_comment_shows_nothing.Goals as goal

pub returns : goal.returns
returns c = shown_behind_comment
