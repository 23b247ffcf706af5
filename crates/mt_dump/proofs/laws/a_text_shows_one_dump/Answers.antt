use Rattle.mt_dump.proofs.Ends.{one_dump}
use Rattle.mt_dump.proofs.laws.a_text_shows_one_dump.Goals as goal

pub returns : goal.returns
returns c = one_dump
