use Rattle.mt_dump.proofs.Ends.{shown_dump}
use Rattle.mt_dump.proofs.laws.what_a_text_shows_is_a_dump.Goals as goal

pub returns : goal.returns
returns c = shown_dump
