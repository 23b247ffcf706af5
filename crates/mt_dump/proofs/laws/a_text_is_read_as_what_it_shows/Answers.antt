use Rattle.mt_dump.proofs.Ends.{read_exactly}
use Rattle.mt_dump.proofs.laws.a_text_is_read_as_what_it_shows.Goals as goal

pub returns : goal.returns
returns c = read_exactly
