use Rattle.mt_dump.proofs.Shows.{canon_shown}
use Rattle.mt_dump.proofs.laws.a_dump_is_shown_by_its_text.Goals as goal

pub returns : goal.returns
returns c = canon_shown c.args.d.now c.is_dump.ensures c.have_words.ensures
