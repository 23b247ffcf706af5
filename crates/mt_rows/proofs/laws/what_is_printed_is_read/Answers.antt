use Rattle.mt_rows.proofs.Prints.{printed_is_read}
use Rattle.mt_rows.proofs.laws.what_is_printed_is_read.Goals as goal

pub returns : goal.returns
returns c = printed_is_read
