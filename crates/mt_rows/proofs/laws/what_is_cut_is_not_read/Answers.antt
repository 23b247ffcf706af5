use Rattle.mt_rows.proofs.Cuts.{cut_is_not_read}
use Rattle.mt_rows.proofs.laws.what_is_cut_is_not_read.Goals as goal

pub returns : goal.returns
returns c = cut_is_not_read
