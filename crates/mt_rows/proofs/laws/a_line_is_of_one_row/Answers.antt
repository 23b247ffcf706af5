use Rattle.mt_rows.proofs.Aparts.{one_row}
use Rattle.mt_rows.proofs.laws.a_line_is_of_one_row.Goals as goal

pub returns : goal.returns
returns c = one_row
