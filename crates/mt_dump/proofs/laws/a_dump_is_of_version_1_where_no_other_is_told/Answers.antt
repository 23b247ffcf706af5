use Rattle.mt_dump.proofs.Ends.{usual_version}
use Rattle.mt_dump.proofs.laws.a_dump_is_of_version_1_where_no_other_is_told.Goals as goal

pub returns : goal.returns
returns c = usual_version
