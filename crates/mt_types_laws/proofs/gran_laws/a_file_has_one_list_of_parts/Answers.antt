use Rattle.mt_types_laws.proofs.OneList.{one_list}
use Rattle.mt_types_laws.proofs.gran_laws.a_file_has_one_list_of_parts.Goals as goal

pub returns : goal.returns
returns c = one_list
