use Rattle.mt_types.proofs.OneMap.{one_type_map}
use Rattle.mt_types.proofs.SomeMap.{a_type_map}
use Rattle.mt_types_laws.proofs.unique.each_file_has_one_type_map.Goals as goal

pub returns-clause-some : goal.returns-clause-some
returns-clause-some c = a_type_map

pub returns-clause-one : goal.returns-clause-one
returns-clause-one c = one_type_map
