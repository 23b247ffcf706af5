use Rattle.mt_gran.proofs.Whole.{whole_from, whole_has}
use Rattle.mt_types_laws.proofs.gran_laws.a_granule_is_whole_where_its_pages_have_one_type.Goals as goal

pub returns : goal.returns
returns c = λ m g granule. (whole_has m g granule, λ has. whole_from m g granule has.0 has.1)
