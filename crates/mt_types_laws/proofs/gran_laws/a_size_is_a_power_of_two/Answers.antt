use Rattle.mt_gran.proofs.GranuleSizes.{size_is}
use Rattle.mt_types_laws.proofs.gran_laws.a_size_is_a_power_of_two.Goals as goal

pub returns : goal.returns
returns c = size_is
