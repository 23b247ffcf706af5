use Rattle.mt_gran.proofs.RoundedFit.{own_stays}
use Rattle.mt_types_laws.proofs.gran_laws.the_rounded_file_keeps_its_types.Goals as goal

pub returns : goal.returns
returns c = own_stays
