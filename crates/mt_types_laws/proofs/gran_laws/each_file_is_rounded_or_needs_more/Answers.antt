use Rattle.mt_types_laws.proofs.SomeRounding.{rounded_or_more}
use Rattle.mt_types_laws.proofs.gran_laws.each_file_is_rounded_or_needs_more.Goals as goal

pub returns : goal.returns
returns c = rounded_or_more
