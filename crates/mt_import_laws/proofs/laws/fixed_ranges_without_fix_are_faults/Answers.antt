use Rattle.mt_import_laws.proofs.FixedRanges.{fixed_contradictions}
use Rattle.mt_import_laws.proofs.laws.fixed_ranges_without_fix_are_faults.Goals as goal

pub returns : goal.returns
returns c = fixed_contradictions
