use Rattle.std.proofs.Common.{refl, inl, inr}
use Rattle.mt_import.specs.Readings.{all_registers}
use Rattle.mt_import_laws.proofs.worked.worked_fixed_ranges.Goals as goal

pub returns : goal.returns
unfolding all_registers
returns c = record { first = inr (inl refl); second = inl refl; fixed = refl; clear = refl }
