use Rattle.std.proofs.Common.{refl, inl}
use Rattle.mt_import.specs.Readings.{all_registers}
use Rattle.mt_import_laws.proofs.worked.worked_word.Goals as goal

pub returns : goal.returns
unfolding all_registers
returns c = record { words = refl; among = inl refl; fixed = refl; given = refl; clear = refl }
