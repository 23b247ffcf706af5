use Rattle.std.proofs.Common.{refl, inl, inr}
use Rattle.mt_import.specs.Readings.{all_registers}
use Rattle.mt_import_laws.proofs.worked.worked_contradiction.Goals as goal

pub returns : goal.returns
unfolding all_registers
returns c = record {
  first = inr (inl refl);
  second = inl refl;
  apart = record { processor = refl; number = refl; bit = 0; first = refl; second = refl; differ = λ e. cc e };
}
