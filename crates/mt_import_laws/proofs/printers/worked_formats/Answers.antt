use Rattle.std.proofs.Common.{refl}
use Rattle.hex.specs.Hex.{encode_with}
use Rattle.std.specs.Fmt.{digits}
use Rattle.mt_import.specs.Census.{census_behind, taken}
use Rattle.mt_import.specs.Readings.{all_registers}
use Rattle.mt_import.specs.Shown.{tells}
use Rattle.mt_import_laws.proofs.printers.worked_formats.Goals as goal

pub returns : goal.returns
unfolding all_registers census_behind digits encode_with taken tells
returns c = record {
  xen = refl;
  linux = refl;
  none = refl;
  of_coreboot = record { third = refl; fifth = refl };
  of_x86info = record { third = refl; fifth = refl };
  of_host = λ host. cc host.fifth;
}
