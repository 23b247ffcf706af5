use Rattle.std.proofs.Common.{refl}
use Rattle.hex.specs.Hex.{encode_with}
use Rattle.std.specs.Fmt.{digits}
use Rattle.mt_import.specs.Readings.{all_registers}
use Rattle.mt_import_laws.proofs.WorkedFiles.{coreboot_suits, edk2_suits, inteltool_suits, linux_suits, rdmsr_suits, x86info_suits, xen_suits}
use Rattle.mt_import_laws.proofs.printers.worked_prints.Goals as goal

pub returns : goal.returns
unfolding encode_with digits all_registers
returns c = record {
  rdmsr = rdmsr_suits;
  inteltool = inteltool_suits;
  coreboot = coreboot_suits;
  edk2 = edk2_suits;
  x86info = x86info_suits;
  xen = xen_suits;
  linux = linux_suits;
  words = refl;
  more_words = refl;
  words_too = refl;
  words_for_xen = refl;
  by_rdmsr = (refl, refl);
  by_inteltool = refl;
  by_windbg = refl;
  by_chipsec = refl;
  by_x86info = refl;
  sizes_by_x86info = refl;
  by_xen = refl;
  by_linux = refl;
  by_coreboot = refl;
  by_edk2 = refl;
}
