use Rattle.mt_import_laws.proofs.CorebootTable.{told_first as coreboot_first}
use Rattle.mt_import_laws.proofs.Edk2Table.{told_first as edk2_first}
use Rattle.mt_import_laws.proofs.InteltoolTable.{told_first as inteltool_first}
use Rattle.mt_import_laws.proofs.RowFirst.{chipsec_first, windbg_first}
use Rattle.mt_import_laws.proofs.X86infoAll.{several_taken}
use Rattle.mt_import_laws.proofs.X86infoTable.{told_first as x86info_first}
use Rattle.mt_import_laws.proofs.printers.auto_takes_what_is_printed.Goals as goal

pub returns : goal.returns
returns c = record { inteltool = inteltool_first; edk2 = edk2_first; windbg = windbg_first; chipsec = chipsec_first; coreboot = coreboot_first; x86info = x86info_first; several = several_taken }
