-- What Xen prints of its boot processor's MTRRs with mtrr.show, or if processors differ (Xen 4.17: xen/arch/x86/cpu/mtrr/generic.c, print_mtrr_state;
-- xen/drivers/char/console.c, printk_start_of_line).
--     xen_lines file      the lines
use Rattle.std.specs.Prelude.{ℕ, ◌-◌, ◌/◌, true, false, codes, List}
use Rattle.mt_regs.specs.RegisterFile.{RegisterFile, is_fixed_enabled}
use Rattle.mt_import.specs.Supplied.{Supplied}
use Rattle.mt_import_laws.specs.PrintedByKernel.{Style, SuitsKernel, kernel_lines}

-- `width = (paddr_bits - PAGE_SHIFT + 3) / 4`; fixed ranges are called enabled if FE is set.
abbrev pub xen_style : RegisterFile → Style
xen_style file = record { front = codes "(XEN) "; upper = false; digits = (file.width - 9) / 4; fixed = is_fixed_enabled file }

abbrev pub xen_lines : RegisterFile → List (List ℕ)
xen_lines file = kernel_lines (xen_style file) file

-- The lines show FE whatever E is.
abbrev pub SuitsXen : RegisterFile → Supplied → Type 0
SuitsXen file supplied = SuitsKernel true file supplied
