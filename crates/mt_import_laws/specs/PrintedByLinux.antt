-- What Linux prints of its boot processor's MTRRs with debugging on (Linux 6.1: arch/x86/kernel/cpu/mtrr/generic.c, print_mtrr_state).
--     linux_lines log file      the lines
use Rattle.std.specs.Prelude.{ℕ, ◌≡◌, ◌≤◌, ◌-◌, ◌/◌, ◌+◌, ◌&&◌, ◌||◌, max, Bool, true, false, codes, List, ◌++◌, length}
use Rattle.std.specs.List.{list_all}
use Rattle.mt_regs.specs.RegisterFile.{RegisterFile, is_enabled, is_fixed_enabled}
use Rattle.mt_import.specs.Supplied.{Supplied}
use Rattle.mt_import_laws.specs.PrintedByInteltool.{is_name_byte}
use Rattle.mt_import_laws.specs.PrintedByKernel.{Style, SuitsKernel, kernel_lines}

-- the time in front of each line, and whether the kernel is one of 4.3 or later
pub record Log : Type 0 where
  pub time : List ℕ
  pub since_4_3 : Bool

-- From 4.3 on fixed ranges are called enabled if E and FE are set, and before if FE is.
abbrev pub calls_enabled : Bool → RegisterFile → Bool
calls_enabled true file = is_enabled file && is_fixed_enabled file
calls_enabled false file = is_fixed_enabled file

-- `[    0.000000] `; the high half of a page's address has one digit at least, and its low half five.
abbrev pub linux_style : Log → RegisterFile → Style
linux_style log file =
    record { front = codes "[    " ++ (log.time ++ codes "] "); upper = true; digits = max 1 ((file.width - 29) / 4) + 5; fixed = calls_enabled log.since_4_3 file }

abbrev pub linux_lines : Log → RegisterFile → List (List ℕ)
linux_lines log file = kernel_lines (linux_style log file) file

-- The time is a short word. The lines show FE if E is set, or fixed ranges are called enabled.
pub record SuitsLinux (log : Log) (file : RegisterFile) (supplied : Supplied) : Type 0 where
  pub short : length log.time ≤ 20
  pub visible : list_all is_name_byte log.time ≡ true
  pub kernel : SuitsKernel (is_enabled file || calls_enabled log.since_4_3 file) file supplied
