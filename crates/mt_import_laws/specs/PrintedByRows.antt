-- What chipsec and WinDbg print of a register file, a line for each register (own, by what is publicly known of their forms).
--     lines_by line_of file      the lines of 0FEH and of each register that the file has
--     windbg_line number value      what `rdmsr` of WinDbg prints
--     chipsec_line number value      what `chipsec_util msr` prints of processor 0
use Rattle.std.specs.Prelude.{ℕ, ◌/◌, ◌%◌, codes, List, ◌∷◌, ◌++◌, map, None, Some}
use Rattle.std.specs.Int.{to_be_bytes, w32}
use Rattle.hex.specs.Hex.{encode_lower}
use Rattle.mt_regs.specs.RegisterFile.{RegisterFile}
use Rattle.mt_regs.specs.Registers.{writable}
use Rattle.mt_import_laws.specs.Printed.{number_at, value_in}
use Rattle.mt_import_laws.specs.PrintedByEdk2.{sixteen_digits}
use Rattle.mt_import_laws.specs.PrintedByInteltool.{eight_digits}
use Rattle.mt_import_laws.specs.PrintedByRdmsr.{hex_text}

abbrev pub lines_by : (ℕ → ℕ → List ℕ) → RegisterFile → List (List ℕ)
lines_by line_of file = map (λ key. line_of (number_at key) (value_in file key)) (None ∷ map Some (writable file))

-- `%08x`
abbrev pub low_digits : ℕ → List ℕ
low_digits value = encode_lower (to_be_bytes w32 value)

-- `msr[200] = 00000000`00000006`
abbrev pub windbg_line : ℕ → ℕ → List ℕ
windbg_line number value = codes "msr[" ++ (hex_text number ++ (codes "] = " ++ (low_digits (value / 0x100000000) ++ (codes "`" ++ low_digits (value % 0x100000000)))))

-- `[CHIPSEC] CPU0: RDMSR( 0x200 ) = 0000000000000006 (EAX=00000006, EDX=00000000)`
abbrev pub chipsec_line : ℕ → ℕ → List ℕ
chipsec_line number value =
    codes "[CHIPSEC] CPU0: RDMSR( 0x" ++ (hex_text number ++ (codes " ) = " ++ (sixteen_digits value ++ (codes " (EAX=" ++ (eight_digits (value % 0x100000000)
    ++ (codes ", EDX=" ++ (eight_digits (value / 0x100000000) ++ codes ")")))))))
