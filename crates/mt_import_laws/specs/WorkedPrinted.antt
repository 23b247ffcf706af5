-- An instance of the laws on what programs print: the registers of an ordinary PC with 8 GB (own).
use Rattle.std.specs.Prelude.{ℕ, ◌+◌, ◌%◌, codes, true, List, [], ◌∷◌, ◌++◌, Some, None, slice_index_or}
use Rattle.mt_regs.specs.declared.registers.Register.TheVariants.{PhysBase, PhysMask, FixedRange, Pat, DefaultType}
use Rattle.mt_regs.specs.RegisterFile.{RegisterFile}
use Rattle.mt_import.specs.declared.shape.Pick.TheVariants.{Each}
use Rattle.mt_import.specs.Supplied.{Supplied, nothing_assumed}
use Rattle.mt_import_laws.specs.PrintedByCoreboot.{Tails}
use Rattle.mt_import_laws.specs.Printed.{Key}
use Rattle.mt_import_laws.specs.PrintedByInteltool.{Names}
use Rattle.mt_import_laws.specs.PrintedByLinux.{Log}
use Rattle.mt_import_laws.specs.PrintedByX86info.{Print}

-- examples/ordinary-pc.dump
abbrev pub ordinary_pc : RegisterFile
ordinary_pc = record {
  width = 36;
  capabilities = 0xd08;
  pairs =
      (0x6, 0xf00000800) ∷ (0x100000006, 0xf00000800) ∷ (0x200000006, 0xfe0000800) ∷ (0xe0000000, 0xfe0000800)
      ∷ (0, 0) ∷ (0, 0) ∷ (0, 0) ∷ (0, 0) ∷ [];
  fixed =
      0x0606060606060606 ∷ 0x0606060606060606 ∷ 0 ∷ 0x0505050505050505 ∷ 0x0505050505050505 ∷ 0x0505050505050505
      ∷ 0x0505050505050505 ∷ 0x0505050505050505 ∷ 0x0505050505050505 ∷ 0x0505050505050505 ∷ 0x0505050505050505 ∷ [];
  pat = 0x0007040600070406;
  default_type = 0xc00;
}

-- a second processor, whose default type is another
abbrev pub other_cpu : RegisterFile
other_cpu = record ordinary_pc { default_type = 0xc06 }

abbrev pub two_cpus : List RegisterFile
two_cpus = ordinary_pc ∷ other_cpu ∷ []

abbrev pub fixed_names : List (List ℕ)
fixed_names =
    codes "FIX64K_00000" ∷ codes "FIX16K_80000" ∷ codes "FIX16K_A0000" ∷ codes "FIX4K_C0000" ∷ codes "FIX4K_C8000" ∷ codes "FIX4K_D0000"
    ∷ codes "FIX4K_D8000" ∷ codes "FIX4K_E0000" ∷ codes "FIX4K_E8000" ∷ codes "FIX4K_F0000" ∷ codes "FIX4K_F8000" ∷ []

-- the names that inteltool has for family 6, model 55H, of ten pairs at most: PhysMask has PhysBase's
abbrev pub model_names : Names
model_names None = codes "IA32_MTRRCAP"
model_names (Some (PhysBase n)) = codes "IA32_MTRR_PHYSBASE" ++ (48 + n % 10) ∷ []
model_names (Some (PhysMask n)) = codes "IA32_MTRR_PHYSBASE" ++ (48 + n % 10) ∷ []
model_names (Some (FixedRange place)) = codes "IA32_MTRR_" ++ slice_index_or fixed_names place []
model_names (Some Pat) = codes "IA32_PAT"
model_names (Some DefaultType) = codes "IA32_MTRR_DEF_TYPE"

-- what x86info calls fixed-range registers
abbrev pub x86info_fixed : List (List ℕ)
x86info_fixed =
    codes "64K_00000" ∷ codes "16K_80000" ∷ codes "16K_A0000" ∷ codes "4K_C0000" ∷ codes "4K_C8000" ∷ codes "4K_D0000" ∷ codes "4K_D8000" ∷ codes "4K_E0000" ∷ codes "4K_E8000"
    ∷ codes "4K_F0000" ∷ codes "4K_F8000" ∷ []

-- of the eight pairs that it asks for
abbrev pub x86info_names : Names
x86info_names None = codes "cap"
x86info_names (Some (PhysBase n)) = codes "physBase" ++ (48 + n % 10) ∷ []
x86info_names (Some (PhysMask n)) = codes "physMask" ++ (48 + n % 10) ∷ []
x86info_names (Some (FixedRange place)) = codes "fix" ++ slice_index_or x86info_fixed place []
x86info_names (Some Pat) = []
x86info_names (Some DefaultType) = codes "defType"

-- what it prints behind the values of some registers
abbrev pub some_fields : Key → List ℕ
some_fields None = codes " (smrr flag: 0x1, wc flag: 0x1, fix flag: 0x1, vcnt field: 0x08 (8))"
some_fields (Some (PhysBase n)) = []
some_fields (Some (PhysMask n)) = codes " (physmask field:0xfe0000 valid flag: 1)"
some_fields (Some (FixedRange place)) = []
some_fields (Some Pat) = []
some_fields (Some DefaultType) = []

-- with --addr
abbrev pub x86info_print : Print
x86info_print = record { names = x86info_names; fields = some_fields; virtual = Some 48 }

abbrev pub two_prints : List (Print × RegisterFile)
two_prints = (x86info_print, ordinary_pc) ∷ (x86info_print, other_cpu) ∷ []

-- `268=505050505050505 277=7040600070406`
abbrev pub words_for_x86info : Supplied
words_for_x86info = record { width = None; registers = (0x268, 0x0505050505050505) ∷ (0x277, 0x0007040600070406) ∷ []; assumed = nothing_assumed; table = Each }

-- what the word `maxphyaddr=36` supplies
abbrev pub width_36 : Supplied
width_36 = record { width = Some 36; registers = []; assumed = nothing_assumed; table = Each }

-- what coreboot prints behind the names of some registers
abbrev pub some_tails : Tails
some_tails None = codes " SMRR, WC, FIX, 8 variable MTRRs"
some_tails (Some (PhysBase n)) = []
some_tails (Some (PhysMask n)) = codes " Length  = 0x0000000020000000, Valid"
some_tails (Some (FixedRange place)) = []
some_tails (Some Pat) = []
some_tails (Some DefaultType) = codes " E, FE, UC"

-- `maxphyaddr=36 277=7040600070406`
abbrev pub width_and_pat : Supplied
width_and_pat = record { width = Some 36; registers = (0x277, 0x0007040600070406) ∷ []; assumed = nothing_assumed; table = Each }

-- `maxphyaddr=36 0fe=d08 277=7040600070406`
abbrev pub words_for_kernels : Supplied
words_for_kernels = record { width = Some 36; registers = (0xfe, 0xd08) ∷ (0x277, 0x0007040600070406) ∷ []; assumed = nothing_assumed; table = Each }

-- of Linux 6.1, before its clock runs
abbrev pub early_log : Log
early_log = record { time = codes "0.000000"; since_4_3 = true }

-- examples/logs/ordinary-pc.xen.log
abbrev pub xen_log : List (List ℕ)
xen_log =
    codes "(XEN) MTRR default type: uncachable"
    ∷ codes "(XEN) MTRR fixed ranges enabled:"
    ∷ codes "(XEN)   00000-9ffff write-back"
    ∷ codes "(XEN)   a0000-bffff uncachable"
    ∷ codes "(XEN)   c0000-fffff write-protect"
    ∷ codes "(XEN) MTRR variable ranges enabled:"
    ∷ codes "(XEN)   0 base 000000000 mask f00000000 write-back"
    ∷ codes "(XEN)   1 base 100000000 mask f00000000 write-back"
    ∷ codes "(XEN)   2 base 200000000 mask fe0000000 write-back"
    ∷ codes "(XEN)   3 base 0e0000000 mask fe0000000 uncachable"
    ∷ codes "(XEN)   4 disabled"
    ∷ codes "(XEN)   5 disabled"
    ∷ codes "(XEN)   6 disabled"
    ∷ codes "(XEN)   7 disabled"
    ∷ []

-- the table of examples/logs/ordinary-pc.linux.log
abbrev pub linux_log : List (List ℕ)
linux_log =
    codes "[    0.000000] MTRR default type: uncachable"
    ∷ codes "[    0.000000] MTRR fixed ranges enabled:"
    ∷ codes "[    0.000000]   00000-9FFFF write-back"
    ∷ codes "[    0.000000]   A0000-BFFFF uncachable"
    ∷ codes "[    0.000000]   C0000-FFFFF write-protect"
    ∷ codes "[    0.000000] MTRR variable ranges enabled:"
    ∷ codes "[    0.000000]   0 base 000000000 mask F00000000 write-back"
    ∷ codes "[    0.000000]   1 base 100000000 mask F00000000 write-back"
    ∷ codes "[    0.000000]   2 base 200000000 mask FE0000000 write-back"
    ∷ codes "[    0.000000]   3 base 0E0000000 mask FE0000000 uncachable"
    ∷ codes "[    0.000000]   4 disabled"
    ∷ codes "[    0.000000]   5 disabled"
    ∷ codes "[    0.000000]   6 disabled"
    ∷ codes "[    0.000000]   7 disabled"
    ∷ []

-- `maxphyaddr=36 0fe=d08 277=7040600070406 208=0 .. 20f=0`
abbrev pub words_for_edk2 : Supplied
words_for_edk2 = record {
  width = Some 36;
  registers =
      (0xfe, 0xd08) ∷ (0x277, 0x0007040600070406) ∷ (0x208, 0) ∷ (0x209, 0) ∷ (0x20a, 0) ∷ (0x20b, 0) ∷ (0x20c, 0) ∷ (0x20d, 0) ∷ (0x20e, 0) ∷ (0x20f, 0) ∷ [];
  assumed = nothing_assumed;
  table = Each;
}
