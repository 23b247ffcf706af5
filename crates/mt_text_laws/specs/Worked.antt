-- A worked file.
use Rattle.mt_regs.specs.RegisterFile.{RegisterFile, blank_file}

-- write combining, no pairs and no fixed ranges
abbrev pub two_registers_file : RegisterFile
two_registers_file = record (blank_file 36 0x400) { default_type = 0xc00 }
