-- The value of a dump: its version and a file for each processor, or in version 1 one for all (own).
--     dump_of file      version 1 with this file
--     IsDump dump      what every dump keeps
use Rattle.std.specs.Prelude.{ℕ, ◌≡◌, ◌≤◌, ◌<◌, ◌⊎◌, List, [], ◌∷◌, length}
use Rattle.std.specs.List.{AllByRecursion}
use Rattle.mt_regs.specs.RegisterFile.{RegisterFile, IsRegisterFile, blank_file}

pub record Dump : Type 0 where
  pub version : ℕ
  pub files : List RegisterFile  -- processor 0's first

abbrev pub dump_of : RegisterFile → Dump
dump_of file = record { version = 1; files = file ∷ [] }

-- the first of some files
abbrev pub first_of : List RegisterFile → RegisterFile
first_of [] = blank_file 36 0
first_of (file ∷ files) = file

-- processor 0's file
abbrev pub first_file : Dump → RegisterFile
first_file dump = first_of dump.files

-- what every dump keeps
pub record IsDump (dump : Dump) : Type 0 where
  pub known : (dump.version ≡ 1) ⊎ (dump.version ≡ 2)
  pub one : dump.version ≡ 1 → length dump.files ≡ 1
  pub some : 0 < length dump.files
  pub few : length dump.files ≤ 16
  pub are_files : AllByRecursion IsRegisterFile dump.files
  pub one_width : AllByRecursion (λ file. file.width ≡ (first_file dump).width) dump.files
  pub one_capabilities : AllByRecursion (λ file. file.capabilities ≡ (first_file dump).capabilities) dump.files
