-- The files with which the processors of one system begin (own).
--     has_each cpus dump      version 1 has one file for all processors, and version 2 is to have as many files as there are processors
--     files_for cpus dump      the file of each processor, in order
use Rattle.std.specs.Prelude.{ℕ, ◌==◌, ◌||◌, not, Bool, List, length, replicate, if◌then◌else◌}
use Rattle.mt_regs.specs.RegisterFile.{RegisterFile}
use Rattle.mt_dump.specs.Dumps.{Dump, first_file}

abbrev pub has_each : ℕ → Dump → Bool
has_each cpus dump = not (dump.version == 2) || length dump.files == cpus

abbrev pub files_for : ℕ → Dump → List RegisterFile
files_for cpus dump = if dump.version == 2 then dump.files else replicate cpus (first_file dump)
