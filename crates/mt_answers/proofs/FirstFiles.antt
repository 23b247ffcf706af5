-- Processor 0's file of a dump.
use Rattle.std.proofs.Common.{◌≡◌, ◌<◌, List, [], ◌∷◌, length, None, arith}
use Rattle.std.specs.List.{All}
use Rattle.std.proofs.lemmas.List.Elements.{All-from_recursion, All-head}
use Rattle.mt_regs.specs.RegisterFile.{IsRegisterFile, RegisterFile}
use Rattle.mt_regs.specs.Faults.{IsAccepted}
use Rattle.mt_regs.specs.Agreement.{first_refusal}
use Rattle.mt_regs.proofs.FirstOnes.{is_first_refusal}
use Rattle.mt_dump.specs.Dumps.{Dump, IsDump, first_file, first_of}

-- what holds of each file holds of processor 0's
of_first : (P : RegisterFile → Type 0) (files : List RegisterFile) → 0 < length files → All P files → P (first_of files)
of_first P [] some all = absurd (omega arith)
of_first P (f ∷ fs) some all = All-head P f fs all

pub first_is_file : (dump : Dump) → IsDump dump → IsRegisterFile (first_file dump)
first_is_file dump is = of_first IsRegisterFile dump.files is.some (All-from_recursion IsRegisterFile dump.files is.are_files)

each_accepted : (files : List RegisterFile) → first_refusal files ≡ None → All IsAccepted files
each_accepted files none = let law = is_first_refusal files in rw none at law

pub first_is_accepted : (dump : Dump) → IsDump dump → first_refusal dump.files ≡ None → IsAccepted (first_file dump)
first_is_accepted dump is none = of_first IsAccepted dump.files is.some (each_accepted dump.files none)
