-- The files of a dump with which processors begin.
use Rattle.std.proofs.Common.{◌≡◌, ◌<◌, ◌==◌, Bool, true, false, ℕ, zero, suc, List, None, refl, arith}
use Rattle.std.specs.Prelude.{if◌then◌else◌, replicate}
use Rattle.std.specs.List.{All}
use Rattle.mt_regs.specs.RegisterFile.{RegisterFile}
use Rattle.mt_regs.specs.Faults.{IsAccepted}
use Rattle.mt_regs.specs.Agreement.{first_refusal}
use Rattle.mt_regs.proofs.FirstOnes.{is_first_refusal}
use Rattle.mt_dump.specs.Dumps.{Dump, first_file, first_of}
use Rattle.mt_dump.specs.ForProcessors.{files_for}

pub each_accepted : (files : List RegisterFile) → first_refusal files ≡ None → All IsAccepted files
each_accepted files none = let law = is_first_refusal files in rw none at law

first_copy : (cpus : ℕ) (f : RegisterFile) → 0 < cpus → first_of (replicate cpus f) ≡ f
first_copy zero f some = absurd (omega arith)
first_copy (suc n) f some = refl

-- processor 0 begins with the first file
pub first_for : (cpus : ℕ) (dump : Dump) → 0 < cpus → first_of (files_for cpus dump) ≡ first_file dump
first_for cpus dump some = by (dump.version == 2)
  where
    by : (test : Bool) → first_of (if test then dump.files else replicate cpus (first_file dump)) ≡ first_file dump
    by true = refl
    by false = first_copy cpus (first_file dump) some
