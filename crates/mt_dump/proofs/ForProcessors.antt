-- The files of a dump are ones with which processors may begin.
use Rattle.std.proofs.Common.{◌≡◌, ℕ, ◌<◌, ◌==◌, ◌||◌, not, Bool, true, false, List, [], ◌∷◌, length, replicate, sym, ◌∙◌, arith}
use Rattle.std.specs.Prelude.{if◌then◌else◌}
use Rattle.std.specs.List.{All}
use Rattle.std.proofs.lemmas.Bool.{eqb-true}
use Rattle.std.proofs.lemmas.List.{length-replicate}
use Rattle.std.proofs.lemmas.List.Elements.{All-from_recursion, All-head}
use Rattle.mt_regs.specs.RegisterFile.{RegisterFile, IsRegisterFile}
use Rattle.mt_regs.specs.Faults.{IsAccepted}
use Rattle.mt_regs.specs.StartFiles.{AreStartFiles, SameKind}
use Rattle.mt_regs.proofs.StartFiles.{copies_start}
use Rattle.mt_dump.specs.Dumps.{Dump, IsDump, first_of, first_file}
use Rattle.mt_dump.specs.ForProcessors.{has_each, files_for}

pub first_holds : (P : RegisterFile → Type 0) (files : List RegisterFile) → 0 < length files → All P files → P (first_of files)
first_holds P [] some all = absurd (omega arith)
first_holds P (file ∷ files) some all = All-head P file files all

pub first_file_is : (dump : Dump) → IsDump dump → IsRegisterFile (first_file dump)
first_file_is dump is = first_holds IsRegisterFile dump.files is.some (All-from_recursion IsRegisterFile dump.files is.are_files)

-- each is of one kind with the first, and so with each other
one_kind : (dump : Dump) → IsDump dump → All (λ f. All (SameKind f) dump.files) dump.files
one_kind dump is = λ i d within j e inside. record {
  width = width i d within ∙ sym (width j e inside);
  capabilities = capabilities i d within ∙ sym (capabilities j e inside);
}
  where
    width : All (λ f. f.width ≡ (first_file dump).width) dump.files
    width = All-from_recursion (λ f. f.width ≡ (first_file dump).width) dump.files is.one_width

    capabilities : All (λ f. f.capabilities ≡ (first_file dump).capabilities) dump.files
    capabilities = All-from_recursion (λ f. f.capabilities ≡ (first_file dump).capabilities) dump.files is.one_capabilities

-- a file for each processor
pub sections_start : (dump : Dump) → IsDump dump → All IsAccepted dump.files → AreStartFiles dump.files
sections_start dump is accepted = record { each = All-from_recursion IsRegisterFile dump.files is.are_files; accepted = accepted; one_kind = one_kind dump is }

pub files_start : (cpus : ℕ) (dump : Dump) → IsDump dump → All IsAccepted dump.files → AreStartFiles (files_for cpus dump)
files_start cpus dump is accepted = by (dump.version == 2)
  where
    by : (sections : Bool) → AreStartFiles (if sections then dump.files else replicate cpus (first_file dump))
    by true = sections_start dump is accepted
    by false = copies_start cpus (first_file dump) (first_file_is dump is) (first_holds IsAccepted dump.files is.some accepted)

pub files_count : (cpus : ℕ) (dump : Dump) → has_each cpus dump ≡ true → length (files_for cpus dump) ≡ cpus
files_count cpus dump each = by (dump.version == 2) each
  where
    by : (sections : Bool) → (not sections || length dump.files == cpus) ≡ true → length (if sections then dump.files else replicate cpus (first_file dump)) ≡ cpus
    by true each = eqb-true (length dump.files) cpus each
    by false each = length-replicate cpus (first_file dump)
