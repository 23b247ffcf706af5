-- The files of several processors come back.
use Rattle.std.proofs.Common.{◌≡◌, ◌∙◌, ◌-◌, ◌<◌, ℕ, zero, suc, false, List, [], ◌∷◌, ◌++◌, length, None, Some, refl, sym, ap, subst, arith, inl}
use Rattle.std.specs.Prelude.{◌⊎◌}
use Rattle.std.specs.List.{AllByRecursion}
use Rattle.mt_text.specs.Text.{lines_of}
use Rattle.mt_regs.specs.RegisterFile.{IsRegisterFile, RegisterFile, blank_file}
use Rattle.mt_regs.specs.Registers.{IsWithin}
use Rattle.mt_regs.specs.Words.{HasWords}
use Rattle.mt_dump.specs.Canon.{ended}
use Rattle.mt_dump.specs.Dumps.{IsDump, first_of}
use Rattle.mt_import.specs.declared.format.Choice.TheVariants.{Only}
use Rattle.mt_import.specs.declared.format.Format.{Format}
use Rattle.mt_import.specs.Readings.{Fact, starts}
use Rattle.mt_import.specs.Shown.{facts_from}
use Rattle.mt_import.specs.Slot.{all_bits}
use Rattle.mt_import.specs.Supplied.{Supplied}
use Rattle.mt_import.specs.Outcome.{nothing_seen, facts_outcome, processors, version_of}
use Rattle.mt_import.specs.Import.{log_outcome}
use Rattle.mt_import_laws.specs.Printed.{Agrees, Key, ReadsAs, dump_of_all}
use Rattle.mt_import_laws.proofs.Back.{HasWidth, first_files}
use Rattle.mt_import_laws.proofs.Keys.{within_alike}
use Rattle.mt_import_laws.proofs.PrintedBack.{IsGiven, IsInFile, fact_back, gathered, gathered_seen, values_back}
use Rattle.mt_import_laws.proofs.TableLines.{HasOwn, gathers}
use Rattle.mt_import_laws.proofs.Whole.{AreAlike, IsSound, Prints, all_processors}

-- ---- a list of files

abbrev pub file_at : List RegisterFile → ℕ → RegisterFile
file_at [] k = blank_file 36 0
file_at (file ∷ files) zero = file
file_at (file ∷ files) (suc k) = file_at files k

pub each_at : (P : RegisterFile → Type 0) (files : List RegisterFile) (k : ℕ) → k < length files → AllByRecursion P files → P (file_at files k)
each_at P [] k less all = absurd (omega (arith, less))
each_at P (file ∷ files) zero less all = all.0
each_at P (file ∷ files) (suc k) less all = each_at P files k (omega (arith, less)) all.1

pub first_at : (files : List RegisterFile) → file_at files 0 ≡ first_of files
first_at [] = refl
first_at (file ∷ files) = refl

from_first : (files : ℕ → RegisterFile) (n : ℕ) → first_files files (suc n) ≡ files 0 ∷ first_files (λ k. files (suc k)) n
from_first files zero = refl
from_first files (suc n) = ap (λ fs. fs ++ files (suc n) ∷ []) (from_first files n)

all_files : (files : List RegisterFile) → first_files (file_at files) (length files) ≡ files
all_files [] = refl
all_files (file ∷ files) = from_first (file_at (file ∷ files)) (length files) ∙ ap (λ fs. file ∷ fs) (all_files files)

-- those of a dump
pub are_alike : (files : List RegisterFile) → IsDump (dump_of_all files) → AreAlike (file_at files) (length files)
are_alike files is = record {
  some = let some = is.some in omega (arith, some);
  few = is.few;
  is_file = λ k less. each_at IsRegisterFile files k less is.are_files;
  widths = λ k less. each_at (λ file. file.width ≡ (first_of files).width) files k less is.one_width ∙ ap (λ (file : RegisterFile). file.width) (sym (first_at files));
  capabilities = λ k less. each_at (λ file. file.capabilities ≡ (first_of files).capabilities) files k less is.one_capabilities ∙ ap (λ (file : RegisterFile). file.capabilities) (sym (first_at files));
}

-- the first file has the registers of each
pub in_each : (files : List RegisterFile) (k : ℕ) → IsDump (dump_of_all files) → k < length files → (key : Key) → IsInFile (first_of files) key → IsInFile (file_at files k) key
in_each files k is less None within = tt
in_each files k is less (Some register) within =
    let alike = are_alike files is in
    within_alike (file_at files 0) (file_at files k) register (alike.is_file 0 alike.some) (alike.is_file k less) (alike.capabilities k less) (subst (λ file. IsWithin file register) (sym (first_at files)) within)

pub in_first : (files : List RegisterFile) (k : ℕ) → IsDump (dump_of_all files) → k < length files → (key : Key) → IsInFile (file_at files k) key → IsInFile (first_of files) key
in_first files k is less None within = tt
in_first files k is less (Some register) within =
    let alike = are_alike files is in
    subst (λ file. IsWithin file register) (first_at files)
    (within_alike (file_at files k) (file_at files 0) register (alike.is_file k less) (alike.is_file 0 alike.some) (sym (alike.capabilities k less)) within)

-- ---- lines that show their registers

module _ (format : Format) (prints : Prints) (supplied : Supplied) (files : List RegisterFile) (is : IsDump (dump_of_all files)) (words : AllByRecursion HasWords files) (agrees : AllByRecursion (Agrees supplied) files)
    (facts : List Fact) (sound : AllByRecursion (IsSound (file_at files) (length files) prints) facts) where
  each_word : (k : ℕ) → k < length files → HasWords (file_at files k)
  each_word k less = each_at HasWords files k less words

  -- a reading of the last processor
  counted : ((k : ℕ) → k < length files → HasOwn k None all_bits facts) → processors (gathered format facts).readings ≡ length files
  counted first =
      let some = is.some in
      let less : length files - 1 < length files = omega (arith, some) in
      let last = first (length files - 1) less in
      let own = last.own in
      all_processors (file_at files) (length files) prints (are_alike files is) (gathered format facts).readings last.reading
      (gathered_seen (file_at files) (length files) prints format supplied (are_alike files is) each_word facts sound).readings
      (gathers facts (nothing_seen (Some format)) last.reading (inl last.among)) (omega (arith, some, own))

  facts_as : HasWidth (first_of files) supplied facts → ((k : ℕ) → k < length files → HasOwn k None all_bits facts)
      → ((k : ℕ) → k < length files → (key : Key) → IsInFile (file_at files k) key → HasOwn k key all_bits facts ⊎ IsGiven supplied (file_at files k) key)
      → ReadsAs (facts_outcome false supplied (nothing_seen (Some format)) facts) (dump_of_all files)
  facts_as width first all =
      subst (λ fs. ReadsAs (facts_outcome false supplied (nothing_seen (Some format)) facts) (record { version = version_of (length files); files = fs })) (all_files files)
      (values_back (file_at files) (length files) prints format supplied (are_alike files is) each_word facts sound (λ k less. each_at (Agrees supplied) files k less agrees)
      (subst (λ file. HasWidth file supplied facts) (sym (first_at files)) width) (counted first)
      (λ k less key within. fact_back (file_at files) (length files) prints format supplied (are_alike files is) each_word facts sound k less key within (all k less key within)))

-- a text of such lines
pub several_back : (format : Format) (prints : Prints) (supplied : Supplied) (files : List RegisterFile) → IsDump (dump_of_all files) → AllByRecursion HasWords files → AllByRecursion (Agrees supplied) files
    → (lines : List (List ℕ)) → lines_of (ended lines) ≡ lines → AllByRecursion (IsSound (file_at files) (length files) prints) (facts_from (starts (Some format)) 1 lines)
    → HasWidth (first_of files) supplied (facts_from (starts (Some format)) 1 lines)
    → ((k : ℕ) → k < length files → HasOwn k None all_bits (facts_from (starts (Some format)) 1 lines))
    → ((k : ℕ) → k < length files → (key : Key) → IsInFile (file_at files k) key → HasOwn k key all_bits (facts_from (starts (Some format)) 1 lines) ⊎ IsGiven supplied (file_at files k) key)
    → ReadsAs (log_outcome (Only format) supplied (ended lines)) (dump_of_all files)
several_back format prints supplied files is words agrees lines same sound width first all =
    subst (λ ls. ReadsAs (facts_outcome false supplied (nothing_seen (Some format)) (facts_from (starts (Some format)) 1 ls)) (dump_of_all files)) (sym same)
    (facts_as format prints supplied files is words agrees (facts_from (starts (Some format)) 1 lines) sound width first all)
