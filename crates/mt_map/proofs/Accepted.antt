-- A dump all of whose files are accepted can be drawn, and its files are of one width.
use Rattle.std.proofs.Common.{◌≡◌, ◌<◌, ℕ, zero, suc, List, [], ◌∷◌, length, None, arith}
use Rattle.std.specs.Prelude.{slice_get, slice_index_or}
use Rattle.std.specs.List.{All, AllByRecursion}
use Rattle.std.proofs.lemmas.List.Elements.{All-cons, All-head, All-nil, All-tail}
use Rattle.mt_regs.specs.RegisterFile.{RegisterFile}
use Rattle.mt_regs.specs.Agreement.{first_refusal}
use Rattle.mt_regs.specs.Faults.{IsAccepted, register_fault}
use Rattle.mt_regs.proofs.FirstOnes.{is_first_refusal}
use Rattle.mt_dump.specs.Dumps.{Dump, IsDump, first_file, first_of}
use Rattle.mt_map.specs.Map.{CanBeDrawn, beside, listed, others}
use Rattle.mt_map.proofs.Drawable.{drawable_none}

of_first : (files : List RegisterFile) → 0 < length files → All (λ f. register_fault f ≡ None) files → register_fault (first_of files) ≡ None
of_first [] some all = absurd (omega arith)
of_first (f ∷ fs) some all = All-head (λ f. register_fault f ≡ None) f fs all

of_listed : (P : RegisterFile → Type 0) (files : List RegisterFile) (k : ℕ) → All P files → All P (listed (slice_get files k))
of_listed P [] k all = All-nil P
of_listed P (f ∷ fs) zero all = All-cons P f [] (All-head P f fs all) (All-nil P)
of_listed P (f ∷ fs) (suc k) all = of_listed P fs k (All-tail P f fs all)

pub accepted_can : (dump : Dump) → 0 < length dump.files → first_refusal dump.files ≡ None → CanBeDrawn dump
accepted_can dump some none = (of_first dump.files some good, of_listed (λ f. register_fault f ≡ None) dump.files (beside dump.files) good)
  where
    accepted : All IsAccepted dump.files
    accepted = let law = is_first_refusal dump.files in rw none at law

    good : All (λ f. register_fault f ≡ None) dump.files
    good k d within = drawable_none (slice_index_or dump.files k d) (accepted k d within)

listed_one : (P : RegisterFile → Type 0) (files : List RegisterFile) (k : ℕ) → AllByRecursion P files → All P (listed (slice_get files k))
listed_one P [] k all = All-nil P
listed_one P (f ∷ fs) zero all = All-cons P f [] all.0 (All-nil P)
listed_one P (f ∷ fs) (suc k) all = listed_one P fs k all.1

-- the second file's address space is as large
pub one_width : (dump : Dump) → IsDump dump → All (λ g. g.width ≡ (first_file dump).width) (others dump)
one_width dump is = listed_one (λ g. g.width ≡ (first_file dump).width) dump.files (beside dump.files) is.one_width
