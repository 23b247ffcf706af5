-- Whether the files of several processors are accepted and equal, and the first that isn't (own).
use Rattle.std.specs.Prelude.{◌≡◌, ◌≢◌, ℕ, ◌+◌, ◌<◌, ◌==◌, Bool, not, List, [], ◌∷◌, take, Option, Some, None, slice_get}
use Rattle.std.specs.List.{All, find}
use Rattle.std.specs.Option.{option_map, option_or}
use Rattle.mt_regs.specs.declared.fault.Fault.{Fault}
use Rattle.mt_regs.specs.declared.registers.Register.{Register}
use Rattle.mt_regs.specs.RegisterFile.{RegisterFile}
use Rattle.mt_regs.specs.Registers.{number_of, value_at, value_of, writable}
use Rattle.mt_regs.specs.Faults.{IsAccepted, IsFirstFault}
use Rattle.mt_regs.specs.FirstFault.{first_fault}

-- the first file with an answer, by its number, and the answer, where the files are numbered from k on
abbrev pub first_from : {A : Type 0} → (RegisterFile → Option A) → ℕ → List RegisterFile → Option (ℕ × A)
first_from answer k [] = None
first_from answer k (f ∷ fs) = option_or (option_map (λ a. (k, a)) (answer f)) (first_from answer (k + 1) fs)

-- the least number of a file that isn't accepted, and its first fault
abbrev pub first_refusal : List RegisterFile → Option (ℕ × Fault)
first_refusal files = first_from first_fault 0 files

abbrev pub differs_in : RegisterFile → RegisterFile → Register → Bool
differs_in f g r = not (value_of f r == value_of g r)

-- the number of the first writable register in which two files differ
abbrev pub differing_register : RegisterFile → RegisterFile → Option ℕ
differing_register f g = option_map number_of (find (differs_in f g) (writable f))

-- the least number of a file that isn't the first one, and the first register in which it differs
abbrev pub first_difference : List RegisterFile → Option (ℕ × ℕ)
first_difference [] = None
first_difference (f ∷ fs) = first_from (differing_register f) 0 (f ∷ fs)

-- file k isn't accepted, by this fault, and each before it is
pub record IsFirstRefusal (files : List RegisterFile) (k : ℕ) (fault : Fault) : Type 0 where
  pub file : RegisterFile
  pub at : slice_get files k ≡ Some file
  pub refused : IsFirstFault file (Some fault)
  pub before : All IsAccepted (take k files)

-- File k differs from the first one at this number and at no lower one, and each before it is equal to the first.
pub record IsFirstDifference (files : List RegisterFile) (k number : ℕ) : Type 0 where
  pub first : RegisterFile
  pub first_at : slice_get files 0 ≡ Some first
  pub file : RegisterFile
  pub at : slice_get files k ≡ Some file
  pub differs : value_at file number ≢ value_at first number
  pub lower : (other : ℕ) → other < number → value_at file other ≡ value_at first other
  pub before : All (λ f. f ≡ first) (take k files)

-- each two files are equal
abbrev pub AreEqual : List RegisterFile → Type 0
AreEqual files = All (λ f. All (λ g. f ≡ g) files) files
