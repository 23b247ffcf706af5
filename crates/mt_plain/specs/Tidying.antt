-- A tidied file as C's plain words (own).
use Rattle.std.specs.Prelude.{◌≡◌, ◌⊎◌, ℕ, ◌-◌, true}
use Rattle.mt_plain.specs.declared.plain.PlainNeed.{PlainNeed}
use Rattle.mt_plain.specs.declared.plain.PlainRegisters.{PlainRegisters}
use Rattle.mt_plain.specs.Plain.{file_in, is_file}
use Rattle.mt_regs.specs.RegisterFile.{pair_count}
use Rattle.mt_tidy.specs.declared.faults.TidyFault.{TidyFault}
use Rattle.mt_tidy.specs.declared.faults.TidyFault.TheVariants.{Refused, Disabled, TooFew}
use Rattle.mt_tidy.specs.Kept.{IsTidy, IsWhy}
use Rattle.mt_tidy.specs.Tidied.{Tidying}

-- all that the call may write
pub record TidyPlaces : Type 0 where
  pub file : PlainRegisters
  pub need : PlainNeed

abbrev pub tidy_places : PlainRegisters → PlainNeed → TidyPlaces
tidy_places file need = record { file = file; need = need }

-- 1 a fault, 9 the ranges are off, 10 too few pairs
abbrev pub why_status : TidyFault → ℕ
why_status (Refused fault) = 1
why_status Disabled = 9
why_status (TooFew needs has) = 10

abbrev pub need_words : TidyFault → PlainNeed → PlainNeed
need_words (Refused fault) old = old
need_words Disabled old = old
need_words (TooFew needs has) old = record { needs = needs; has = has }

-- the words are those of a tidied file, with the number of its valid pairs
pub record IsDone (t : Tidying) (status : ℕ) (new : TidyPlaces) : Type 0 where
  pub status_is : status ≡ 0
  pub words : is_file new.file ≡ true
  pub tidy : IsTidy t (record { file = file_in new.file; used = new.need.needs })
  pub has_is : new.need.has ≡ pair_count t.file - t.spare

-- there is a reason for which nothing is tidied: both numbers of TooFew are written, and nothing else is
pub record IsLeft (t : Tidying) (status : ℕ) (old new : TidyPlaces) : Type 0 where
  pub fault : TidyFault
  pub why : IsWhy t fault
  pub status_is : status ≡ why_status fault
  pub same : new.file ≡ old.file
  pub need_is : new.need ≡ need_words fault old.need

abbrev pub IsTidyAnswer : Tidying → ℕ → TidyPlaces → TidyPlaces → Type 0
IsTidyAnswer t status old new = IsDone t status new ⊎ IsLeft t status old new
