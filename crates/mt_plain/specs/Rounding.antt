-- A rounded file as C's plain words (own).
use Rattle.std.specs.Prelude.{◌≡◌, ◌≤◌, ◌⊎◌, ℕ, ◌-◌, true, List, length, map}
use Rattle.mt_gran.specs.declared.fault.GranFault.{GranFault}
use Rattle.mt_gran.specs.declared.fault.GranFault.TheVariants as of_gran
use Rattle.mt_gran.specs.Grained.{IsGrained, IsWhy}
use Rattle.mt_gran.specs.Sizes.{IsGranuleSize}
use Rattle.mt_plain.specs.declared.plain.PlainLoss.{PlainLoss}
use Rattle.mt_plain.specs.declared.plain.PlainNeed.{PlainNeed}
use Rattle.mt_plain.specs.declared.plain.PlainRegisters.{PlainRegisters}
use Rattle.mt_plain.specs.declared.plain.PlainRun.{PlainRun}
use Rattle.mt_plain.specs.Maps.{map_status, overwritten, plain_run}
use Rattle.mt_plain.specs.Plain.{file_in, is_file}
use Rattle.mt_plain.specs.Tidying.{need_words, why_status}
use Rattle.mt_regs.specs.RegisterFile.{pair_count}
use Rattle.mt_tidy.specs.declared.faults.TidyFault.{TidyFault}
use Rattle.mt_tidy.specs.declared.faults.TidyFault.TheVariants.{Refused, Disabled, TooFew}
use Rattle.mt_tidy.specs.Tidied.{Tidying}
use Rattle.mt_types.specs.declared.run.Run.{Run}

-- all that the call may write
pub record Places : Type 0 where
  pub file : PlainRegisters
  pub need : PlainNeed
  pub loss : PlainLoss
  pub parts : List PlainRun

abbrev pub places : PlainRegisters → PlainNeed → PlainLoss → List PlainRun → Places
places file need loss parts = record { file = file; need = need; loss = loss; parts = parts }

-- the reason for which nothing is tidied that has the same words
abbrev pub as_tidy : GranFault → TidyFault
as_tidy (of_gran.Refused fault) = Refused fault
as_tidy of_gran.Disabled = Disabled
as_tidy (of_gran.TooFew needs has) = TooFew needs has

-- the words are those of a rounded file and of what is lost; the parts stand in the array, as far as it goes
pub record IsRounded (t : Tidying) (g status : ℕ) (old new : Places) : Type 0 where
  pub parts : List Run
  pub words : is_file new.file ≡ true
  pub grained : IsGrained t g (record { tidied = record { file = file_in new.file; used = new.need.needs }; lost = new.loss.pages; parts = parts })
  pub has_is : new.need.has ≡ pair_count t.file - t.spare
  pub count_is : new.loss.parts ≡ length parts
  pub few : new.loss.parts ≤ 306
  pub array : new.parts ≡ overwritten (map plain_run parts) old.parts
  pub status_is : status ≡ map_status (length old.parts) new.loss.parts

-- there is a reason for which nothing is rounded: both numbers of TooFew are written, and nothing else is
pub record IsUnrounded (t : Tidying) (g status : ℕ) (old new : Places) : Type 0 where
  pub fault : GranFault
  pub why : IsWhy t g fault
  pub status_is : status ≡ why_status (as_tidy fault)
  pub kept : new ≡ record old { need = need_words (as_tidy fault) old.need }

-- what is answered for granules of so many bytes
abbrev pub IsGranAnswer : Tidying → ℕ → ℕ → Places → Places → Type 0
IsGranAnswer t size status old new = (log : ℕ) → IsGranuleSize size log → IsRounded t log status old new ⊎ IsUnrounded t log status old new
