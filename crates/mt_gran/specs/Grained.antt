-- What rounding to granules answers: a file of the rounded types with the fewest pairs, and what is lost (own).
use Rattle.std.specs.Prelude.{◌≡◌, ℕ, ◌<◌, true, false, List, Some}
use Rattle.mt_regs.specs.RegisterFile.{RegisterFile, is_enabled, page_count}
use Rattle.mt_regs.specs.PageTypes.{page_type}
use Rattle.mt_regs.specs.Faults.{IsAccepted, IsFirstFault}
use Rattle.mt_types.specs.declared.run.Run.{Run}
use Rattle.mt_tidy.specs.Tidied.{IsTidied, IsTooFew, Tidying}
use Rattle.mt_tidy.specs.Wanted.{IsLeastFor}
use Rattle.mt_gran.specs.declared.fault.GranFault.{GranFault}
use Rattle.mt_gran.specs.declared.fault.GranFault.TheVariants.{Refused, Disabled, TooFew}
use Rattle.mt_gran.specs.declared.grains.Grained.{Grained}
use Rattle.mt_gran.specs.Granules.{AreRounded, lost_pages, pages_of, rounded_kind}
use Rattle.mt_gran.specs.Parts.{ArePartsOf}

-- The file differs in its pairs alone, which give the rounded types, and no list of ranges that gives them is shorter.
pub record IsGrained (t : Tidying) (g : ℕ) (new : Grained) : Type 0 where
  pub old_accepted : IsAccepted t.file
  pub enabled : is_enabled t.file ≡ true
  pub wanted : List Run
  pub rounded : AreRounded (pages_of t.file) g wanted
  pub tidied : IsTidied t wanted new.tidied
  pub kinds : (page : ℕ) → page < page_count t.file → page_type new.tidied.file page ≡ rounded_kind (pages_of t.file) g page
  pub stays : (page : ℕ) → page < page_count t.file → rounded_kind (pages_of new.tidied.file) g page ≡ page_type new.tidied.file page
  pub lost_is : new.lost ≡ lost_pages (pages_of t.file) g
  pub parts_are : ArePartsOf (pages_of t.file) g new.parts

-- the least length of an allowed list of ranges that gives the rounded types
pub record IsLeastRounded (f : RegisterFile) (g chunk count : ℕ) : Type 0 where
  pub wanted : List Run
  pub rounded : AreRounded (pages_of f) g wanted
  pub least : IsLeastFor f wanted chunk count

-- the least number of ranges that give the rounded types is above the number of pairs less those to spare
pub record NeedsMore (t : Tidying) (g needs has : ℕ) : Type 0 where
  pub accepted : IsAccepted t.file
  pub enabled : is_enabled t.file ≡ true
  pub wanted : List Run
  pub rounded : AreRounded (pages_of t.file) g wanted
  pub few : IsTooFew t wanted needs has

abbrev pub IsWhy : Tidying → ℕ → GranFault → Type 0
IsWhy t g (Refused fault) = IsFirstFault t.file (Some fault)
IsWhy t g Disabled = IsAccepted t.file × (is_enabled t.file ≡ false)
IsWhy t g (TooFew needs has) = NeedsMore t g needs has
