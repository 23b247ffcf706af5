-- A file that gives wished types, and why there is none (own).
--     IsMended tidying wishes new      what mending returns
--     IsWhy tidying wishes fault       why it returns nothing
use Rattle.std.specs.Prelude.{◌≡◌, ℕ, ◌<◌, ◌≤◌, true, false, List, length, replicate, None, Some}
use Rattle.std.specs.List.{All}
use Rattle.mt_regs.specs.Faults.{IsAccepted, register_fault}
use Rattle.mt_regs.specs.PageTypes.{page_type}
use Rattle.mt_regs.specs.RegisterFile.{RegisterFile, is_enabled, page_count, pair_count}
use Rattle.mt_tidy.specs.declared.fits.Tidied.{Tidied}
use Rattle.mt_tidy.specs.Tidied.{IsTidied, IsTooFew, Tidying, tidying}
use Rattle.mt_types.specs.declared.run.Run.{Run}
use Rattle.mt_mend.specs.declared.fault.MendFault.{MendFault}
use Rattle.mt_mend.specs.declared.fault.MendFault.TheVariants.{TooManyWishes, Wish as WishAtFault, Refused, Disabled, FixedRange, Undefined, TooFew}
use Rattle.mt_mend.specs.declared.wish.Wish.{Wish}
use Rattle.mt_mend.specs.Wishes.{AreMetBelow, AreWished, IsFirstWishFault, IsUnmet, IsWish, can_give, wished_type}

-- the file with zeros in its pairs
abbrev pub bare_file : RegisterFile → RegisterFile
bare_file f = record f { pairs = replicate (pair_count f) (0, 0) }

-- what is asked for, of the file with zeros in its pairs
abbrev pub bare : Tidying → Tidying
bare t = tidying (bare_file t.file) t.chunk t.spare

-- few wishes, none of them at fault
pub record AreWishes (f : RegisterFile) (wishes : List Wish) : Type 0 where
  pub few : length wishes ≤ 64
  pub each : All (IsWish f) wishes

-- the wishes are for a file whose range registers are on, and none of whose registers is at fault by itself
pub record IsReady (f : RegisterFile) (wishes : List Wish) : Type 0 where
  pub are_wishes : AreWishes f wishes
  pub checked : register_fault f ≡ None
  pub enabled : is_enabled f ≡ true

-- each page is to have a type of the processor
abbrev pub AreGiven : RegisterFile → List Wish → Type 0
AreGiven f wishes = (page : ℕ) → page < page_count f → can_give f (wished_type f wishes page) ≡ true

-- The file differs in its pairs alone, is accepted and gives the wished types. Its pairs are a least list for the map of these types.
pub record IsMended (t : Tidying) (wishes : List Wish) (new : Tidied) : Type 0 where
  pub ready : IsReady t.file wishes
  pub met : AreMetBelow t.file wishes t.file
  pub given : AreGiven t.file wishes
  pub types : (page : ℕ) → page < page_count t.file → page_type new.file page ≡ wished_type t.file wishes page
  pub others : new.file ≡ record t.file { pairs = new.file.pairs }
  pub accepted : IsAccepted new.file
  pub wanted : List Run
  pub map : AreWished t.file wishes wanted
  pub tidied : IsTidied (bare t) wanted new

-- the wished types need more pairs than may be used
pub record NeedsMore (t : Tidying) (wishes : List Wish) (needs has : ℕ) : Type 0 where
  pub ready : IsReady t.file wishes
  pub given : AreGiven t.file wishes
  pub wanted : List Run
  pub map : AreWished t.file wishes wanted
  pub few : IsTooFew (bare t) wanted needs has

-- the page is the first that is to have no type, or one that the processor hasn't
pub record IsUndefined (f : RegisterFile) (wishes : List Wish) (page : ℕ) : Type 0 where
  pub ready : IsReady f wishes
  pub within : page < page_count f
  pub undefined : can_give f (wished_type f wishes page) ≡ false
  pub before : (other : ℕ) → other < page → can_give f (wished_type f wishes other) ≡ true

-- a fixed-range register gives the page another type than the wished one
pub record IsFixedOther (f : RegisterFile) (wishes : List Wish) (page : ℕ) : Type 0 where
  pub ready : IsReady f wishes
  pub unmet : IsUnmet f wishes f page

abbrev pub IsWhy : Tidying → List Wish → MendFault → Type 0
IsWhy t wishes TooManyWishes = 64 < length wishes
IsWhy t wishes (WishAtFault number fault) = (length wishes ≤ 64) × IsFirstWishFault t.file wishes number fault
IsWhy t wishes (Refused fault) = AreWishes t.file wishes × (register_fault t.file ≡ Some fault)
IsWhy t wishes Disabled = AreWishes t.file wishes × (register_fault t.file ≡ None) × (is_enabled t.file ≡ false)
IsWhy t wishes (FixedRange page) = IsFixedOther t.file wishes page
IsWhy t wishes (Undefined page) = IsUndefined t.file wishes page
IsWhy t wishes (TooFew needs has) = NeedsMore t wishes needs has
