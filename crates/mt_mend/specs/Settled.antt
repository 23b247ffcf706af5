-- Mended files whose pairs stay where they were, if that can be (own).
--     IsSettled file new settled       the settled file is as good as the mended one
--     IsPlaced tidying wishes file     it gives the wished types by the fewest pairs
--     IsWhyNot tidying wishes fault    why there is none
use Rattle.std.specs.Prelude.{◌≡◌, ℕ, ◌<◌, ◌≤◌, ◌⊎◌, List}
use Rattle.mt_regs.specs.Faults.{IsAccepted}
use Rattle.mt_regs.specs.PageTypes.{page_type}
use Rattle.mt_regs.specs.RegisterFile.{RegisterFile, page_count}
use Rattle.mt_tidy.specs.declared.fits.Tidied.{Tidied}
use Rattle.mt_tidy.specs.Tidied.{Tidying, tidying, valid_count}
use Rattle.mt_mend.specs.declared.wish.Wish.{Wish}
use Rattle.mt_mend.specs.declared.fault.MendFault.{MendFault}
use Rattle.mt_mend.specs.declared.fault.MendFault.TheVariants.{FixedRange}
use Rattle.mt_mend.specs.Mended.{IsMended, IsWhy}
use Rattle.mt_mend.specs.Wishes.{AreMetBelow, IsUnmet, wished_type}

-- the file is the mended one, or has no more valid pairs
abbrev pub IsNoLonger : Tidied → RegisterFile → Type 0
IsNoLonger new file = (file ≡ new.file) ⊎ (valid_count file ≤ new.used)

-- the file is accepted and gives each page the type that the mended one gives it
pub record IsAsGood (new : Tidied) (file : RegisterFile) : Type 0 where
  pub accepted : IsAccepted file
  pub types : (page : ℕ) → page < page_count new.file → page_type file page ≡ page_type new.file page
  pub no_longer : IsNoLonger new file

-- it differs from the old file in its pairs alone
pub record IsSettled (old : RegisterFile) (new : Tidied) (file : RegisterFile) : Type 0 where
  pub others : file ≡ record old { pairs = file.pairs }
  pub good : IsAsGood new file

-- The file differs in its fixed-range registers alone. They give the pages of fixed ranges their wished types.
pub record IsStart (f : RegisterFile) (wishes : List Wish) (start : RegisterFile) : Type 0 where
  pub fixed : start ≡ record f { fixed = start.fixed }
  pub met : AreMetBelow f wishes start

-- The file differs in its pairs and fixed-range registers alone, is accepted and gives each page its wished type. It has no more valid
-- pairs than a least list.
pub record IsPlaced (t : Tidying) (wishes : List Wish) (file : RegisterFile) : Type 0 where
  pub start : RegisterFile
  pub is_start : IsStart t.file wishes start
  pub least : Tidied
  pub mended : IsMended (tidying start t.chunk t.spare) wishes least
  pub others : file ≡ record t.file { pairs = file.pairs; fixed = file.fixed }
  pub accepted : IsAccepted file
  pub types : (page : ℕ) → page < page_count t.file → page_type file page ≡ wished_type t.file wishes page
  pub fewest : IsNoLonger least file

-- a fixed range is to have several types
abbrev pub IsDivided : RegisterFile → List Wish → RegisterFile → MendFault → Type 0
IsDivided f wishes start (FixedRange page) = IsUnmet f wishes start page
IsDivided f wishes start other = ⊥

-- why no file with some values of the fixed-range registers gives the wished types
abbrev pub IsWhyNot : Tidying → List Wish → MendFault → Type 0
IsWhyNot t wishes fault =
    (start : RegisterFile) × (start ≡ record t.file { fixed = start.fixed })
    × (IsWhy (tidying start t.chunk t.spare) wishes fault ⊎ IsDivided t.file wishes start fault)
