-- What is kept of a log while the format that is taken isn't known (own).
--     LeadsBest supplied readers census number course      what the lines that follow lead to
use Rattle.std.specs.Prelude.{ℕ, ◌≡◌, true, List, Option, Some, None, Result, Ok, Err}
use Rattle.mt_text.specs.Reader.{Course}
use Rattle.mt_text.specs.declared.place.Place.{Place}
use Rattle.mt_import.specs.declared.format.Format.{Format}
use Rattle.mt_import.specs.declared.format.Format.TheVariants.{Rdmsr, X86info, Inteltool, Coreboot, Edk2, Linux, Xen, Chipsec, Windbg, Plain}
use Rattle.mt_import.specs.declared.shape.Census.{Census}
use Rattle.mt_import.specs.declared.shape.Failure.{Failure}
use Rattle.mt_import.specs.declared.shape.Pick.{Pick}
use Rattle.mt_import.specs.Census.{beside, census_after, passed_over, taken}
use Rattle.mt_import.specs.Import.{failed}
use Rattle.mt_import.specs.Outcome.{Outcome}
use Rattle.mt_import.specs.Supplied.{Supplied}
use Rattle.mt_import.specs.Tries.{LeadsTo, TriesSeen}

pub record AllTries : Type 0 where
  pub none : TriesSeen
  pub xen : TriesSeen
  pub linux : TriesSeen
  pub coreboot : TriesSeen
  pub edk2 : TriesSeen
  pub inteltool : TriesSeen
  pub x86info : TriesSeen
  pub rdmsr : TriesSeen
  pub chipsec : TriesSeen
  pub windbg : TriesSeen
  pub plain : TriesSeen

abbrev pub tries_in : AllTries → Option Format → TriesSeen
tries_in readers None = readers.none
tries_in readers (Some Xen) = readers.xen
tries_in readers (Some Linux) = readers.linux
tries_in readers (Some Coreboot) = readers.coreboot
tries_in readers (Some Edk2) = readers.edk2
tries_in readers (Some Inteltool) = readers.inteltool
tries_in readers (Some X86info) = readers.x86info
tries_in readers (Some Rdmsr) = readers.rdmsr
tries_in readers (Some Chipsec) = readers.chipsec
tries_in readers (Some Windbg) = readers.windbg
tries_in readers (Some Plain) = readers.plain

-- the answer of the format that is taken, with what is told in front
abbrev pub settled : Pick → List ℕ → Result Outcome Failure → Result Outcome Outcome
settled pick front (Ok told) = Ok (beside front told)
settled pick front (Err failed_by) = Err (beside front (failed pick failed_by))

-- The lines that follow, of which the first has this number, lead in each format to something, and to what they lead to in the one that is taken.
pub record LeadsBest (supplied : Supplied) (readers : AllTries) (census : Census) (number : ℕ) (course : Course (Result Outcome Outcome)) : Type 0 where
  pub courses : Option Format → Course (Result Outcome Failure)
  pub each : (format : Option Format) → LeadsTo true supplied (tries_in readers format) number (courses format)
  pub leads : (lines : List (List ℕ)) (end : Place) → let last = census_after census number lines in
      course lines end ≡ settled supplied.table (passed_over last) (courses (taken last) lines end)
