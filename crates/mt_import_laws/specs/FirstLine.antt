-- The format that `auto` takes, and outcomes that differ in their reasons alone (own).
--     TakesMost text      no more lines of another format than of the one that is taken show registers
--     takes lines      the format that is taken of a text of these lines
--     ComeToSame a b      two outcomes agree but for their reasons
--     IsOfNoHost line      journalctl or syslog didn't write the line
use Rattle.std.specs.Prelude.{ℕ, ◌≡◌, ◌≢◌, ◌≤◌, codes, false, List, Option, Some, None}
use Rattle.mt_text.specs.Text.{words_of}
use Rattle.mt_text.specs.Words.{text_of}
use Rattle.mt_import.specs.declared.format.Choice.TheVariants.{Auto}
use Rattle.mt_import.specs.declared.format.Format.{Format}
use Rattle.mt_import.specs.declared.format.Format.TheVariants.{Plain}
use Rattle.mt_import.specs.Census.{census_after, census_of, format_of, lines_in, no_census, taken}
use Rattle.mt_import.specs.Outcome.{Outcome}
use Rattle.mt_import.specs.Pieces.{is_text}

-- how many lines of a log are of this format and show registers
abbrev pub lines_of_format : List ℕ → Format → ℕ
lines_of_format text format = lines_in (census_of text) format

-- No more lines of another format than of the one that is taken show registers, `plain` aside. If none is taken, no line of another shows one.
pub record TakesMost (text : List ℕ) : Type 0 where
  pub most : (format other : Format) → format_of Auto text ≡ Some format → other ≢ Plain → lines_of_format text other ≤ lines_of_format text format
  pub untold : (other : Format) → format_of Auto text ≡ None → other ≢ Plain → lines_of_format text other ≡ 0

abbrev pub takes : List (List ℕ) → Option Format
takes lines = taken (census_after no_census 1 lines)

pub record ComeToSame (a b : Outcome) : Type 0 where
  pub notes : a.notes ≡ b.notes
  pub dump : a.dump ≡ b.dump
  pub status : a.status ≡ b.status

-- A date and a host stand in front of `kernel:`, three words or five with it. What stands behind would be a kernel's line.
pub record IsOfNoHost (line : List ℕ) : Type 0 where
  pub third : is_text (codes "kernel:") (text_of (words_of line) 2) ≡ false
  pub fifth : is_text (codes "kernel:") (text_of (words_of line) 4) ≡ false
