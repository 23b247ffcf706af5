-- What lines of a log warn of, and where it is told (own).
--     facts_read choice supplied text      what is read of a log
--     TellsWarnings choice supplied text      what lines warn of is told at every status, and nothing else
use Rattle.std.specs.Prelude.{ℕ, ◌≡◌, ◌≢◌, ◌⊎◌, ◌+◌, ⊤, true, false, List, [], ◌∷◌, ◌++◌, length, if◌then◌else◌, Option, Some, None, is_some, IsSome}
use Rattle.mt_ports.specs.declared.status.Status.TheVariants.{BadText, Done, Refused}
use Rattle.mt_text.specs.Text.{is_too_long, lines_of}
use Rattle.mt_import.specs.declared.format.Choice.{Choice}
use Rattle.mt_import.specs.declared.format.Format.{Format}
use Rattle.mt_import.specs.declared.reading.LineSays.TheVariants.{Nothing}
use Rattle.mt_import.specs.Readings.{Fact, is_register_value, is_warning}
use Rattle.mt_import.specs.Census.{format_of, front_of}
use Rattle.mt_import.specs.Shown.{is_auto, said_by_line, unmarked, shown}
use Rattle.mt_import.specs.Outcome.{Seen, advice_of, count_line, fact_fault, facts_fault, fault_line, findings_of, missing_of, nothing_seen, seen_with}
use Rattle.mt_import_laws.specs.Origins.{IsAmong, seen_of}
use Rattle.mt_import.specs.declared.fault.ImportFault.{ImportFault}
use Rattle.mt_import.specs.declared.shape.Reading.{Reading}
use Rattle.mt_import.specs.declared.shape.Warned.{Warned}
use Rattle.mt_import.specs.declared.shape.Warning.{Warning}
use Rattle.mt_import.specs.declared.shape.Warning.TheVariants.{MemoryBits}
use Rattle.mt_import.specs.Import.{log_outcome}
use Rattle.mt_import.specs.Supplied.{Supplied}
use Rattle.mt_import.specs.Warnings.{has_memory_bits, line_warned, warning_lines, warning_of}

-- a line says nothing in a format, where one is known
abbrev pub SaysNothing : Option Format → ℕ → List ℕ → Type 0
SaysNothing None number line = ⊤
SaysNothing (Some format) number line = said_by_line format number (unmarked line) ≡ Nothing

-- A line of the log warns of this by its words. It is read whole, and says nothing else in the log's format.
pub record HasWarning (choice : Choice) (text : List ℕ) (warning : Warning) : Type 0 where
  pub before : List (List ℕ)
  pub line : List ℕ
  pub others : List (List ℕ)
  pub lines : lines_of text ≡ before ++ line ∷ others
  pub warns : warning_of (unmarked line) ≡ Some warning
  pub short : is_too_long line ≡ false
  pub alone : SaysNothing (format_of choice text) (1 + length before) line

-- The line of this number warns of this, by its words or by what it shows of a register.
pub data AreWarning (facts : List Fact) (warning : Warning) (number : ℕ) : Type 0 where
  by_words : IsAmong (is_warning warning number) facts → AreWarning facts warning number
  by_register : (reading : Reading) → IsAmong (is_register_value reading) facts → has_memory_bits reading ≡ true → MemoryBits ≡ warning → reading.place.line ≡ number
      → AreWarning facts warning number

abbrev pub IsWarned : Choice → List ℕ → Warning → ℕ → Type 0
IsWarned choice text warning number = AreWarning (shown (format_of choice text) text) warning number

-- the facts before the first fault
abbrev pub read_of : Supplied → Seen → List Fact → List Fact
read_of supplied seen [] = []
read_of supplied seen (fact ∷ facts) = if is_some (fact_fault supplied seen fact) then [] else fact ∷ read_of supplied (seen_with seen fact) facts

-- What is read of a log: all that its lines show, or else what they show before the first fault.
abbrev pub facts_read : Choice → Supplied → List ℕ → List Fact
facts_read choice supplied text = read_of supplied (nothing_seen (format_of choice text)) (shown (format_of choice text) text)

-- what stands on standard error in front of warnings and behind them
pub data AreAround (choice : Choice) (supplied : Supplied) (text : List ℕ) (before others : List ℕ) : Type 0 where
  beside_dump : (log_outcome choice supplied text).status ≡ Done → before ≡ front_of choice text ++ (if is_auto choice then count_line (seen_of choice text).tally else []) → others ≡ []
      → AreAround choice supplied text before others
  beside_missing : (log_outcome choice supplied text).status ≡ Refused → before ≡ front_of choice text ++ count_line (seen_of choice text).tally → (advice : List ℕ)
      → others ≡ missing_of supplied (findings_of (seen_of choice text)) ++ advice
      → (advice ≡ []) ⊎ (advice ≡ advice_of (is_auto choice) supplied (findings_of (seen_of choice text)))
      → AreAround choice supplied text before others
  beside_fault : (log_outcome choice supplied text).status ≡ BadText → before ≡ front_of choice text → (fault : ImportFault)
      → facts_fault supplied (nothing_seen (format_of choice text)) (shown (format_of choice text) text) ≡ Some fault → others ≡ fault_line fault
      → AreAround choice supplied text before others

-- At every status reasons have a line for each kind of warning that what is read has, with the number of such a line, in the order of the kinds, and no
-- other. The texts around them are given too. Without a fault all is read.
pub record TellsWarnings (choice : Choice) (supplied : Supplied) (text : List ℕ) : Type 0 where
  pub warned : Warned
  pub before : List ℕ
  pub others : List ℕ
  pub reasons_are : (log_outcome choice supplied text).reasons ≡ before ++ (warning_lines warned ++ others)
  pub around : AreAround choice supplied text before others
  pub only : (warning : Warning) (number : ℕ) → line_warned warned warning ≡ Some number → AreWarning (facts_read choice supplied text) warning number
  pub each : (warning : Warning) (number : ℕ) → AreWarning (facts_read choice supplied text) warning number → IsSome (line_warned warned warning)
  pub all : (log_outcome choice supplied text).status ≢ BadText → facts_read choice supplied text ≡ shown (format_of choice text) text
