-- What the program writes for a command line and a log, and the status that it ends with (own).
--     log_outcome choice supplied text      the texts and the status for a log, of which all tables are read
--     tables_outcome choice supplied text      the same for those that words ask for
--     outcome_of words bytes      the same for a command line
--     output_of words bytes      one text and the status: the dump, or else the reasons
use Rattle.std.specs.Prelude.{ℕ, ◌≡◌, ◌≢◌, ◌<◌, ◌⊎◌, ◌↔◌, ◌++◌, Bool, List, [], codes, length, if◌then◌else◌, Option, Some, None, Result, Ok, Err, is_some, IsSome, ⊤}
use Rattle.std.specs.Option.{option_map_or}
use Rattle.std.specs.Io.KnownBytes.{Appends}
use Rattle.mt_text.specs.Text.{longest_input}
use Rattle.mt_text.specs.Feed.{GaveTooMuch}
use Rattle.mt_ports.specs.Causes.{Rose, StatusHasCause}
use Rattle.mt_ports.specs.Puts.{AppendsFront}
use Rattle.mt_ports.specs.declared.status.Status.{Status}
use Rattle.mt_ports.specs.declared.status.Status.TheVariants.{Done, Refused, Usage, BadText, ReadFault, WriteFault, NoMemory, TooLong, TooFew, Disabled}
use Rattle.mt_output.specs.Lines.{usage_line}
use Rattle.mt_output.specs.Ports.{Change, Held, Port, SinkRun, SourceRun, change, held, port}
use Rattle.mt_output.specs.Written.{Writes}
use Rattle.mt_shell.specs.Runs.{Commands}
use Rattle.mt_import.specs.declared.format.Choice.{Choice}
use Rattle.mt_import.specs.Census.{beside, format_of, front_of}
use Rattle.mt_import.specs.Shown.{is_auto, shown}
use Rattle.mt_import.specs.Help.{own_text}
use Rattle.mt_import.specs.Supplied.{Supplied, command_of}
use Rattle.mt_import.specs.declared.fault.ImportFault.{ImportFault}
use Rattle.mt_import.specs.declared.shape.Failure.{Failure}
use Rattle.mt_import.specs.declared.shape.Pick.{Pick}
use Rattle.mt_import.specs.declared.shape.Tables.{Tables}
use Rattle.mt_import.specs.declared.shape.Warned.{Warned}
use Rattle.mt_import.specs.LogTables.{facts_of_tables, has_picked, missing_table, table_hint, tables_of}
use Rattle.mt_import.specs.Readings.{Fact}
use Rattle.mt_import.specs.Outcome.{Outcome, Seen, ended, facts_fault, facts_outcome, faulted, is_empty, nothing_seen, refusal, seen_after, warned_till}

abbrev pub log_outcome : Choice → Supplied → List ℕ → Outcome
log_outcome choice supplied text =
    beside (front_of choice text) (facts_outcome (is_auto choice) supplied (nothing_seen (format_of choice text)) (shown (format_of choice text) text))

-- the outcome of these facts, where the log has the table that is asked for
abbrev pub closed : Bool → Supplied → Tables → Seen → Outcome
closed auto supplied tables seen = if has_picked supplied.table tables then ended auto supplied seen else refusal seen.tally (missing_table supplied.table tables)

abbrev pub failure : Tables → Warned → ImportFault → Failure
failure tables warned fault = record { stop = record { fault = fault; warned = warned }; tables = tables }

-- what facts of a log with these tables come to: the first fault, or the outcome behind them
abbrev pub log_answer : Bool → Supplied → Tables → Seen → List Fact → Result Outcome Failure
log_answer auto supplied tables start facts =
    option_map_or (λ fault. Err (failure tables (warned_till supplied start facts) fault)) (facts_fault supplied start facts) (Ok (closed auto supplied tables (seen_after start facts)))

abbrev pub failed : Pick → Failure → Outcome
failed pick failed_by = faulted failed_by.stop.fault failed_by.stop.warned (table_hint pick failed_by)

abbrev pub answered : Pick → Result Outcome Failure → Outcome
answered pick (Ok told) = told
answered pick (Err failed_by) = failed pick failed_by

abbrev pub tables_outcome : Choice → Supplied → List ℕ → Outcome
tables_outcome choice supplied text =
    beside (front_of choice text) (answered supplied.table
    (log_answer (is_auto choice) supplied (tables_of (format_of choice text) text) (nothing_seen (format_of choice text)) (facts_of_tables supplied.table (format_of choice text) text)))

abbrev pub own_outcome : List ℕ → Outcome
own_outcome text = record { notes = []; dump = text; reasons = []; status = Done }

abbrev pub usage_outcome : Outcome
usage_outcome = record { notes = []; dump = []; reasons = usage_line; status = Usage }

abbrev pub outcome_by : Option (List ℕ) → Option (Choice × Supplied) → List ℕ → Outcome
outcome_by (Some text) command bytes = own_outcome text
outcome_by None None bytes = usage_outcome
outcome_by None (Some command) bytes = tables_outcome command.0 command.1 bytes

abbrev pub outcome_of : List (List ℕ) → List ℕ → Outcome
outcome_of words bytes = outcome_by (own_text words) (command_of words) bytes

-- the dump behind its comments
abbrev pub dump_text : Outcome → List ℕ
dump_text texts = texts.notes ++ texts.dump

abbrev pub one_text : Outcome → List ℕ
one_text texts = if is_empty texts.dump then texts.reasons else dump_text texts

abbrev pub output_of : List (List ℕ) → List ℕ → List ℕ × Status
output_of words bytes = (one_text (outcome_of words bytes), (outcome_of words bytes).status)

-- without a command, and for the program's own texts, nothing is read
abbrev pub left_by : Option (List ℕ) → Option (Choice × Supplied) → List ℕ → List ℕ
left_by (Some text) command bytes = bytes
left_by None None bytes = bytes
left_by None (Some command) bytes = []

abbrev pub left_of : List (List ℕ) → List ℕ → List ℕ
left_of words bytes = left_by (own_text words) (command_of words) bytes

-- A status with which texts are written. The dump is empty unless the status is `Done`.
abbrev pub IsWritten : Status → List ℕ → Type 0
IsWritten Done dump = ⊤
IsWritten Refused dump = dump ≡ []
IsWritten Usage dump = dump ≡ []
IsWritten BadText dump = dump ≡ []
IsWritten ReadFault dump = ⊥
IsWritten WriteFault dump = ⊥
IsWritten NoMemory dump = ⊥
IsWritten TooLong dump = ⊥
IsWritten TooFew dump = ⊥
IsWritten Disabled dump = ⊥

-- the source failed, or gave too much
abbrev pub IsUnread : List ℕ → Status → Type 0
IsUnread bytes result = (result ≡ ReadFault) ⊎ ((result ≡ TooLong) × (longest_input < length bytes))

-- the output for the words and all bytes of the source was written, or nothing where the source failed or gave too much
pub data Imports (words : List (List ℕ)) (source : Held) (sink : Port) (result : Status) : Type 0 where
  told : source.left ≡ Some (left_of words source.bytes) → Writes (output_of words source.bytes).0 (output_of words source.bytes).1 sink.old sink.new result
      → Imports words source sink result
  unread : sink.new ≡ sink.old → IsUnread source.bytes result → Imports words source sink result

-- ---- the same with standard error apart

-- Reasons come first, and then the dump. Each sink took its text, and the status is that of the texts.
-- Or the sink of the reasons failed, and the other took nothing. Or it took all reasons, and the other failed.
abbrev pub WritesApart : Outcome → Port → Port → Status → Type 0
WritesApart texts out errors result =
    ((result ≡ texts.status) × Appends out.old out.new (dump_text texts) × Appends errors.old errors.new texts.reasons)
    ⊎ ((result ≡ WriteFault) × (out.new ≡ out.old) × AppendsFront errors.old errors.new texts.reasons)
    ⊎ ((result ≡ WriteFault) × AppendsFront out.old out.new (dump_text texts) × Appends errors.old errors.new texts.reasons)

pub data ImportsApart (words : List (List ℕ)) (source : Held) (out errors : Port) (result : Status) : Type 0 where
  told : source.left ≡ Some (left_of words source.bytes) → WritesApart (outcome_of words source.bytes) out errors result → ImportsApart words source out errors result
  unread : out.new ≡ out.old → errors.new ≡ errors.old → IsUnread source.bytes result → ImportsApart words source out errors result

-- One of two sinks failed, once, where the status is `WriteFault`; else none did. Each sink is given by its count of faults.
abbrev pub OneFailed : Change ℕ → Change ℕ → Type 0
OneFailed out errors = (Rose out.old out.new × (errors.new ≡ errors.old)) ⊎ ((out.new ≡ out.old) × Rose errors.old errors.new)

pub record HaveCause (out errors : Change ℕ) (status : Status) : Type 0 where
  pub one : status ≡ WriteFault → OneFailed out errors
  pub neither : (status ≡ WriteFault → ⊥) → (out.new ≡ out.old) × (errors.new ≡ errors.old)

-- the words that are a format with what is supplied
abbrev pub reads_log : List (List ℕ) → Bool
reads_log words = is_some (command_of words)

abbrev pub commands : Commands
commands = record { name = codes "mtrr-import"; reads = reads_log; hint = Some (codes "this is a dump already") }

-- A run for words, over a source, a sink for the dump, and standard error.
pub record IsImportRun {S K E : Type 0} (words : List (List ℕ)) (source : SourceRun S) (out : SinkRun K) (errors : SinkRun E) (status : Status) : Type 0 where
  pub imports : (bytes : List ℕ) → source.left source.old ≡ Some bytes
      → ImportsApart words (held bytes (source.left source.new)) (port out.taken out.old out.new) (port errors.taken errors.old errors.new) status
  -- Without a command nothing is read, nor for the program's own texts.
  pub unread : command_of words ≡ None → source.new ≡ source.old
  pub own : IsSome (own_text words) → source.new ≡ source.old
  -- At statuses such as 1, 2 and 3 nothing is written to the sink of the dump. Nothing is allocated.
  pub alone : status ≢ Done → status ≢ WriteFault → out.new ≡ out.old
  pub memory : status ≢ NoMemory
  pub read_fault : StatusHasCause ReadFault (source.faults source.old) (source.faults source.new) status
  pub write_fault : HaveCause (change (out.faults out.old) (out.faults out.new)) (change (errors.faults errors.old) (errors.faults errors.new)) status
  pub too_long : (status ≡ TooLong) ↔ GaveTooMuch (source.given source.old) (source.given source.new)
