-- What the program writes for an input, and the status that it ends with (own). A dump of several sections is drawn as
-- processor 0's file beside that of the first processor whose registers aren't processor 0's, or of processor 1 where all have the same.
--     MapOf dump text status      the picture of a dump, or the line of the fault for which there is none
--     Output asked bytes text status      what is written for what the words ask and for an input
--     Maps asked source sink result      what a run leaves in the source and the sink
use Rattle.std.specs.Prelude.{ℕ, ◌≡◌, ◌≢◌, ◌<◌, ◌⊎◌, ◌↔◌, Bool, List, [], ◌∷◌, codes, length, Option, Some, None, slice_get}
use Rattle.std.specs.List.{All}
use Rattle.mt_text.specs.Text.{longest_input}
use Rattle.mt_text.specs.Feed.{GaveTooMuch}
use Rattle.mt_ports.specs.Causes.{StatusHasCause}
use Rattle.mt_ports.specs.declared.status.Status.{Status}
use Rattle.mt_output.specs.Ports.{Held, Port, SinkRun, SourceRun, held, port}
use Rattle.mt_ports.specs.declared.status.Status.TheVariants.{Done, Refused, Usage, BadText, ReadFault, WriteFault, NoMemory, TooLong}
use Rattle.mt_regs.specs.declared.fault.Fault.{Fault}
use Rattle.mt_regs.specs.RegisterFile.{RegisterFile}
use Rattle.mt_regs.specs.Faults.{register_fault}
use Rattle.mt_regs.specs.Agreement.{first_difference, first_refusal}
use Rattle.mt_dump.specs.Dumps.{Dump, first_file}
use Rattle.mt_dump.specs.Dump.{Shown}
use Rattle.mt_dump.specs.Reader.{dump_offence}
use Rattle.mt_dump.specs.declared.fault.DumpFault.{DumpFault}
use Rattle.mt_output.specs.Lines.{bad_text_line, dump_refused_line, usage_line}
use Rattle.mt_output.specs.Written.{Writes}
use Rattle.mt_shell.specs.Runs.{Commands}
use Rattle.mt_map.specs.declared.asked.Asked.{Asked}
use Rattle.mt_map.specs.declared.asked.Asked.TheVariants.{Picture}
use Rattle.mt_map.specs.Asked.{asked_by, is_picture, left_of, own_text}

-- ---- which files are drawn

abbrev pub number_or_1 : Option (ℕ × ℕ) → ℕ
number_or_1 None = 1
number_or_1 (Some (k, number)) = k

-- the processor whose file is drawn beside processor 0's
abbrev pub beside : List RegisterFile → ℕ
beside files = number_or_1 (first_difference files)

abbrev pub listed : Option RegisterFile → List RegisterFile
listed None = []
listed (Some f) = f ∷ []

-- its file, if there is one
abbrev pub others : Dump → List RegisterFile
others dump = listed (slice_get dump.files (beside dump.files))

-- no register of the files that are drawn is at fault by itself; pages without a defined type are drawn as such
abbrev pub CanBeDrawn : Dump → Type 0
CanBeDrawn dump = (register_fault (first_file dump) ≡ None) × All (λ g. register_fault g ≡ None) (others dump)

-- ---- what is written

abbrev pub status_of : Option (ℕ × Fault) → Status
status_of None = Done
status_of (Some found) = Refused

-- Where a file isn't accepted the status is that of `check`; where it can't be drawn there is the line of `check` alone. Which text a picture has is not told.
pub data MapOf (dump : Dump) : List ℕ → Status → Type 0 where
  drawn : (text : List ℕ) → CanBeDrawn dump → MapOf dump text (status_of (first_refusal dump.files))
  not_drawn : (k : ℕ) (fault : Fault) → (CanBeDrawn dump → ⊥) → first_refusal dump.files ≡ Some (k, fault) → MapOf dump (dump_refused_line dump.version k fault) Refused

pub data Output (asked : Option Asked) (bytes : List ℕ) : List ℕ → Status → Type 0 where
  usage : asked ≡ None → Output asked bytes usage_line Usage
  printed : (text : List ℕ) → own_text asked ≡ Some text → Output asked bytes text Done
  bad_text : (fault : DumpFault) → asked ≡ Some Picture → dump_offence bytes ≡ Some fault → Output asked bytes (bad_text_line fault) BadText
  mapped : (dump : Dump) (text : List ℕ) (status : Status) → asked ≡ Some Picture → Shown bytes dump → MapOf dump text status → Output asked bytes text status

-- ---- a run

-- The sink took an output or a prefix of it, or nothing if an allocation failed. Which texts and statuses are an output is given.
pub data TellsOutput (output : List ℕ → Status → Type 0) (old new : Option (List ℕ)) (result : Status) : Type 0 where
  writes : (text : List ℕ) (status : Status) → output text status → Writes text status old new result → TellsOutput output old new result
  no_memory : result ≡ NoMemory → new ≡ old → TellsOutput output old new result

-- The output for all bytes of the source was written, or nothing where the source failed or gave too much.
pub data Maps (asked : Option Asked) (source : Held) (sink : Port) (result : Status) : Type 0 where
  told : source.left ≡ Some (left_of asked source.bytes) → TellsOutput (Output asked source.bytes) sink.old sink.new result → Maps asked source sink result
  unread : sink.new ≡ sink.old → (result ≡ ReadFault) ⊎ ((result ≡ TooLong) × (longest_input < length source.bytes)) → Maps asked source sink result

-- the words that ask for a picture
abbrev pub reads_dump : List (List ℕ) → Bool
reads_dump words = is_picture (asked_by words)

abbrev pub commands : Commands
commands = record { name = codes "mtrr-map"; reads = reads_dump; hint = None }

-- A run for words, over a source and a sink. Standard error stays as it is.
pub record IsMapRun {S K E : Type 0} (words : List (List ℕ)) (source : SourceRun S) (sink : SinkRun K) (errors : SinkRun E) (status : Status) : Type 0 where
  pub maps : (bytes : List ℕ) → source.left source.old ≡ Some bytes
      → Maps (asked_by words) (held bytes (source.left source.new)) (port sink.taken sink.old sink.new) status
  pub unread : asked_by words ≢ Some Picture → source.new ≡ source.old
  pub read_fault : StatusHasCause ReadFault (source.faults source.old) (source.faults source.new) status
  pub write_fault : StatusHasCause WriteFault (sink.faults sink.old) (sink.faults sink.new) status
  pub too_long : (status ≡ TooLong) ↔ GaveTooMuch (source.given source.old) (source.given source.new)
  pub errors_stay : errors.new ≡ errors.old
