-- What a command that writes one text and answers a status leaves in the sink.
use Rattle.std.specs.Prelude.{ℕ, ◌≡◌, ◌<◌, ◌⊎◌, List, [], length, Option, Some}
use Rattle.mt_text.specs.Text.{longest_input}
use Rattle.mt_ports.specs.declared.status.Status.{Status}
use Rattle.mt_ports.specs.declared.status.Status.TheVariants.{Done, BadText, ReadFault, NoMemory, TooLong}
use Rattle.mt_answers.specs.declared.command.DumpCommand.{DumpCommand}
use Rattle.mt_answers.specs.Answer.{Answer}
use Rattle.mt_dump.specs.Dumps.{Dump}
use Rattle.mt_dump.specs.Dump.{Shown}
use Rattle.mt_dump.specs.Reader.{dump_offence}
use Rattle.mt_dump.specs.declared.fault.DumpFault.{DumpFault}
use Rattle.mt_output.specs.Lines.{bad_text_line}
use Rattle.mt_output.specs.Ports.{Held, Port}
use Rattle.mt_output.specs.Written.{Writes}

-- The sink took a text that numbers determine, or a prefix of it, or nothing if an allocation failed.
abbrev pub Makes : List ℕ → Option (List ℕ) → Option (List ℕ) → Status → Type 0
Makes text old new result = Writes text Done old new result ⊎ ((result ≡ NoMemory) × (new ≡ old))

-- The sink took an answer, or a prefix of one, or nothing if an allocation failed. Which texts and statuses are an answer is given.
pub data Answers (answer : List ℕ → Status → Type 0) (old new : Option (List ℕ)) (result : Status) : Type 0 where
  writes : (text : List ℕ) (status : Status) → answer text status → Writes text status old new result → Answers answer old new result
  no_memory : result ≡ NoMemory → new ≡ old → Answers answer old new result

-- A command on a dump wrote the line of the first offence, an answer about the dump, or nothing where the input wasn't read to its end.
pub data AnswersInput (command : DumpCommand) (source : Held) (sink : Port) (result : Status) : Type 0 where
  bad_input : (fault : DumpFault) → dump_offence source.bytes ≡ Some fault → source.left ≡ Some [] → Writes (bad_text_line fault) BadText sink.old sink.new result → AnswersInput command source sink result
  good_input : (dump : Dump) → Shown source.bytes dump → source.left ≡ Some [] → Answers (Answer dump command) sink.old sink.new result → AnswersInput command source sink result
  no_input : sink.new ≡ sink.old → (result ≡ ReadFault) ⊎ ((result ≡ TooLong) × (longest_input < length source.bytes)) → AnswersInput command source sink result
