-- What `mtrr` writes for words and an input, as its call over buffers has it (own).
--     AnswersFor words bytes text number      this text with this number is an answer to the words about these bytes
use Rattle.std.specs.Prelude.{ℕ, ◌≡◌, List, [], Some, None}
use Rattle.mt_ports.specs.declared.status.Status.{Status}
use Rattle.mt_ports.specs.declared.status.Status.TheVariants.{Done, Usage, BadText, NoMemory}
use Rattle.mt_ports.specs.Exit.{code}
use Rattle.mt_dump.specs.Dumps.{Dump as ShownDump}
use Rattle.mt_dump.specs.Dump.{Shown}
use Rattle.mt_dump.specs.Reader.{dump_offence}
use Rattle.mt_dump.specs.declared.fault.DumpFault.{DumpFault}
use Rattle.mt_answers.specs.declared.command.Command.TheVariants.{Serial}
use Rattle.mt_answers.specs.declared.command.ThreadedCommand.{ThreadedCommand}
use Rattle.mt_answers.specs.declared.command.SerialCommand.{SerialCommand}
use Rattle.mt_answers.specs.declared.command.SerialCommand.TheVariants.{Dump}
use Rattle.mt_answers.specs.declared.command.DumpCommand.{DumpCommand}
use Rattle.mt_answers.specs.Answer.{Answer}
use Rattle.mt_answers.specs.CommandLine.{command_of, threaded_of}
use Rattle.mt_answers.specs.Help.{own_text}
use Rattle.mt_output.specs.Lines.{bad_text_line, usage_line}
use Rattle.mt_web.specs.Outcome.{PageOutcome}
use Rattle.mt_web.specs.Placed.{on_threads}

-- the line for words that are no command line, a text that reads nothing, the line of the first offence, or an answer about the dump
pub data SerialOutput (words : List (List ℕ)) (bytes : List ℕ) : List ℕ → Status → Type 0 where
  usage : command_of words ≡ None → SerialOutput words bytes usage_line Usage
  own : (command : SerialCommand) (text : List ℕ) → command_of words ≡ Some (Serial command) → own_text command ≡ Some text → SerialOutput words bytes text Done
  offends : (command : DumpCommand) (fault : DumpFault) → command_of words ≡ Some (Serial (Dump command)) → dump_offence bytes ≡ Some fault
      → SerialOutput words bytes (bad_text_line fault) BadText
  answers : (command : DumpCommand) (dump : ShownDump) (text : List ℕ) (status : Status) → command_of words ≡ Some (Serial (Dump command)) → Shown bytes dump
      → Answer dump command text status → SerialOutput words bytes text status

pub data AnswersFor (words : List (List ℕ)) (bytes : List ℕ) : List ℕ → ℕ → Type 0 where
  serial : (text : List ℕ) (number : ℕ) → threaded_of (command_of words) ≡ None → PageOutcome (SerialOutput words bytes) bytes text number → AnswersFor words bytes text number
  threaded : (command : ThreadedCommand) → threaded_of (command_of words) ≡ Some command → AnswersFor words bytes [] on_threads
  no_words : AnswersFor words bytes [] (code NoMemory)  -- the words found no memory
