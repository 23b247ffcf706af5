-- What is proved of a run of the commands that start no thread, by its source, its sink and its status (own).
--     IsSerialRun command source sink status      of a run of one of these commands
--     IsAnswered words source sink status      of a run for words that ask for no thread
--     EndsAlone words source sink status      of a run of a program that has these commands alone
use Rattle.std.specs.Prelude.{ℕ, ◌≡◌, ◌≢◌, ◌⊎◌, ◌↔◌, false, List, None, Some, IfSome}
use Rattle.mt_ports.specs.Causes.{StatusHasCause}
use Rattle.mt_ports.specs.declared.status.Status.{Status}
use Rattle.mt_ports.specs.declared.status.Status.TheVariants.{Usage, ReadFault, WriteFault, NoMemory, TooLong}
use Rattle.mt_text.specs.Feed.{GaveTooMuch}
use Rattle.mt_output.specs.Ports.{SinkRun, SourceRun, held, port}
use Rattle.mt_output.specs.Written.{Writes}
use Rattle.mt_answers.specs.declared.command.Command.TheVariants.{Serial, Threaded}
use Rattle.mt_answers.specs.declared.command.SerialCommand.{SerialCommand}
use Rattle.mt_answers.specs.declared.command.SerialCommand.TheVariants.{Dump}
use Rattle.mt_answers.specs.declared.command.ThreadedCommand.{ThreadedCommand}
use Rattle.mt_answers.specs.declared.command.DumpCommand.{DumpCommand}
use Rattle.mt_answers.specs.CommandLine.{MayTakeMemory, command_of, reads_input}
use Rattle.mt_answers.specs.Help.{own_text}
use Rattle.mt_output.specs.Lines.{usage_line}
use Rattle.mt_answers.specs.Statuses.{MayEnd}
use Rattle.mt_answers.specs.Written.{AnswersInput, Makes}

pub record IsSerialRun {S K : Type 0} (command : SerialCommand) (source : SourceRun S) (sink : SinkRun K) (status : Status) : Type 0 where
  -- A command on a dump writes its answer about the bytes of the source.
  pub bytes : (asked : DumpCommand) (bytes : List ℕ) → command ≡ Dump asked → source.left source.old ≡ Some bytes
      → AnswersInput asked (held bytes (source.left source.new)) (port sink.taken sink.old sink.new) status
  -- Every other command writes its own text.
  pub text : IfSome (own_text command) (λ text. Makes text (sink.taken sink.old) (sink.taken sink.new) status)
  pub unread : reads_input (Some (Serial command)) ≡ false → source.new ≡ source.old
  -- The statuses, whether or not a port tells its bytes.
  pub usage : status ≢ Usage
  pub statuses : MayEnd (Some (Serial command)) status
  pub no_memory : status ≡ NoMemory → MayTakeMemory (Serial command)
  pub read_fault : StatusHasCause ReadFault (source.faults source.old) (source.faults source.new) status
  pub write_fault : StatusHasCause WriteFault (sink.faults sink.old) (sink.faults sink.new) status
  pub too_long : (status ≡ TooLong) ↔ GaveTooMuch (source.given source.old) (source.given source.new)

-- the statuses of wrong usage
abbrev pub IsUsageEnd : Status → Type 0
IsUsageEnd status = (status ≡ Usage) ⊎ (status ≡ WriteFault)

-- Nothing is read, and the line for wrong usage is written.
pub record IsUsage {S K : Type 0} (source : SourceRun S) (sink : SinkRun K) (status : Status) : Type 0 where
  pub unread : source.new ≡ source.old
  pub bytes : Writes usage_line Usage (sink.taken sink.old) (sink.taken sink.new) status
  pub ends : IsUsageEnd status
  pub cause : StatusHasCause WriteFault (sink.faults sink.old) (sink.faults sink.new) status

pub data IsAnswered {S K : Type 0} (words : List (List ℕ)) (source : SourceRun S) (sink : SinkRun K) (status : Status) : Type 0 where
  answered : (command : SerialCommand) → command_of words ≡ Some (Serial command) → IsSerialRun command source sink status → IsAnswered words source sink status
  no_command : command_of words ≡ None → IsUsage source sink status → IsAnswered words source sink status

-- A command that starts threads is wrong usage. If memory is refused to the arguments or to the list of words, no port is called.
pub data EndsAlone {S K : Type 0} (words : List (List ℕ)) (source : SourceRun S) (sink : SinkRun K) (status : Status) : Type 0 where
  alone : IsAnswered words source sink status → EndsAlone words source sink status
  elsewhere : (command : ThreadedCommand) → command_of words ≡ Some (Threaded command) → IsUsage source sink status → EndsAlone words source sink status
  starved : status ≡ NoMemory → source.new ≡ source.old → sink.new ≡ sink.old → EndsAlone words source sink status
