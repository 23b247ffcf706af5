-- What is proved of a run of the program, by its words, its source, its sink and its status (own).
--     IsRun words source sink status      of any run
--     IsToolRun words source sink status      of a run whose list of words found memory
use Rattle.std.specs.Prelude.{ℕ, ◌≡◌, ◌⊎◌, ◌↔◌, false, List, None, Some}
use Rattle.mt_ports.specs.Causes.{StatusHasCause}
use Rattle.mt_ports.specs.declared.status.Status.{Status}
use Rattle.mt_ports.specs.declared.status.Status.TheVariants.{Usage, ReadFault, WriteFault, NoMemory, TooLong}
use Rattle.mt_text.specs.Feed.{GaveTooMuch}
use Rattle.mt_answers.specs.declared.command.Command.{Command}
use Rattle.mt_answers.specs.CommandLine.{MayTakeMemory, command_of, reads_input}
use Rattle.mt_answers.specs.Statuses.{MayEnd}
use Rattle.mt_output.specs.Ports.{SinkRun, SourceRun, held, port}
use Rattle.mt_cli.specs.Tool.{ToolLeaves, OutOfMemory, Reads, took}

pub record IsRun {S K : Type 0} (words : List (List ℕ)) (source : SourceRun S) (sink : SinkRun K) (status : Status) : Type 0 where
  -- Where the source and the sink tell their bytes, the sink took the output for the words and the bytes, or after a failure a front of it.
  pub leaves : (bytes before : List ℕ) → source.left source.old ≡ Some bytes → sink.taken sink.old ≡ Some before
      → ToolLeaves words (held bytes (source.left source.new)) (took before (sink.taken sink.new)) status
  -- Where the source tells its bytes, the status is that of the output for them, unless a port fails, memory is refused or the input is
  -- too long; and a source of at most 16,777,216 bytes is not too long.
  pub reads : (bytes : List ℕ) → source.left source.old ≡ Some bytes → Reads words (held bytes (source.left source.new)) status
  -- Whatever the ports tell, the statuses about an input come only of commands that read it, and TooFew and Disabled only of `tidy` and `gran`.
  pub statuses : MayEnd (command_of words) status
  -- Usage comes only where the words are no command line. Nothing is then read, nor by `make`, `big`, `private`, `--help` and `--version`.
  pub usage : status ≡ Usage → command_of words ≡ None
  pub unread : reads_input (command_of words) ≡ false → source.new ≡ source.old
  -- The sink then took the output, or a front of it, whether or not the source tells its bytes: it is one for all bytes.
  pub unread_leaves : (bytes before : List ℕ) → reads_input (command_of words) ≡ false → sink.taken sink.old ≡ Some before
      → ToolLeaves words (held bytes (Some bytes)) (took before (sink.taken sink.new)) status
  -- A port that failed did so once, and the status is its fault; at every other status none failed.
  pub read_fault : StatusHasCause ReadFault (source.faults source.old) (source.faults source.new) status
  pub write_fault : StatusHasCause WriteFault (sink.faults sink.old) (sink.faults sink.new) status
  pub too_long : (status ≡ TooLong) ↔ GaveTooMuch (source.given source.old) (source.given source.new)

pub record IsToolRun {S K : Type 0} (words : List (List ℕ)) (source : SourceRun S) (sink : SinkRun K) (status : Status) : Type 0 where
  pub run : IsRun words source sink status
  -- Words that are no command line end with Usage, unless the line can't be written.
  pub no_command : command_of words ≡ None → (status ≡ Usage) ⊎ (status ≡ WriteFault)
  -- Memory is refused to no command that takes none.
  pub no_memory : status ≡ NoMemory → (command : Command) × (command_of words ≡ Some command) × MayTakeMemory command
  -- Where the source tells its bytes, memory is refused to `replay` and `proc` before anything is read, or at a line that asks for some.
  pub memory : (bytes : List ℕ) → source.left source.old ≡ Some bytes → status ≡ NoMemory
      → OutOfMemory (command_of words) (held bytes (source.left source.new)) (port sink.taken sink.old sink.new)
