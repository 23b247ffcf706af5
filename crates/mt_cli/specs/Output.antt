-- What the program writes for a command line and an input, and the status that it ends with (own).
--     Output words bytes text status      what the program writes for these words and these bytes
use Rattle.std.specs.Prelude.{ℕ, ◌≡◌, List, ◌++◌, codes, decimal, Some, None, Ok, Err}
use Rattle.mt_ports.specs.declared.status.Status.{Status}
use Rattle.mt_ports.specs.declared.status.Status.TheVariants.{Done, Usage, BadText}
use Rattle.mt_dump.specs.Canon.{value_text}
use Rattle.mt_dump.specs.Dumps.{Dump as Shows}
use Rattle.mt_dump.specs.Reader.{read_text}
use Rattle.mt_dump.specs.declared.fault.DumpFault.{DumpFault}
use Rattle.mt_replay.specs.declared.summing.Totals.{Totals}
use Rattle.mt_replay.specs.Summary.{summary}
use Rattle.mt_replay.specs.Transcript.{transcript}
use Rattle.mt_proc.specs.Proc.{proc_transcript}
use Rattle.mt_answers.specs.declared.command.Command.TheVariants.{Serial, Threaded}
use Rattle.mt_answers.specs.declared.command.SerialCommand.{SerialCommand}
use Rattle.mt_answers.specs.declared.command.SerialCommand.TheVariants.{Dump}
use Rattle.mt_answers.specs.declared.command.ThreadedCommand.TheVariants.{Replay, Proc, Big, Private}
use Rattle.mt_answers.specs.declared.command.DumpCommand.{DumpCommand}
use Rattle.mt_answers.specs.CommandLine.{command_of}
use Rattle.mt_answers.specs.Generator.{make_text}
use Rattle.mt_cli.specs.Measured.{measured_text}
use Rattle.mt_output.specs.Lines.{bad_text_line, line, usage_line}
use Rattle.mt_answers.specs.Answer.{Answer}
use Rattle.mt_answers.specs.Help.{own_text}

-- the numbers of a transcript
abbrev pub summary_text : Totals → List ℕ
summary_text t =
    line (codes "lines " ++ decimal t.lines) ++ line (codes "updates " ++ decimal t.updates)
    ++ line (codes "values " ++ value_text t.values) ++ line (codes "memory " ++ value_text t.memory)

-- those of the text for measurements that a number determines
unfoldable pub big_text : ℕ → List ℕ
big_text n = summary_text (summary (make_text n))

-- The text and the status for a command line and an input.
pub data Output (words : List (List ℕ)) (bytes : List ℕ) : List ℕ → Status → Type 0 where
  usage : command_of words ≡ None → Output words bytes usage_line Usage
  bad_text : (command : DumpCommand) (fault : DumpFault) → command_of words ≡ Some (Serial (Dump command)) → read_text bytes ≡ Err fault → Output words bytes (bad_text_line fault) BadText
  answered : (command : DumpCommand) (dump : Shows) (text : List ℕ) (status : Status) → command_of words ≡ Some (Serial (Dump command)) → read_text bytes ≡ Ok dump
      → Answer dump command text status → Output words bytes text status
  printed : (command : SerialCommand) (text : List ℕ) → command_of words ≡ Some (Serial command) → own_text command ≡ Some text → Output words bytes text Done
  summed : (n : ℕ) → command_of words ≡ Some (Threaded (Big n)) → Output words bytes (big_text n) Done
  measured : (cpus n accesses : ℕ) → command_of words ≡ Some (Threaded (Private cpus n accesses)) → Output words bytes (measured_text cpus n accesses) Done
  replayed : command_of words ≡ Some (Threaded Replay) → Output words bytes (transcript bytes).text (transcript bytes).status
  requested : (cpus : ℕ) → command_of words ≡ Some (Threaded (Proc cpus)) → Output words bytes (proc_transcript cpus bytes).text (proc_transcript cpus bytes).status
