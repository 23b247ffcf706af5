-- What a run of the program leaves in the source and the sink (own).
use Rattle.std.specs.Prelude.{ℕ, ◌≡◌, ◌<◌, ◌⊎◌, List, ◌++◌, length, Option, Some, ⊤}
use Rattle.mt_text.specs.Text.{longest_input}
use Rattle.mt_ports.specs.declared.status.Status.{Status}
use Rattle.mt_ports.specs.declared.status.Status.TheVariants.{Usage, ReadFault, WriteFault, NoMemory, TooLong}
use Rattle.mt_answers.specs.declared.command.Command.{Command}
use Rattle.mt_answers.specs.declared.command.Command.TheVariants.{Threaded}
use Rattle.mt_answers.specs.declared.command.ThreadedCommand.TheVariants.{Replay, Proc}
use Rattle.mt_answers.specs.CommandLine.{command_of, left_of}
use Rattle.mt_ports.specs.Puts.{AppendsFront}
use Rattle.mt_output.specs.Lines.{accepted_line}
use Rattle.mt_script.specs.Newcomers.{IsWithoutNewcomers}
use Rattle.mt_output.specs.Ports.{Held, Port, change}
use Rattle.mt_stream.specs.Results.{TellsKnown}
use Rattle.mt_proc.specs.Proc.{proc_told}
use Rattle.mt_proc.specs.Running.{OutOfMemory as ProcOutOfMemory}
use Rattle.mt_replay.specs.Running.{OutOfMemory as ReplayOutOfMemory}
use Rattle.mt_replay.specs.Transcript.{replay_told}
use Rattle.mt_cli.specs.Output.{Output}

-- the bytes that a sink took before a run, and those that it took by its end
pub record Took : Type 0 where
  pub before : List ℕ
  pub after : Option (List ℕ)

abbrev pub took : List ℕ → Option (List ℕ) → Took
took before after = record { before = before; after = after }

-- The sink took the whole output, and nothing of the input is left, or all of it where the command reads nothing.
pub record Finished (words : List (List ℕ)) (source : Held) (sink : Took) (status : Status) : Type 0 where
  pub text : List ℕ
  pub output : Output words source.bytes text status
  pub taken : sink.after ≡ Some (sink.before ++ text)
  pub read : source.left ≡ Some (left_of (command_of words) source.bytes)

-- The sink took a front of an output for all bytes that the source held.
pub record CutShort (words : List (List ℕ)) (bytes : List ℕ) (sink : Took) : Type 0 where
  pub text : List ℕ
  pub status : Status
  pub output : Output words bytes text status
  pub front : List ℕ
  pub back : List ℕ
  pub cut : text ≡ front ++ back
  pub taken : sink.after ≡ Some (sink.before ++ front)

-- The sink took nothing, which is a front of every output.
abbrev pub Untouched : Took → Type 0
Untouched sink = sink.after ≡ Some sink.before

-- A read failed: the sink took nothing, but for `replay` and `proc` exactly what the known lines of the bytes tell that were taken.
abbrev pub FailedRead : Option Command → Held → Took → Type 0
FailedRead (Some (Threaded Replay)) source sink = TellsKnown replay_told source (change (Some sink.before) sink.after)
FailedRead (Some (Threaded (Proc cpus))) source sink = TellsKnown (proc_told cpus) source (change (Some sink.before) sink.after)
FailedRead other source sink = Untouched sink

-- The input is too long: the sink took nothing, but for `replay` and `proc`, which have written a front of their output.
abbrev pub Overran : Option Command → List (List ℕ) → List ℕ → Took → Type 0
Overran (Some (Threaded Replay)) words bytes sink = CutShort words bytes sink
Overran (Some (Threaded (Proc cpus))) words bytes sink = CutShort words bytes sink
Overran other words bytes sink = Untouched sink

-- Memory was refused: the sink took nothing, but for `replay`, which may have written a front of its first line, or of more where a line
-- brings a processor up.
abbrev pub Starved : List (List ℕ) → List ℕ → Took → Type 0
Starved words bytes sink =
    Untouched sink
    ⊎ ((command_of words ≡ Some (Threaded Replay)) × (IsWithoutNewcomers bytes → AppendsFront (Some sink.before) sink.after accepted_line) × CutShort words bytes sink)

-- Memory was refused to `replay` or `proc` before anything was read, or at a line that asks for some. What the lines before it tell was
-- then written. Of any other command `Starved` says what there is to say.
abbrev pub OutOfMemory : Option Command → Held → Port → Type 0
OutOfMemory (Some (Threaded Replay)) source sink = ReplayOutOfMemory source sink
OutOfMemory (Some (Threaded (Proc cpus))) source sink = ProcOutOfMemory cpus source sink
OutOfMemory other source sink = ⊤

-- what each status says of the bytes that the source held and has left, and of those that the sink took before and after
abbrev pub ToolLeaves : List (List ℕ) → Held → Took → Status → Type 0
ToolLeaves words source sink ReadFault = FailedRead (command_of words) source sink
ToolLeaves words source sink WriteFault = CutShort words source.bytes sink
ToolLeaves words source sink NoMemory = Starved words source.bytes sink
ToolLeaves words source sink TooLong = Overran (command_of words) words source.bytes sink
ToolLeaves words source sink status = Finished words source sink status

-- The status is that of the output for all bytes that the source held. Nothing of them is left, or all where the command reads nothing.
pub record Answered (words : List (List ℕ)) (source : Held) (status : Status) : Type 0 where
  pub text : List ℕ
  pub output : Output words source.bytes text status
  pub read : source.left ≡ Some (left_of (command_of words) source.bytes)

-- what each status says of the bytes that the source held and has left, whether or not the sink tells its bytes
abbrev pub Reads : List (List ℕ) → Held → Status → Type 0
Reads words source Usage = source.left ≡ Some source.bytes
Reads words source ReadFault = ⊤
Reads words source WriteFault = ⊤
Reads words source NoMemory = ⊤
Reads words source TooLong = longest_input < length source.bytes
Reads words source status = Answered words source status
