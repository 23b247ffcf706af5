-- What a loop over the lines of a source is given, and what it leaves (own).
--     Taken R call result      what a line makes of a run
--     MayTake R pre, TakesEach R taken faults post      of a function that takes each line
--     ResultsFrom start source sink status      what the loop leaves, where the source tells its bytes
--     RefusesFrom start asks source sink      where memory was refused
--     IsRunOfLines account source sink status      what is proved of a whole run
use Rattle.std.specs.Prelude.{ℕ, ◌≡◌, ◌≢◌, ◌↔◌, ◌+◌, ◌≤◌, List, Option, Some, Result, Ok}
use Rattle.std.specs.Borrow.{Bor, MutBor}
use Rattle.mt_text.specs.Text.{longest_input}
use Rattle.mt_text.specs.Feed.{GaveTooMuch}
use Rattle.mt_text.specs.declared.line.Line.{Line}
use Rattle.mt_ports.specs.Causes.{HasCause, StatusHasCause}
use Rattle.mt_ports.specs.declared.status.Failed.{Failed}
use Rattle.mt_ports.specs.declared.status.Status.{Status}
use Rattle.mt_ports.specs.declared.status.Status.TheVariants.{Disabled, NoMemory, ReadFault, TooFew, TooLong, Usage, WriteFault}
use Rattle.mt_stream.specs.Lines.{IfGoesOn, Path, Running, Takes, at_line, early_of, tells_of}
use Rattle.mt_output.specs.Ports.{Change, Held, Port, SinkRun, SourceRun, Waiting, change, held, port}
use Rattle.mt_stream.specs.Results.{EndsAs, RefusedAtLine, ResultsIn}
use Rattle.mt_stream.specs.Transcript.{Telling, transcript}
use Rattle.mt_stream.specs.declared.ending.Stop.{Stop}
use Rattle.mt_stream.specs.declared.ending.Stop.TheVariants as stopped

-- ---- a line

-- A call that takes a line: the run, its writer, its sink, and the sink's count of faults.
pub record TakeCall (Run : Type 0) : Type 0 where
  pub line : Line
  pub run : Change Run
  pub writer : Waiting
  pub sink : Port
  pub faults : Change ℕ

pub record Taken (R : Running) (call : TakeCall R.Run) (result : Result (Option Stop) Failed) : Type 0 where
  pub bytes : (so_far : List ℕ) (was : Path) → R.At call.run.old so_far was
      → Takes (R.At call.run.new) (at_line call.line.number call.line.bytes.now so_far was) call.writer call.sink result
  -- memory is refused at a line that asks for some, and the lines that ask stay the same
  pub asks : (so_far : List ℕ) (path : Path) → R.At call.run.old so_far path → result ≡ Ok (Some stopped.NoMemory) → R.Asks call.run.old (tells_of path) call.line.number call.line.bytes.now
  pub asks_stay : (told : Telling) (number : ℕ) (other : List ℕ) → R.Asks call.run.new told number other → R.Asks call.run.old told number other
  pub ready : (most : ℕ) → R.Ready most call.run.old → IfGoesOn result (R.Ready (most + 1) call.run.new)
  pub cause : HasCause call.faults.old call.faults.new result

-- ---- each line

-- A function that takes lines may be called for each line that a run is ready for.
abbrev pub MayTake : (R : Running) {K : Type 0} → (MutBor R.Run → Bor Line → MutBor (List ℕ) → MutBor K → Type 0) → Type 0
MayTake R {K} pre = (run : MutBor R.Run) (line : Bor Line) (w : MutBor (List ℕ)) (k : MutBor K) (most : ℕ) → most ≤ longest_input → R.Ready most run.now → pre run line w k

-- what such a call leaves of the run, the writer and the sink
abbrev pub Post : Type 0 → Type 0 → Type 1
Post T K = MutBor T → Bor Line → MutBor (List ℕ) → MutBor K → Result (Option Stop) Failed → MutBor T → MutBor (List ℕ) → MutBor K → Type 0

abbrev pub TakesEach : (R : Running) {K : Type 0} → (K → Option (List ℕ)) → (K → ℕ) → Post R.Run K → Type 0
TakesEach R {K} taken faults post =
    (run : MutBor R.Run) (line : Bor Line) (w : MutBor (List ℕ)) (k : MutBor K) (result : Result (Option Stop) Failed) (new : MutBor R.Run) (left : MutBor (List ℕ)) (sink : MutBor K)
    → post run line w k result new left sink
    → Taken R
    (record { line = line.now; run = change run.now new.now; writer = change w.now left.now; sink = port taken k.now sink.now; faults = change (faults k.now) (faults sink.now) })
    result

-- ---- all lines

-- what a run leaves whose lines lead to this
abbrev pub ResultsOn : Path → Held → Port → Status → Type 0
ResultsOn start source sink status = ResultsIn (tells_of start) (early_of start source.bytes) source sink status

abbrev pub ResultsFrom : Path → Port → Port → Status → Type 0
ResultsFrom start source sink status = (bytes : List ℕ) → source.old ≡ Some bytes → ResultsOn start (held bytes source.new) sink status

abbrev pub RefusesFrom : Path → (Telling → ℕ → List ℕ → Type 0) → Port → Port → Type 0
RefusesFrom start Asks source sink = (bytes : List ℕ) → source.old ≡ Some bytes → RefusedAtLine (tells_of start) Asks (held bytes source.new) sink

-- ---- a whole run

-- What is told of a text, what each status says of the ports, and where memory is refused.
pub record Account : Type 1 where
  pub told : Telling
  pub Results : Held → Port → Status → Type 0
  pub Refused : Held → Port → Type 0

-- A run over the lines of a source, of which this is told.
pub record IsRunOfLines {S K : Type 0} (account : Account) (source : SourceRun S) (sink : SinkRun K) (status : Status) : Type 0 where
  -- Where the source tells its bytes, what each status says of them and of what the sink took.
  pub bytes : (bytes : List ℕ) → source.left source.old ≡ Some bytes → account.Results (held bytes (source.left source.new)) (port sink.taken sink.old sink.new) status
  -- The status is that of the text, unless a port fails, too much is read or memory is refused.
  pub complete : (bytes : List ℕ) → source.left source.old ≡ Some bytes → EndsAs (transcript account.told bytes).status status
  -- Memory is refused before anything is read, or at a line that asks for some. What the lines before it tell was then written.
  pub memory : (bytes : List ℕ) → source.left source.old ≡ Some bytes → status ≡ NoMemory → account.Refused (held bytes (source.left source.new)) (port sink.taken sink.old sink.new)
  -- A port that failed did so once, and the status is its fault; at every other status none failed.
  pub read_fault : StatusHasCause ReadFault (source.faults source.old) (source.faults source.new) status
  pub write_fault : StatusHasCause WriteFault (sink.faults sink.old) (sink.faults sink.new) status
  pub too_long : (status ≡ TooLong) ↔ GaveTooMuch (source.given source.old) (source.given source.new)
  pub usage : status ≢ Usage
  pub few : (status ≢ TooFew) × (status ≢ Disabled)
