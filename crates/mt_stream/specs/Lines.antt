-- What a run over a text makes of one line, and of the end (own).
use Rattle.std.specs.Prelude.{ℕ, ◌+◌, ◌≡◌, ◌≢◌, ◌⊎◌, Bool, true, false, List, [], ◌∷◌, ◌++◌, Option, Some, Result, Ok, Err, MatchOption, MatchResult}
use Rattle.std.specs.Io.KnownBytes.{Appends, IsAtEnd}
use Rattle.mt_text.specs.Text.{end_of, lines_of}
use Rattle.mt_text.specs.Feed.{Feeding, FeedMoves, Stops}
use Rattle.mt_text.specs.declared.place.Place.{Place}
use Rattle.mt_text.specs.declared.fault.FeedFault.TheVariants as feed_fault
use Rattle.mt_ports.specs.Causes.{Rose}
use Rattle.mt_ports.specs.Puts.{AppendsFront}
use Rattle.mt_ports.specs.declared.status.Failed.{Failed}
use Rattle.mt_ports.specs.declared.status.Status.{Status}
use Rattle.mt_ports.specs.declared.status.Status.TheVariants.{BadText, Done, NoMemory, ReadFault, Refused, TooLong, WriteFault}
use Rattle.mt_output.specs.Writing.{PassesOn}
use Rattle.mt_output.specs.Ports.{Change, Port, Read, Waiting}
use Rattle.mt_stream.specs.Transcript.{Telling, Transcript, behind}
use Rattle.mt_stream.specs.declared.ending.End.{End}
use Rattle.mt_stream.specs.declared.ending.End.TheVariants as text_end
use Rattle.mt_stream.specs.declared.ending.Stop.{Stop}
use Rattle.mt_stream.specs.declared.ending.Stop.TheVariants as stopped
use Rattle.mt_stream.specs.declared.ending.Ended.{Ended}
use Rattle.mt_stream.specs.declared.ending.Ended.TheVariants as ended_by
use Rattle.mt_stream.specs.declared.ending.Cut.{Cut}
use Rattle.mt_stream.specs.declared.ending.Cut.TheVariants as cut

-- What is told of a text, and what may have been written of it where memory is refused.
pub record Leads : Type 0 where
  pub tells : Transcript
  pub early : List ℕ

-- what the lines of a text lead to from some line on, as a `Telling`
abbrev pub Path : Type 0
Path = Option Place → ℕ → List (List ℕ) → Leads

-- where memory is refused before anything but this is written
abbrev pub early_at : List ℕ → Telling → Path
early_at early told end number lines = record { tells = told end number lines; early = early }

abbrev pub leads_behind : List ℕ → Leads → Leads
leads_behind text rest = record { tells = behind text rest.tells; early = rest.early }

-- of a whole text
abbrev pub tells_of : Path → Telling
tells_of start end number lines = (start end number lines).tells

abbrev pub early_of : Path → List ℕ → List ℕ
early_of start text = (start (Some (end_of text)) 1 (lines_of text)).early

-- A run between two lines, as its code keeps it.
pub record Running : Type 1 where
  pub Run : Type 0
  pub At : Run → List ℕ → Path → Type 0  -- it stands where this was written and the lines that come lead to this
  pub ends : Run → Place → Transcript  -- what is told where the text ends at a place
  pub Asks : Run → Telling → ℕ → List ℕ → Type 0  -- it may ask for memory at a line of this number, where it and those behind it tell this
  pub Ready : ℕ → Run → Type 0  -- it can take a line behind this many

abbrev pub running : {T : Type 0} → (T → List ℕ → Path → Type 0) → (T → Place → Transcript) → (T → Telling → ℕ → List ℕ → Type 0) → (ℕ → T → Type 0) → Running
running {T} at ends asks ready = record { Run = T; At = at; ends = ends; Asks = asks; Ready = ready }

-- what a line and those behind it lead to
abbrev pub Leading : Type 0
Leading = Option Place → List (List ℕ) → Leads

-- of a line of this number
abbrev pub from_line : ℕ → List ℕ → Path → Leading
from_line number line was end lines = was end number (line ∷ lines)

-- A run that takes a line: what the line and those behind it lead to, the number of the first of those, and what was written so far.
pub record AtLine : Type 0 where
  pub leads : Leading
  pub next_number : ℕ
  pub so_far : List ℕ

abbrev pub at_line : ℕ → List ℕ → List ℕ → Path → AtLine
at_line number line so_far was = record { leads = from_line number line was; next_number = number + 1; so_far = so_far }

-- A text is written, and the lines behind lead on from another point.
pub record GoesOn (At : List ℕ → Path → Type 0) (here : AtLine) (writer : Waiting) (sink : Port) : Type 0 where
  pub next : Path
  pub text : List ℕ
  pub at : At (here.so_far ++ text) next
  pub goes : (end : Option Place) (lines : List (List ℕ)) → here.leads end lines ≡ leads_behind text (next end here.next_number lines)
  pub passed : PassesOn writer.old text writer.new sink.old sink.new

-- the status of a run that a line ends so
abbrev pub stop_status : Stop → Status
stop_status stopped.Refused = Refused
stop_status stopped.BadText = BadText
stop_status stopped.NoMemory = NoMemory

-- The transcript ends, whatever stands behind.
pub record Ends (here : AtLine) (writer : Waiting) (sink : Port) (stop : Stop) : Type 0 where
  pub telling : Transcript
  pub stops : (end : Option Place) (lines : List (List ℕ)) → (here.leads end lines).tells ≡ telling
  pub status_is : stop_status stop ≡ telling.status
  pub last : stop ≢ stopped.NoMemory
  pub passed : PassesOn writer.old telling.text writer.new sink.old sink.new

-- Memory was refused, where it may be, and nothing was added to what waits.
pub record Wants (here : AtLine) (writer : Waiting) (sink : Port) (stop : Stop) : Type 0 where
  pub refused : stop ≡ stopped.NoMemory
  pub early : (end : Option Place) (lines : List (List ℕ)) → (rest : List ℕ) × ((here.leads end lines).early ≡ here.so_far ++ rest)
  pub passed : PassesOn writer.old [] writer.new sink.old sink.new

-- The sink failed, and took a front.
pub record Fails (here : AtLine) (waiting : List ℕ) (sink : Port) : Type 0 where
  pub text : List ℕ
  pub front : (end : Option Place) (lines : List (List ℕ)) → (rest : List ℕ) × ((here.leads end lines).tells.text ≡ text ++ rest)
  pub failed : AppendsFront sink.old sink.new (waiting ++ text)

-- what a run makes of a line, where it stands by `At` behind it
abbrev pub Takes : (List ℕ → Path → Type 0) → AtLine → Waiting → Port → Result (Option Stop) Failed → Type 0
Takes At here writer sink result =
    MatchResult result
    (λ ended. MatchOption ended (GoesOn At here writer sink) (λ stop. Ends here writer sink stop ⊎ Wants here writer sink stop))
    (λ _. Fails here writer.old sink)

-- P, if the run goes on behind a line
abbrev pub IfGoesOn : Result (Option Stop) Failed → Type 0 → Type 0
IfGoesOn result P = MatchResult result (λ ended. MatchOption ended P (λ _. Unit {0})) (λ _. Unit {0})

-- ---- the next line

-- Why there is no next line. All that waits was written before the source was asked.
abbrev pub CutShort : Change Feeding → Read → Waiting → Port → Cut → Type 0
CutShort feed source writer sink (cut.Feed fault) =
    Stops feed.old feed.new (feed.old.pending ++ source.more) fault × (writer.new ≡ []) × Appends sink.old sink.new writer.old
CutShort feed source writer sink cut.Write =
    (feed.new ≡ feed.old) × (feed.old.pending ++ source.more ≡ feed.old.pending) × AppendsFront sink.old sink.new writer.old

abbrev pub Next : Change Feeding → Read → Waiting → Port → Result Bool Cut → Type 0
Next feed source writer sink result =
    MatchResult result
    (λ moved. FeedMoves feed.old feed.new (feed.old.pending ++ source.more) source.left moved × PassesOn writer.old [] writer.new sink.old sink.new)
    (CutShort feed source writer sink)

-- A port that failed did so once, and the cut is its fault.
abbrev pub SourceHasCause : {T : Type 0} → ℕ → ℕ → Result T Cut → Type 0
SourceHasCause before after (Ok x) = after ≡ before
SourceHasCause before after (Err (cut.Feed feed_fault.ReadFault)) = Rose before after
SourceHasCause before after (Err (cut.Feed feed_fault.TooLong)) = after ≡ before
SourceHasCause before after (Err cut.Write) = after ≡ before

abbrev pub SinkHasCause : {T : Type 0} → ℕ → ℕ → Result T Cut → Type 0
SinkHasCause before after (Ok x) = after ≡ before
SinkHasCause before after (Err (cut.Feed fault)) = after ≡ before
SinkHasCause before after (Err cut.Write) = Rose before after

-- the status of a cut
abbrev pub cut_status : Cut → Status
cut_status cut.Write = WriteFault
cut_status (cut.Feed feed_fault.ReadFault) = ReadFault
cut_status (cut.Feed feed_fault.TooLong) = TooLong

-- ---- the end

-- the status of a text that ends so
abbrev pub end_status : End → Status
end_status text_end.Done = Done
end_status text_end.BadText = BadText

-- the last text goes to the sink with all that waits, or a front of them
abbrev pub Closes : Transcript → List ℕ → Port → Result End Failed → Type 0
Closes t waiting sink result =
    MatchResult result
    (λ last. (end_status last ≡ t.status) × Appends sink.old sink.new (waiting ++ t.text))
    (λ _. AppendsFront sink.old sink.new (waiting ++ t.text))

-- a run that ended with its text, unless the last text couldn't be written
abbrev pub closed_run : Result End Failed → Result Ended Cut
closed_run (Ok last) = Ok (ended_by.Text last)
closed_run (Err failed) = Err cut.Write

-- the status of a run
abbrev pub run_status : Result Ended Cut → Status
run_status (Ok (ended_by.Text last)) = end_status last
run_status (Ok (ended_by.Line stop)) = stop_status stop
run_status (Err why) = cut_status why

-- how a line ends a run, and whether it is the last of the text
pub record LastLine : Type 0 where
  pub stop : Stop
  pub is_last : Bool

abbrev pub last_line : Stop → Bool → LastLine
last_line stop is_last = record { stop = stop; is_last = is_last }

-- Nothing more is read behind the last line or if memory was refused, and else all that is left.
abbrev pub Drops : LastLine → Read → Status → Type 0
Drops line source result =
    ((result ≡ stop_status line.stop) × ((line.is_last ≡ true) ⊎ (line.stop ≡ stopped.NoMemory)) × (source.more ≡ []))
    ⊎ ((line.is_last ≡ false) × (line.stop ≢ stopped.NoMemory) × (((result ≡ stop_status line.stop) × IsAtEnd source.left) ⊎ (result ≡ ReadFault) ⊎ (result ≡ TooLong)))

-- All that waits is written, or a front of it.
abbrev pub WritesRest : LastLine → Read → List ℕ → Port → Status → Type 0
WritesRest line source waiting sink result =
    ((result ≡ WriteFault) × AppendsFront sink.old sink.new waiting) ⊎ (Appends sink.old sink.new waiting × Drops line source result)
