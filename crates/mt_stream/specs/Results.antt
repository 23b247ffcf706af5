-- What a run over a text leaves in the source and the sink (own).
--     ResultsIn start early source sink status      of a source that held these bytes, where no more than the early text is written before memory is asked for
--     ResultsAs leads start source sink status      where this is its transcript, with the early text
--     RefusesMemory start asks source sink      where memory was refused, by which lines ask for some
use Rattle.std.specs.Prelude.{ℕ, ◌≡◌, ◌⊎◌, ◌<◌, Bool, List, [], ◌++◌, length, take, Option, Some}
use Rattle.std.specs.Io.KnownBytes.{Appends}
use Rattle.mt_text.specs.Feed.{IsFront}
use Rattle.mt_text.specs.Text.{end_of, lines_of, longest_input}
use Rattle.mt_text.specs.declared.place.Place.{Place}
use Rattle.mt_ports.specs.Puts.{AppendsFront}
use Rattle.mt_ports.specs.declared.status.Status.{Status}
use Rattle.mt_ports.specs.declared.status.Status.TheVariants.{Usage, ReadFault, WriteFault, NoMemory, TooLong, TooFew, Disabled}
use Rattle.mt_stream.specs.Known.{known_text}
use Rattle.mt_stream.specs.Lines.{Leads}
use Rattle.mt_output.specs.Ports.{Held, Port}
use Rattle.mt_stream.specs.Transcript.{Telling, Transcript, behind, transcript}

-- The sink took all that is told, with its status, and nothing of the source is left.
pub record TellsAll (t : Transcript) (source : Held) (sink : Port) (status : Status) : Type 0 where
  pub status_is : status ≡ t.status
  pub taken : Appends sink.old sink.new t.text
  pub read : source.left ≡ Some []

-- The sink took exactly what the known lines of the bytes that were taken tell.
pub record TellsKnown (start : Telling) (source : Held) (sink : Port) : Type 0 where
  pub front : List ℕ
  pub rest : List ℕ
  pub cut : source.bytes ≡ front ++ rest
  pub is_left : source.left ≡ Some rest
  pub taken : Appends sink.old sink.new (known_text start front)

-- What each status says. Memory is asked for before anything but the early text is written.
abbrev pub ResultsAs : Leads → Telling → Held → Port → Status → Type 0
ResultsAs leads start source sink ReadFault = TellsKnown start source sink
ResultsAs leads start source sink WriteFault = AppendsFront sink.old sink.new leads.tells.text
ResultsAs leads start source sink NoMemory = AppendsFront sink.old sink.new leads.early × AppendsFront sink.old sink.new leads.tells.text
ResultsAs leads start source sink TooLong = (longest_input < length source.bytes) × AppendsFront sink.old sink.new leads.tells.text
ResultsAs leads start source sink Usage = ⊥
ResultsAs leads start source sink TooFew = ⊥
ResultsAs leads start source sink Disabled = ⊥
ResultsAs leads start source sink status = TellsAll leads.tells source sink status

abbrev pub ResultsIn : Telling → List ℕ → Held → Port → Status → Type 0
ResultsIn start early source sink status = ResultsAs (record { tells = transcript start source.bytes; early = early }) start source sink status

-- The status is that of the text, unless a port failed, too much was read or memory was refused.
abbrev pub EndsAs : Status → Status → Type 0
EndsAs told status = (status ≡ told) ⊎ (status ≡ ReadFault) ⊎ (status ≡ WriteFault) ⊎ (status ≡ NoMemory) ⊎ (status ≡ TooLong)

-- ---- where memory is refused

-- Lines, each with its LF, tell a text and lead to a point, whatever lines come behind them.
abbrev pub LeadTo : Telling → List ℕ → List ℕ → Telling → Type 0
LeadTo start lines text point = (end : Option Place) (tail : List ℕ) → start end 1 (lines_of (lines ++ tail)) ≡ behind text (point end (end_of lines).line (lines_of tail))

-- Memory was refused at a line that asks for some. The sink took what the lines before it tell, and the line is the first of what
-- was taken of the source behind them.
pub record RefusedAtLine (start : Telling) (Asks : Telling → ℕ → List ℕ → Type 0) (source : Held) (sink : Port) : Type 0 where
  pub lines : List ℕ  -- before it, each with its LF
  pub seen : List ℕ
  pub rest : List ℕ
  pub cut : source.bytes ≡ lines ++ (seen ++ rest)
  pub is_left : source.left ≡ Some rest
  pub text : List ℕ
  pub point : Telling
  pub leads : LeadTo start lines text point
  pub front : ℕ × Bool
  pub is : IsFront seen source.left front
  pub asks : Asks point (end_of lines).line (take front.0 seen)
  pub taken : Appends sink.old sink.new text

-- Memory was refused before anything was read or written, or at such a line.
abbrev pub RefusesMemory : Telling → (Telling → ℕ → List ℕ → Type 0) → Held → Port → Type 0
RefusesMemory start Asks source sink = ((source.left ≡ Some source.bytes) × (sink.new ≡ sink.old)) ⊎ RefusedAtLine start Asks source sink

-- a line at which a point asks for memory, from which on lines tell this
abbrev pub AsksBy : {P : Type 0} → (P → Telling) → (P → ℕ → List ℕ → Type 0) → Telling → ℕ → List ℕ → Type 0
AsksBy {P} tell Asks told number line = (p : P) × (told ≡ tell p) × Asks p number line
