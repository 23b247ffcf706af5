-- What is kept of the facts of a log while the table that is asked for isn't known (own).
--     AreTried pick supplied start facts contexts tries      these facts were taken, for each count of tables that the log may turn out to have
--     LeadsTo auto supplied tries number course      what the lines that follow lead to
use Rattle.std.specs.Prelude.{ℕ, ◌≡◌, ◌<◌, ◌+◌, ◌++◌, Bool, List, [], ◌∷◌, if◌then◌else◌, Option, Some, None, unwrap_or, Result, Ok, Err}
use Rattle.mt_text.specs.Reader.{Course}
use Rattle.mt_text.specs.declared.place.Place.{Place}
use Rattle.mt_import.specs.declared.fault.ImportFault.{ImportFault}
use Rattle.mt_import.specs.declared.reading.Context.{Context}
use Rattle.mt_import.specs.declared.shape.Failure.{Failure}
use Rattle.mt_import.specs.declared.shape.Pick.{Pick}
use Rattle.mt_import.specs.declared.shape.Pick.TheVariants.{Each, Number, Last}
use Rattle.mt_import.specs.declared.shape.Tables.{Tables}
use Rattle.mt_import.specs.declared.shape.Told.{Told}
use Rattle.mt_import.specs.declared.shape.Way.{Way}
use Rattle.mt_import.specs.declared.format.Format.{Format}
use Rattle.mt_import.specs.LogTables.{begins_table, context_told, facts_alone, facts_told, is_read, way_at_end, way_from}
use Rattle.mt_import.specs.Outcome.{Outcome, Seen, facts_fault, nothing_seen, seen_after, warned_till}
use Rattle.mt_import.specs.Import.{failure, log_answer}
use Rattle.mt_import.specs.Reader.{HasTakenFacts, IsShort, State}
use Rattle.mt_import.specs.Readings.{Fact, starts}
use Rattle.mt_import.specs.Supplied.{Supplied}

-- what a reader has shown up to the first fault
pub record Tried : Type 0 where
  pub state : State
  pub fault : Option ImportFault

-- the reader that reads on where a table begins: of the last table only lines outside of tables are known
abbrev pub current_from : Pick → Tried → Tried → Tried
current_from Last outside current = outside
current_from Each outside current = current
current_from (Number number) outside current = current

abbrev pub current_behind : Pick → Told → Tried → Tried → Tried
current_behind pick told outside current = if begins_table told then current_from pick outside current else current

abbrev pub fault_in : {U : Type 0} → Result U ImportFault → Option ImportFault
fault_in (Ok value) = None
fault_in (Err fault) = Some fault

-- A reader was given these facts, and they lead to this context. It has what those before the first fault warn of.
pub record HasTried (supplied : Supplied) (start : Seen) (facts : List Fact) (context : Context) (tried : Tried) : Type 0 where
  pub fault_is : tried.fault ≡ facts_fault supplied start facts
  pub warned_is : tried.state.tally.warned ≡ warned_till supplied start facts
  pub taken : tried.fault ≡ None → HasTakenFacts tried.state (seen_after start facts)
  pub context_is : tried.fault ≡ None → tried.state.context ≡ context

pub record TriesSeen : Type 0 where
  pub current : Tried
  pub outside : Tried
  pub way : Way

-- If the log turns out to have the tables `whole`, the lines so far come to `facts whole`. The current reader has them if no later table is the last one,
-- where that is asked for. Else the reader of the lines outside of tables has them.
pub record AreTried (pick : Pick) (supplied : Supplied) (start : Seen) (facts : Tables → List Fact) (contexts : Tables → Context) (tries : TriesSeen) : Type 0 where
  pub current : (whole : Tables) → (pick ≡ Last → tries.way.tables.last ≡ whole.last) → HasTried supplied start (facts whole) (contexts whole) tries.current
  pub outside : (whole : Tables) → pick ≡ Last → tries.way.tables.last < whole.last → HasTried supplied start (facts whole) (contexts whole) tries.outside

-- the facts and the context behind one more line
abbrev pub facts_with : Pick → Tables → Told → (Tables → Context) → (Tables → List Fact) → Tables → List Fact
facts_with pick now told contexts facts whole = facts whole ++ facts_told (is_read pick whole now) (contexts whole) told

abbrev pub contexts_with : Pick → Tables → Told → (Tables → Context) → Tables → Context
contexts_with pick now told contexts whole = context_told (is_read pick whole now) (contexts whole) told

-- A call of one reader takes a line, whose table may be one that is read.
abbrev pub TakesTold : Supplied → Told → Bool → Tried → Tried → Type 0
TakesTold supplied told read old new = (start : Seen) (facts : List Fact) (context : Context) → HasTried supplied start facts context old
    → HasTried supplied start (facts ++ facts_told read context told) (context_told read context told) new

-- A call of both takes a line behind the last heading.
abbrev pub TakesInTables : Pick → Supplied → Told → TriesSeen → TriesSeen → Type 0
TakesInTables pick supplied told old new = (start : Seen) (facts : Tables → List Fact) (contexts : Tables → Context) → AreTried pick supplied start facts contexts old
    → old.way.tables.last < told.number → AreTried pick supplied start (facts_with pick new.way.tables told contexts facts) (contexts_with pick new.way.tables told contexts) new

-- The lines that follow, of which the first has this number, lead to this.
pub record LeadsTo (auto : Bool) (supplied : Supplied) (tries : TriesSeen) (number : ℕ) (course : Course (Result Outcome Failure)) : Type 0 where
  pub start : Seen
  pub facts : Tables → List Fact
  pub contexts : Tables → Context
  pub tried : AreTried supplied.table supplied start facts contexts tries
  pub before : tries.way.tables.last < number
  pub leads : (lines : List (List ℕ)) (end : Place) → let whole = (way_at_end tries.way number lines).tables in
      course lines end ≡ log_answer auto supplied whole start (facts whole ++ facts_alone (is_read supplied.table whole) tries.way (contexts whole) number lines)

-- Tries of no line, where the format may be known.
abbrev pub Begins : Option Format → TriesSeen → Type 0
Begins format tries = (tries.way ≡ way_from format) × ((pick : Pick) (supplied : Supplied) → AreTried pick supplied (nothing_seen format) (λ whole. []) (λ whole. starts format) tries)

-- A call takes this line, which has this number.
abbrev pub LeadsOn : Supplied → List ℕ → ℕ → TriesSeen → TriesSeen → Type 0
LeadsOn supplied line number old new = (auto : Bool) (course : Course (Result Outcome Failure)) → LeadsTo auto supplied old number course
    → LeadsTo auto supplied new (number + 1) (λ lines. course (line ∷ lines))

-- the fault that the lines had, or else this one, with what they warn of
abbrev pub failure_or : TriesSeen → ImportFault → Failure
failure_or tries fault = failure tries.way.tables tries.current.state.tally.warned (unwrap_or tries.current.fault fault)

-- the fault names a register of three hexadecimal digits at most
abbrev pub IsShortFailure : Failure → Type 0
IsShortFailure failure = IsShort failure.stop.fault
