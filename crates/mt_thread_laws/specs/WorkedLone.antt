-- A worked station of one processor, which has a dirty line, over a memory of one line: its way through an update. The root has given the processor away.
use Rattle.std.specs.Prelude.{ℕ, true, false, List, [], ◌∷◌, Option, None, Some, map}
use Rattle.mt_machine.specs.declared.phase.Phase.{Phase}
use Rattle.mt_machine.specs.declared.phase.Phase.TheVariants.{Arrived, Arrived2, NoFill, Passed, Restored, Running, Taken}
use Rattle.mt_machine.specs.declared.go.Go.{Go}
use Rattle.mt_machine.specs.declared.go.Go.TheVariants.{Cancelled, Given, Pending}
use Rattle.mt_machine.specs.declared.event.Event.TheVariants.{Arrive, ArriveAgain, Disable, DropLines, Enable, FlushTlb, Pass, Release, RestorePge, SetNoFill, SetNormal, Write, WriteBack}
use Rattle.mt_machine.specs.System.{Processor, start_processor}
use Rattle.mt_machine.specs.Machine.{Goes, MachineEvent, Steps}
use Rattle.mt_machine_laws.specs.MachineWorkedRuns.{bare_file}
use Rattle.mt_rendezvous.specs.declared.view.Held.{Held}
use Rattle.mt_rendezvous.specs.declared.view.Start.{Start}
use Rattle.mt_rendezvous.specs.declared.view.View.{View}
use Rattle.mt_rendezvous.specs.declared.view.Key.{Key}
use Rattle.mt_rendezvous.specs.Station.{Meets, both, held, spent, start_of}
use Rattle.mt_rendezvous.specs.Laws.{StationFollows, Station}
use Rattle.mt_rendezvous.specs.Plays.{Sat}
use Rattle.mt_rendezvous.specs.Calls.{gathered}
use Rattle.mt_rendezvous.specs.declared.view.Added.TheVariants.{Never, Once, Twice}
use Rattle.mt_thread_laws.specs.WorkedStations.{bare, first, one_line, zeros}

abbrev pub lone : Start
lone = gathered (first Taken ∷ []) (one_line zeros) (bare_file 0x800)

-- its events, once the go was given
abbrev pub lone_events : List MachineEvent
lone_events =
    Goes ∷ map (Steps 0)
    (Arrive ∷ Pass ∷ SetNoFill ∷ WriteBack 0x100008 6 ∷ WriteBack 0x100010 7 ∷ DropLines ∷ FlushTlb
    ∷ Disable ∷ Write 0 ∷ Enable ∷ DropLines ∷ FlushTlb ∷ SetNormal ∷ RestorePge ∷ ArriveAgain ∷ Release ∷ [])

-- in no-fill mode, and behind the change of its registers
abbrev pub unfilled : Processor
unfilled = record (first NoFill) { cache_disabled = true }

abbrev pub changed : Phase → Processor
changed phase = record (start_processor (bare_file 0x800)) { phase = phase }

abbrev pub released : Processor
released = record (changed Running) { era = 1 }

-- the words of memory once both dirty words are written back
abbrev pub both_written : List ℕ
both_written = 0 ∷ 6 ∷ 7 ∷ 0 ∷ 0 ∷ 0 ∷ 0 ∷ 0 ∷ []

-- the views of the root, which has said so, and of the pass
abbrev pub root_of : Start → Go → View
root_of t go = record { root = true; held = []; go = go; shown = None; start = t }

abbrev pub pass_of : Start → Option ℕ → Held → View
pass_of t shown h = record { root = false; held = h ∷ []; go = Pending; shown = shown; start = t }

-- ---- the processor in its view, and the seat of its pass

-- the processor before it arrives, when it has arrived, when it has passed, and when it has left
abbrev pub new : Held
new = held 0 (first Taken) Never

abbrev pub come : Held
come = held 0 (first Arrived) Once

abbrev pub gone : Held
gone = held 0 (first Passed) Once

abbrev pub out : Held
out = held 0 (first Running) Once

-- the seat of its pass
abbrev pub sits : Start → Held → Sat
sits t h = bare (pass_of t None h)

-- the processor in its change, and at the second barrier
abbrev pub fills : Held
fills = held 0 unfilled Once

abbrev pub back : Held
back = held 0 (changed Restored) Once

abbrev pub again : Held
again = held 0 (changed Arrived2) Twice

abbrev pub free : Held
free = held 0 released Twice

-- ---- its station

-- the station with these words
abbrev pub lone_station : Key → Go → Option ℕ → Held → List ℕ → Station
lone_station key go shown h words = record { words = words; homes = []; views = root_of (start_of key) go ∷ pass_of (start_of key) shown h ∷ [] }

-- where it has taken; and where it waits at the first barrier, before the go and after it
abbrev pub taken : Key → Station
taken key = lone_station key Pending None new (0 ∷ 0 ∷ 0 ∷ zeros)

abbrev pub waits : Key → Station
waits key = lone_station key Pending None come (1 ∷ 0 ∷ 0 ∷ zeros)

abbrev pub arrived : Key → Station
arrived key = lone_station key Given None come (2 ∷ 0 ∷ 0 ∷ zeros)

-- in its change
abbrev pub passed : Key → Station
passed key = lone_station key Given None gone (2 ∷ 0 ∷ 0 ∷ zeros)

abbrev pub fills_not : Key → Station
fills_not key = lone_station key Given None fills (2 ∷ 0 ∷ 1 ∷ zeros)

-- before the second barrier, there, and released
abbrev pub restored : Key → Station
restored key = lone_station key Given None back (2 ∷ 0 ∷ 8 ∷ both_written)

abbrev pub arrived_again : Key → Station
arrived_again key = lone_station key Given None again (2 ∷ 1 ∷ 8 ∷ both_written)

abbrev pub ended : Key → Station
ended key = lone_station key Given (Some 1) free (2 ∷ 1 ∷ 8 ∷ both_written)

-- when the root has cancelled, and it hasn't arrived
abbrev pub cancelled : Key → Station
cancelled key = lone_station key Cancelled None new (0x100000000 ∷ 0 ∷ 0 ∷ zeros)

-- when it has left after a cancel
abbrev pub left : Key → Station
left key = lone_station key Cancelled None out (0x100000001 ∷ 0 ∷ 0 ∷ zeros)

-- when the root has taken it back
abbrev pub taken_back : Key → Station
taken_back key = record {
  words = 0x100000001 ∷ 0 ∷ 0 ∷ zeros;
  homes = [];
  views = both (root_of (start_of key) Cancelled) (pass_of (start_of key) None out) ∷ spent ∷ [];
}

-- one station meets the rule, and the next follows on it by this event
abbrev pub StationMoves : Key → Station → Station → Option MachineEvent → Type 0
StationMoves key s after e = (m : Meets key s) × StationFollows key s after m e
