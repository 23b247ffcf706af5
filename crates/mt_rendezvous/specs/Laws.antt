-- What holds of a station between any two steps.
use Rattle.std.specs.Prelude.{◌≡◌, ◌≢◌, ◌⊎◌, ◌<◌, ◌≤◌, ◌+◌, ◌-◌, ◌^◌, ℕ, zero, suc, ◌%◌, true, List, [], ◌∷◌, ◌++◌, length, slice_index, slice_set, Option, Some, None, IsTrue}
use Rattle.std.specs.List.{All}
use mathlib.Core.Option.{none, some}
use lib.ListN.{get_elem?}
use Rattle.atomic_table.specs.Table.{State, keeps, step, stepped}
use Rattle.mt_machine.specs.declared.phase.Phase.TheVariants.{Running, Taken, Restored, Arrived2}
use Rattle.mt_machine.specs.declared.go.Go.TheVariants.{Pending, Given, Cancelled}
use Rattle.mt_machine.specs.declared.event.Event.{Event}
use Rattle.mt_machine.specs.declared.event.Event.TheVariants.{Arrive, Leave, Pass, ArriveAgain, Release}
use Rattle.mt_machine.specs.Memory.{word_at}
use Rattle.mt_machine.specs.System.{Processor, now}
use Rattle.mt_machine.specs.Machine.{Cancels as CancelsUpdate, Goes, Machine, MachineEvent, Order, Steps}
use Rattle.mt_cpu.specs.Steps.{is_local}
use Rattle.mt_machine.specs.Update.{Led}
use Rattle.mt_laws.specs.Updates.{HoldsNothing}
use Rattle.mt_rendezvous.specs.declared.view.Added.{Added}
use Rattle.mt_rendezvous.specs.declared.view.Added.TheVariants.{Never, Once, Twice}
use Rattle.mt_rendezvous.specs.declared.view.Held.{Held}
use Rattle.mt_rendezvous.specs.declared.view.View.{View}
use Rattle.mt_rendezvous.specs.declared.view.Key.{Key}
use Rattle.mt_rendezvous.specs.Station.{Begins, Meets, both, broadcast, held, joined, pass_right, root_left, spent, start_of}
use Rattle.mt_rendezvous.specs.Plays.{Arrives, ArrivesAgain, Cancels, CanFollow, Gives, GoesTo, IsWaiting, Passes, Releases, Sat, TellsSeatStep, Works, after_event, own_event, written}
use Rattle.mt_rendezvous.specs.Calls.{gathered}
use Rattle.mt_machine.specs.Start.{IsBroadcast}

-- the machine that the words and the views stand for
abbrev pub machine_of : (key : Key) (s : State (Unit {0}) View) → Meets key s → Machine
machine_of key s m = joined (start_of key) m.all m.go s.words

-- it is led to from the broadcast state, and it is one
abbrev pub IsLedTo : Type 0
IsLedTo = (key : Key) (s : State (Unit {0}) View) (m : Meets key s) → Led (broadcast (start_of key)) (machine_of key s m)

abbrev pub StandsForOne : Type 0
StandsForOne = (key : Key) (s : State (Unit {0}) View) (a b : Meets key s) → machine_of key s a ≡ machine_of key s b

-- where the second count is full each processor has the goal's registers and holds nothing, and each word is in memory
abbrev pub HoldsWhereFull : Type 0
HoldsWhereFull =
    (key : Key) (s : State (Unit {0}) View) (m : Meets key s) → slice_index s.words 1 ≡ length key.cpus.value.items
    → All (HoldsNothing key.goal.value) (machine_of key s m).system.processors
    × ((address : ℕ) → address % 8 ≡ 0 → word_at (machine_of key s m).system.memory address ≡ now (broadcast (start_of key)).system address)

-- a seat's one processor ended with one addition: this station's update is cancelled, and word 0 shows it
abbrev pub LeftWhereCancelled : Type 0
LeftWhereCancelled =
    (key : Key) (s : State (Unit {0}) View) (m : Meets key s) (j k : ℕ) (v : View) (c : Processor) → get_elem? s.views j ≡ some v → v.held ≡ held k c Once ∷ [] → c.phase ≡ Running
    → (m.go ≡ Cancelled) × (4294967296 ≤ slice_index s.words 0)

-- it ended with both: this station's go is given, and word 1 shows all
abbrev pub ReleasedWhereFull : Type 0
ReleasedWhereFull =
    (key : Key) (s : State (Unit {0}) View) (m : Meets key s) (j k : ℕ) (v : View) (c : Processor) → get_elem? s.views j ≡ some v → v.held ≡ held k c Twice ∷ [] → c.phase ≡ Running
    → (m.go ≡ Given) × (slice_index s.words 1 ≡ length key.cpus.value.items)

-- a broadcast state whose era may rise is one from which a station can be gathered
abbrev pub BroadcastBegins : Type 0
BroadcastBegins =
    (m : Machine) (o : Order) → IsBroadcast m o → o.from_era < 2 ^ 64 - 1
    → Begins (gathered m.system.processors m.system.memory o.goal)

-- ---- each step

-- a station's words and views
abbrev pub Station : Type 0
Station = State (Unit {0}) View

-- the second state meets the rule too, and its machine is the one after this event, which was enabled, or the same machine if there is none
pub record StationFollows (key : Key) (s after : Station) (m : Meets key s) (e : Option MachineEvent) : Type 0 where
  pub kept : Meets key after
  pub enabled : CanFollow (machine_of key s m) e
  pub becomes : machine_of key after kept ≡ after_event (machine_of key s m) e

-- a step of the seat id leaves it as `new` says, and the word i as it was found, or with k more, or with n
abbrev pub loaded : Station → ℕ → Sat → ℕ → Station
loaded s id new i = stepped s i (slice_index s.words i) id new.1 new.0 keeps

abbrev pub raised : Station → ℕ → Sat → ℕ → ℕ → Station
raised s id new i k = stepped s i ((slice_index s.words i + k) % 2 ^ 64) id new.1 new.0 keeps

abbrev pub stored : Station → ℕ → Sat → ℕ → ℕ → Station
stored s id new i n = stepped s i n id new.1 new.0 keeps

-- the seat id is so, and it is the root's, which has said nothing yet
pub record IsAsked (s : Station) (id : ℕ) (me : Sat) : Type 0 where
  pub at : get_elem? s.views id ≡ some me.0
  pub root : me.0.root ≡ true
  pub unsaid : me.0.go ≡ Pending

-- the seat id is so, and it is that of a pass with this one processor
pub record HasPass (s : Station) (id : ℕ) (me : Sat) (h : Held) : Type 0 where
  pub at : get_elem? s.views id ≡ some me.0
  pub holds : me.0.held ≡ h ∷ []

-- of each station, and each seat of a pass with this one processor, whatever a step leaves the seat as
abbrev pub OfPass : Added → ((key : Key) (s : Station) → Meets key s → ℕ → ℕ → Processor → Sat → Sat → Type 0) → Type 0
OfPass added P =
    (key : Key) (s : Station) (m : Meets key s) (id k : ℕ) (c : Processor) (me new : Sat) → HasPass s id me (held k c added)
    → P key s m id k c me new

-- the root's first processor is given away: no event
abbrev pub SplitFollows : Type 0
SplitFollows =
    (key : Key) (s : Station) (m : Meets key s) (id : ℕ) (v : View) (h : Held) (hs : List Held) → get_elem? s.views id ≡ some v → v.held ≡ h ∷ hs
    → StationFollows key s (record { words = s.words; homes = s.homes; views = slice_set s.views id (root_left v) ++ pass_right v ∷ [] }) m None

-- a pass is taken back: no event
abbrev pub JoinFollows : Type 0
JoinFollows =
    (key : Key) (s : Station) (m : Meets key s) (id other : ℕ) (v w : View) (h : Held) → get_elem? s.views id ≡ some v → v.root ≡ true → ¬ (other ≡ id)
    → get_elem? s.views other ≡ some w → w.held ≡ h ∷ []
    → StationFollows key s (record { words = s.words; homes = s.homes; views = slice_set (slice_set s.views id (both v w)) other spent }) m None

-- the root's additions to word 0
abbrev pub GoFollows : Type 0
GoFollows =
    (key : Key) (s : Station) (m : Meets key s) (id : ℕ) (me new : Sat) → IsAsked s id me → Gives (step 0 0 1 0 none) me (slice_index s.words 0) new
    → StationFollows key s (raised s id new 0 1) m (Some Goes)

abbrev pub CancelFollows : Type 0
CancelFollows =
    (key : Key) (s : Station) (m : Meets key s) (id : ℕ) (me new : Sat) → IsAsked s id me → Cancels (step 0 0 4294967296 0 none) me (slice_index s.words 0) new
    → StationFollows key s (raised s id new 0 4294967296) m (Some CancelsUpdate)

-- an addition of a pass to word 0
abbrev pub ArriveFollows : Type 0
ArriveFollows =
    OfPass Never
    (λ key s m id k c me new. c.phase ≡ Taken → Arrives (step 0 0 1 0 none) me (slice_index s.words 0) new
    → (slice_index s.words 0 < 4294967296 → StationFollows key s (raised s id new 0 1) m (Some (Steps k Arrive)))
    × (4294967296 ≤ slice_index s.words 0 → StationFollows key s (raised s id new 0 1) m None))

-- a load of word 0
abbrev pub PassFollows : Type 0
PassFollows =
    OfPass Once
    (λ key s m id k c me new. IsWaiting c.phase → Passes (step 0 0 0 0 none) me (slice_index s.words 0) new
    → (slice_index s.words 0 ≡ length me.0.start.cpus + 1 → StationFollows key s (loaded s id new 0) m (Some (Steps k Pass)))
    × (4294967296 ≤ slice_index s.words 0 → StationFollows key s (loaded s id new 0) m (Some (Steps k Leave)))
    × (slice_index s.words 0 < 4294967296 → slice_index s.words 0 ≢ length me.0.start.cpus + 1 → StationFollows key s (loaded s id new 0) m None))

-- a store
abbrev pub WorkFollows : Type 0
WorkFollows =
    OfPass Once
    (λ key s m id k c me new. (i n : ℕ) → IsTrue (is_local c.phase)
    → GoesTo me.0.start (held k c Once) (written (own_event me.0.start c)) (step 0 i n 0 none) → Works (step 0 i n 0 none) me n new
    → StationFollows key s (stored s id new i n) m (Some (Steps k (own_event me.0.start c))))

-- an addition to word 1
abbrev pub ArriveAgainFollows : Type 0
ArriveAgainFollows =
    OfPass Once
    (λ key s m id k c me new. c.phase ≡ Restored → ArrivesAgain (step 0 1 1 0 none) me (slice_index s.words 1) new
    → StationFollows key s (raised s id new 1 1) m (Some (Steps k ArriveAgain)))

-- a load of word 1
abbrev pub ReleaseFollows : Type 0
ReleaseFollows =
    OfPass Twice
    (λ key s m id k c me new. c.phase ≡ Arrived2 → Releases (step 0 1 0 0 none) me (slice_index s.words 1) new
    → (slice_index s.words 1 ≡ length me.0.start.cpus → StationFollows key s (loaded s id new 1) m (Some (Steps k Release)))
    × (slice_index s.words 1 ≢ length me.0.start.cpus → StationFollows key s (loaded s id new 1) m None))

-- ---- every step at once

-- What a step of word i with this operand tells to have found, and what it leaves there. The two counts are added to, nothing by a load; each other word is stored.
-- Another operation there, such as a store to a count, would break the rule
abbrev pub told_at : ℕ → ℕ → List ℕ → ℕ
told_at zero a words = slice_index words 0
told_at (suc zero) a words = slice_index words 1
told_at (suc (suc i)) a words = a

abbrev pub left_at : ℕ → ℕ → List ℕ → ℕ
left_at zero a words = (slice_index words 0 + a) % 2 ^ 64
left_at (suc zero) a words = (slice_index words 1 + a) % 2 ^ 64
left_at (suc (suc i)) a words = a

-- a step of a seat: which seat, the word, the operand, and what the seat is after it
pub record SeatStep : Type 0 where
  pub id : ℕ
  pub word : ℕ
  pub operand : ℕ
  pub new : Sat

abbrev pub seat_step : ℕ → ℕ → ℕ → Sat → SeatStep
seat_step id i a new = record { id = id; word = i; operand = a; new = new }

-- the station after it
abbrev pub after_step : Station → SeatStep → Station
after_step s t = stepped s t.word (left_at t.word t.operand s.words) t.id t.new.1 t.new.0 keeps

-- the steps that an event comes of: a barrier is reached by an addition, and passed or left by a load of the same word; what lies between them is stored
abbrev pub OfStep : ℕ → ℕ → Event → Type 0
OfStep i a Arrive = (i ≡ 0) × (a ≡ 1)
OfStep i a Pass = (i ≡ 0) × (a ≡ 0)
OfStep i a Leave = (i ≡ 0) × (a ≡ 0)
OfStep i a ArriveAgain = (i ≡ 1) × (a ≡ 1)
OfStep i a Release = (i ≡ 1) × (a ≡ 0)
OfStep i a other = 2 ≤ i

abbrev pub ComesOf : ℕ → ℕ → Option MachineEvent → Type 0
ComesOf i a None = Unit {0}
ComesOf i a (Some Goes) = (i ≡ 0) × (a ≡ 1)
ComesOf i a (Some CancelsUpdate) = (i ≡ 0) × (a ≡ 4294967296)
ComesOf i a (Some (Steps k e)) = OfStep i a e
ComesOf i a (Some other) = ⊥

-- such a step keeps the rule, and is one event of the station's machine that comes of it, or none
pub record IsOneStep (key : Key) (s : Station) (m : Meets key s) (t : SeatStep) : Type 0 where
  pub event : Option MachineEvent
  pub follows : StationFollows key s (after_step s t) m event
  pub comes : ComesOf t.word t.operand event

-- so it is with each step that the play lets a seat make on a station that meets the rule, whatever the word, the operand and the seat
abbrev pub EachStepFollows : Type 0
EachStepFollows =
    (key : Key) (s : Station) (m : Meets key s) (id i a : ℕ) (me new : Sat) → get_elem? s.views id ≡ some me.0 → TellsSeatStep (step 0 i a 0 none) me (told_at i a s.words) new
    → IsOneStep key s m (seat_step id i a new)

-- a load of word 1 shows its seat what it found, and no other step shows it anything
abbrev pub ShownIsFound : Type 0
ShownIsFound =
    (i a found : ℕ) (me new : Sat) → TellsSeatStep (step 0 i a 0 none) me found new
    → (i ≡ 1 → a ≡ 0 → new.0.shown ≡ Some found) × ((i ≢ 1) ⊎ (a ≢ 0) → new.0.shown ≡ me.0.shown)
