-- What each step of a yard makes of the machine that its residents and counts stand for.
use Rattle.std.specs.Prelude.{◌≡◌, ◌⊎◌, ℕ, ◌+◌, ◌<◌, ◌≤◌, Bool, true, List, [], ◌∷◌, ◌++◌, length, Option, Some, None, slice_index, slice_set}
use mathlib.Core.Option.{none, some}
use lib.ListN.{get_elem?}
use Rattle.atomic_table.specs.Table.{State, Step, opening}
use Rattle.mt_machine.specs.declared.phase.Phase.TheVariants.{Running, Taken, Arrived, Restored, Arrived2}
use Rattle.mt_machine.specs.declared.event.Event.{Event}
use Rattle.mt_machine.specs.declared.event.Event.TheVariants.{Take, Arrive, Leave, Pass, ArriveAgain, Release}
use Rattle.mt_machine.specs.declared.go.Go.{Go}
use Rattle.mt_machine.specs.declared.go.Go.TheVariants.{Pending, Given, Cancelled}
use Rattle.mt_machine.specs.declared.op.Op.{Op}
use Rattle.mt_machine.specs.System.{Processor, System}
use Rattle.mt_machine.specs.Access.{access}
use Rattle.mt_machine.specs.Machine.{Accesses, AreEnabled, Cancels, FitsOp, Goes, Machine, MachineEvent, Order, Reached, Steps, common_era, due, run}
use Rattle.mt_machine.specs.Update.{IsHeld, IsSettled}
use Rattle.mt_cpu.specs.Steps.{is_local}
use Rattle.mt_laws.specs.Settled.{IsFirstRelease}
use Rattle.mt_rendezvous.specs.declared.view.Key.{Key}
use Rattle.mt_rendezvous.specs.declared.view.Start.{Start}
use Rattle.mt_rendezvous.specs.Station.{broadcast, order_of, start_of}
use Rattle.mt_rendezvous.specs.Plays.{CanFollow, after_event, arrive, arrive_again, does, late}
use Rattle.mt_private.specs.declared.view.Resident.{Resident}
use Rattle.mt_private.specs.declared.view.YardView.{YardView}
use Rattle.mt_private.specs.OneByOne.{at_rest}
use Rattle.mt_private.specs.Residents.{Decides, ResidentFollows, Opens, Yard, accessed_by, own_of, stepped_by, system_of, with_held, with_stored, scene, move_of}
use Rattle.mt_private.specs.YardPlays.{TellsYardStep, YardSat, word_after}
use Rattle.mt_rendezvous.specs.declared.view.Added.TheVariants.{Never, Once, Twice}
use Rattle.mt_rendezvous.specs.declared.view.Added.{Added}
use Rattle.mt_private.specs.YardRule.{MeetsYard, first_yard_view, its_machine, with_one, with_decision, yard_both, yard_left, yard_right, yard_spent}

-- resident k, whose pass has added so
pub record Has (all : List Resident) (k : ℕ) (y : Resident) (added : Added) : Type 0 where
  pub at : get_elem? all k ≡ some y
  pub has_added : y.held.added ≡ added

-- ---- a load of the first count

-- one that runs, and hasn't taken, takes where the count shows no cancel
abbrev pub LoadTakes : Type 0
LoadTakes =
    (t : Start) (all : List Resident) (go : Go) (first second : ℕ) (s : System) (k : ℕ) (y : Resident) → Yard t (scene all go s) first second → Has all k y Never → y.held.cpu.phase ≡ Running
    → first < 4294967296 → ResidentFollows t (scene all go s) (move_of k (stepped_by t Take y) (Some (Steps k Take))) first second

-- any load by which nobody moves is no event
abbrev pub LoadStays : Type 0
LoadStays =
    (t : Start) (all : List Resident) (go : Go) (first second : ℕ) (s : System) (k : ℕ) (y : Resident) → Yard t (scene all go s) first second → get_elem? all k ≡ some y
    → ResidentFollows t (scene all go s) (move_of k y None) first second

abbrev pub LoadPasses : Type 0
LoadPasses =
    (t : Start) (all : List Resident) (go : Go) (first second : ℕ) (s : System) (k : ℕ) (y : Resident) → Yard t (scene all go s) first second → Has all k y Once → y.held.cpu.phase ≡ Arrived
    → first ≡ length t.cpus + 1 → ResidentFollows t (scene all go s) (move_of k (with_held y (does t Pass y.held)) (Some (Steps k Pass))) first second

abbrev pub LoadLeaves : Type 0
LoadLeaves =
    (t : Start) (all : List Resident) (go : Go) (first second : ℕ) (s : System) (k : ℕ) (y : Resident) → Yard t (scene all go s) first second → Has all k y Once
    → (y.held.cpu.phase ≡ Taken) ⊎ (y.held.cpu.phase ≡ Arrived) → 4294967296 ≤ first → ResidentFollows t (scene all go s) (move_of k (with_held y (does t Leave y.held)) (Some (Steps k Leave))) first second

-- ---- an addition to the first count

abbrev pub AdditionArrives : Type 0
AdditionArrives =
    (t : Start) (all : List Resident) (go : Go) (first second : ℕ) (s : System) (k : ℕ) (y : Resident) → Yard t (scene all go s) first second → Has all k y Never → y.held.cpu.phase ≡ Taken
    → (first < 4294967296 → ResidentFollows t (scene all go s) (move_of k (with_held y (arrive t y.held)) (Some (Steps k Arrive))) (first + 1) second)
    × (4294967296 ≤ first → ResidentFollows t (scene all go s) (move_of k (with_held y (late y.held)) None) (first + 1) second)

-- the coordinator's
abbrev pub AdditionDecides : Type 0
AdditionDecides =
    (t : Start) (all : List Resident) (first second : ℕ) (s : System) → Yard t (scene all Pending s) first second
    → Decides t (scene all Given s) (first + 1) second Goes × Decides t (scene all Cancelled s) (first + 4294967296) second Cancels

-- ---- the second count

abbrev pub AdditionArrivesAgain : Type 0
AdditionArrivesAgain =
    (t : Start) (all : List Resident) (go : Go) (first second : ℕ) (s : System) (k : ℕ) (y : Resident) → Yard t (scene all go s) first second → Has all k y Once → y.held.cpu.phase ≡ Restored
    → ResidentFollows t (scene all go s) (move_of k (with_held y (arrive_again t y.held)) (Some (Steps k ArriveAgain))) first (second + 1)

abbrev pub LoadReleases : Type 0
LoadReleases =
    (t : Start) (all : List Resident) (go : Go) (first second : ℕ) (s : System) (k : ℕ) (y : Resident) → Yard t (scene all go s) first second → Has all k y Twice → y.held.cpu.phase ≡ Arrived2
    → second ≡ length t.cpus → ResidentFollows t (scene all go s) (move_of k (with_held y (does t Release y.held)) (Some (Steps k Release))) first second

-- ---- a store of the own event word

-- an access, before the processor takes or after it is released or has left; the answer is that of its own system
abbrev pub StoreAccesses : Type 0
StoreAccesses =
    (t : Start) (all : List Resident) (go : Go) (first second : ℕ) (s : System) (k : ℕ) (y : Resident) (op : Op) (n : ℕ) → Yard t (scene all go s) first second → get_elem? all k ≡ some y
    → y.held.cpu.phase ≡ Running → FitsOp op → ResidentFollows t (scene all go s) (move_of k (with_stored (accessed_by op y) n) (Some (Accesses k op))) first second × ((access s k op).answer ≡ (access (own_of y) 0 op).answer)

-- the event that is due between the barriers
abbrev pub StoreWorks : Type 0
StoreWorks =
    (t : Start) (all : List Resident) (go : Go) (first second : ℕ) (s : System) (k : ℕ) (y : Resident) (e : Event) (n : ℕ) → Yard t (scene all go s) first second → Has all k y Once
    → is_local y.held.cpu.phase ≡ true → ((o : Order) (ps : List Processor) → due o ps y.held.cpu y.held.cpu.phase ≡ Some e)
    → ResidentFollows t (scene all go s) (move_of k (with_stored (stepped_by t e y) n) (Some (Steps k e))) first second

-- ---- the table

abbrev pub YardState : Type 0
YardState = State Op YardView

-- the second state meets the rule too, and its machine is the one after this event, which was enabled, or the same machine if there is none
pub record IsOneEvent (key : Key) (s later : YardState) (m : MeetsYard key s) (e : Option MachineEvent) : Type 0 where
  pub kept : MeetsYard key later
  pub enabled : CanFollow (its_machine key s m) e
  pub becomes : its_machine key later kept ≡ after_event (its_machine key s m) e

-- between any two steps the state after the call reaches the machine
abbrev pub IsReached : Type 0
IsReached = (key : Key) (s : YardState) (m : MeetsYard key s) → Reached (broadcast (start_of key)) (its_machine key s m)

-- and it is one
abbrev pub IsOneMachine : Type 0
IsOneMachine = (key : Key) (s : YardState) (a b : MeetsYard key s) → its_machine key s a ≡ its_machine key s b

-- each processor has the goal's registers and holds nothing of another era, and each word that no access stored since the first release is in memory as it was before the first pass
pub record Settles (t : Start) (m : Machine) : Type 0 where
  pub settled : IsSettled m.system (common_era t.cpus + 1) t.goal
  pub before : Machine
  pub released : Machine
  pub go : Go
  pub since : List MachineEvent
  pub reached : Reached (at_rest (system_of t)) before
  pub first : IsFirstRelease before released (order_of t go)
  pub enabled : AreEnabled released since
  pub leads : run released since ≡ m
  pub held : IsHeld before.system released since

-- so where a resident's era has risen
abbrev pub YardsSettle : Type 0
YardsSettle =
    (key : Key) (s : YardState) (m : MeetsYard key s) (k : ℕ) (y : Resident) → get_elem? m.all k ≡ some y → y.held.cpu.era ≡ common_era (start_of key).cpus + 1
    → Settles (start_of key) (its_machine key s m)

-- at the start, with words of 0
abbrev pub StartMeetsRule : Type 0
StartMeetsRule =
    (key : Key) (words : List ℕ) → Opens (start_of key) → length words ≡ length key.cpus.value.items + 2 → ((i : ℕ) → slice_index words i ≡ 0)
    → MeetsYard key (opening words [] (first_yard_view key))

-- a step on word i, which becomes n, stores so: a count, or the own event word, which holds n then
abbrev pub Stores : Resident → ℕ → ℕ → Resident → Type 0
Stores y i n w = ((i < 2) × (w.stored ≡ y.stored)) ⊎ ((i ≡ y.held.number + 2) × (n ≡ w.stored))

-- a step of a pass by which its resident moves so
abbrev pub MoveIsOneEvent : Type 0
MoveIsOneEvent =
    (key : Key) (s : YardState) (m : MeetsYard key s) (id : ℕ) (v : YardView) (y : Resident) → get_elem? s.views id ≡ some v → v.held ≡ y ∷ []
    → (i n : ℕ) (w : Resident) (shown : Option ℕ) (cancel : Bool) (e : Option MachineEvent) → w.held.number ≡ y.held.number → Stores y i n w → (cancel ≡ true → m.go ≡ Cancelled)
    → ResidentFollows (start_of key) (scene m.all m.go m.system) (move_of y.held.number w e) (slice_index (slice_set s.words i n) 0) (slice_index (slice_set s.words i n) 1)
    → IsOneEvent key s (record { words = slice_set s.words i n; homes = s.homes; views = slice_set s.views id (with_one v w shown cancel) }) m e

-- a step of the root by which it says so
abbrev pub DecisionIsOneEvent : Type 0
DecisionIsOneEvent =
    (key : Key) (s : YardState) (m : MeetsYard key s) (id n : ℕ) (v : YardView) (go : Go) (e : MachineEvent) → get_elem? s.views id ≡ some v → v.root ≡ true
    → 0 < length s.words → slice_index (slice_set s.words 0 n) 1 ≡ slice_index s.words 1 → m.go ≡ Pending → Decides (start_of key) (scene m.all go m.system) n (slice_index s.words 1) e
    → IsOneEvent key s (record { words = slice_set s.words 0 n; homes = s.homes; views = slice_set s.views id (with_decision v go) }) m (Some e)

-- ---- every step at once

-- a step of a seat: which seat, what it did, and what the seat is after it
pub record YardStep : Type 0 where
  pub id : ℕ
  pub step : Step Op
  pub new : YardSat

abbrev pub yard_step : ℕ → Step Op → YardSat → YardStep
yard_step id st new = record { id = id; step = st; new = new }

-- the state after it
abbrev pub after_step : YardState → YardStep → YardState
after_step s t =
    record { words = slice_set s.words t.step.word (word_after t.step.word t.step.said t.step (slice_index s.words t.step.word)); homes = s.homes; views = slice_set s.views t.id t.new.0 }

-- a load of this count
abbrev pub IsLoad : Step Op → ℕ → Type 0
IsLoad st i = (st.word ≡ i) × (st.first ≡ 0)

-- an addition of this to it
abbrev pub IsAddition : Step Op → ℕ → ℕ → Type 0
IsAddition st i n = (st.word ≡ i) × (st.first ≡ n)

-- The steps that an event comes of: a barrier is reached by an addition, and passed or left by a load of the same count. What lies between them is stored in an event word
abbrev pub OfStep : Step Op → Event → Type 0
OfStep st Take = IsLoad st 0
OfStep st Arrive = IsAddition st 0 1
OfStep st Pass = IsLoad st 0
OfStep st Leave = IsLoad st 0
OfStep st ArriveAgain = IsAddition st 1 1
OfStep st Release = IsLoad st 1
OfStep st other = (2 ≤ st.word) × (st.said ≡ none)

-- and an access is exchanged there
abbrev pub ComesOf : Step Op → Option MachineEvent → Type 0
ComesOf st None = Unit {0}
ComesOf st (Some Goes) = IsAddition st 0 1
ComesOf st (Some Cancels) = IsAddition st 0 4294967296
ComesOf st (Some (Steps k e)) = OfStep st e
ComesOf st (Some (Accesses k op)) = (2 ≤ st.word) × (st.said ≡ some op)
ComesOf st (Some other) = ⊥

-- such a step keeps the rule, and is one event of the yard's machine that comes of it, or none
pub record IsOneStep (key : Key) (s : YardState) (m : MeetsYard key s) (t : YardStep) : Type 0 where
  pub event : Option MachineEvent
  pub follows : IsOneEvent key s (after_step s t) m event
  pub comes : ComesOf t.step event

-- so it is with each step that the play lets a seat make in a yard that meets the rule, whatever the word, the operands and the seat
abbrev pub EachStepFollows : Type 0
EachStepFollows =
    (key : Key) (s : YardState) (m : MeetsYard key s) (id : ℕ) (st : Step Op) (me new : YardSat) → get_elem? s.views id ≡ some me.0 → TellsYardStep st me (slice_index s.words st.word) new
    → IsOneStep key s m (yard_step id st new)

-- a load of the second count by a pass shows its seat what it found, and no other step shows it anything
abbrev pub ShownIsFound : Type 0
ShownIsFound = (st : Step Op) (me new : YardSat) (found : ℕ) → TellsYardStep st me found new → (IsLoad st 1 × (new.0.shown ≡ Some found)) ⊎ ((IsLoad st 1 → ⊥) × (new.0.shown ≡ me.0.shown))

-- ---- what a seat tells of its yard

-- its resident left: this yard's update is cancelled, and the first count shows it
abbrev pub LeftWhereCancelled : Type 0
LeftWhereCancelled =
    (key : Key) (s : YardState) (m : MeetsYard key s) (j : ℕ) (v : YardView) (y : Resident) → get_elem? s.views j ≡ some v → v.held ≡ y ∷ [] → y.held.added ≡ Once
    → y.held.cpu.phase ≡ Running → (m.go ≡ Cancelled) × (4294967296 ≤ slice_index s.words 0)

-- its resident was released: this yard's go is given, and the second count shows all
abbrev pub ReleasedWhereFull : Type 0
ReleasedWhereFull =
    (key : Key) (s : YardState) (m : MeetsYard key s) (j : ℕ) (v : YardView) (y : Resident) → get_elem? s.views j ≡ some v → v.held ≡ y ∷ [] → y.held.added ≡ Twice
    → y.held.cpu.phase ≡ Running → (m.go ≡ Given) × (slice_index s.words 1 ≡ length key.cpus.value.items)

-- ---- no step

-- the root's first resident is given away, and a pass is taken back: no event
abbrev pub SplitIsNone : Type 0
SplitIsNone =
    (key : Key) (s : YardState) (m : MeetsYard key s) (id : ℕ) (v : YardView) (y : Resident) (ys : List Resident) → get_elem? s.views id ≡ some v → v.held ≡ y ∷ ys
    → IsOneEvent key s (record { words = s.words; homes = s.homes; views = slice_set s.views id (yard_left v) ++ yard_right v ∷ [] }) m None

abbrev pub JoinIsNone : Type 0
JoinIsNone =
    (key : Key) (s : YardState) (m : MeetsYard key s) (id other : ℕ) (v w : YardView) (y : Resident) → get_elem? s.views id ≡ some v → v.root ≡ true → ¬ (other ≡ id)
    → get_elem? s.views other ≡ some w → w.held ≡ y ∷ []
    → IsOneEvent key s (record { words = s.words; homes = s.homes; views = slice_set (slice_set s.views id (yard_both v w)) other yard_spent }) m None
