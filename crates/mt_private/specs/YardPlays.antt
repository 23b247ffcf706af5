-- What each step of a seat of a yard tells: its view before and after, and the event that it is. `TellsYardStep` has all of them.
use Rattle.std.specs.Prelude.{◌≡◌, ◌≢◌, ◌⊎◌, ℕ, zero, suc, ◌+◌, ◌%◌, ◌^◌, ◌<◌, ◌≤◌, ◌==◌, Bool, true, false, List, [], ◌∷◌, if◌then◌else◌, length, Option, None, Some}
use mathlib.Core.Option.{Option as Spoken, none, some}
use lib.ListN.{get_elem?}
use Rattle.atomic_table.specs.Table.{Me, Step, step}
use Rattle.mt_machine.specs.declared.op.Op.{Op}
use Rattle.mt_machine.specs.declared.phase.Phase.{Phase}
use Rattle.mt_machine.specs.declared.phase.Phase.TheVariants.{Arrived, Arrived2, Restored, Running, Taken}
use Rattle.mt_machine.specs.declared.event.Event.TheVariants.{Arrive, ArriveAgain, Leave, Pass, Release, Take}
use Rattle.mt_machine.specs.declared.go.Go.{Go}
use Rattle.mt_machine.specs.declared.go.Go.TheVariants.{Given, Cancelled, Pending}
use Rattle.mt_machine.specs.System.{System}
use Rattle.mt_machine.specs.Machine.{Accesses, Cancels, FitsGoal, FitsOp, Goes, MachineEvent, Steps, common_era}
use Rattle.mt_cpu.specs.Steps.{is_local}
use Rattle.mt_rendezvous.specs.declared.view.Start.{Start}
use Rattle.mt_rendezvous.specs.Calls.{SeatOf}
use Rattle.mt_rendezvous.specs.Plays.{Sat, arrive, arrive_again, does, late, own_event}
use Rattle.mt_private.specs.declared.view.Resident.{Resident}
use Rattle.mt_private.specs.declared.view.YardView.{YardView}
use Rattle.mt_private.specs.Residents.{Decides, ResidentFollows, Opens, Yard, accessed_by, stepped_by, with_held, with_stored, scene, move_of}
use Rattle.mt_rendezvous.specs.Station.{in_first}
use Rattle.mt_private.specs.YardRule.{as_view, with_one, with_decision}

abbrev pub YardSat : Type 0
YardSat = Me Op YardView

-- the coordinator says so, and the first count becomes this: there are residents for whom it is this event
pub record IsDecided (t : Start) (count : ℕ) (e : MachineEvent) (go : Go) : Type 0 where
  pub all : List Resident
  pub second : ℕ
  pub system : System
  pub decides : Decides t (scene all go system) count second e

-- the word after an addition
abbrev pub sum_word : Step Op → ℕ → ℕ
sum_word st found = (found + st.first) % 2 ^ 64

-- the root's additions to the first count: Go and Cancel. Each is said once
abbrev pub GivesYard : Step Op → YardSat → ℕ → YardSat → Type 0
GivesYard st me found new = (new.1 ≡ me.1) × (new.0 ≡ with_decision me.0 Given) × IsDecided me.0.start (sum_word st found) Goes Given × (me.0.go ≡ Pending)

abbrev pub CancelsYard : Step Op → YardSat → ℕ → YardSat → Type 0
CancelsYard st me found new = (new.1 ≡ me.1) × (new.0 ≡ with_decision me.0 Cancelled) × IsDecided me.0.start (sum_word st found) Cancels Cancelled × (me.0.go ≡ Pending) × (st.first ≡ 4294967296)

-- what a seat has of one at a rendezvous, where none has slots
abbrev pub as_sat : YardSat → Sat
as_sat me = (as_view me.0, [])

abbrev pub as_seat : SeatOf YardSat → SeatOf Sat
as_seat seat = record { table = seat.table; start = seat.start; its = seat.its; me = as_sat seat.me }

-- ---- the steps of a pass

-- what is so of the one resident of a view
abbrev pub OfOne : YardView → (Resident → Type 0) → Type 0
OfOne v P = (y : Resident) → v.held ≡ y ∷ [] → P y

-- the view has one resident, and its phase is one of these
abbrev pub HasOne : YardView → (Phase → Type 0) → Type 0
HasOne v P = (y : Resident) × (v.held ≡ y ∷ []) × P y.held.cpu.phase

-- A step of the pass with resident y, after which w stands in its place: there are residents, y among them, for whom it is this event, which was enabled, or none.
pub record PassMoves (t : Start) (y w : Resident) (e : Option MachineEvent) : Type 0 where
  pub all : List Resident
  pub go : Go
  pub first : ℕ
  pub second : ℕ
  pub system : System
  pub yard : Yard t (scene all go system) first second
  pub at : get_elem? all y.held.number ≡ some y
  pub later : ℕ × ℕ
  pub follows : ResidentFollows t (scene all go system) (move_of y.held.number w e) later.0 later.1

-- what a step leaves in a view: its resident, the second count that it was shown, and whether it was shown the cancel
pub record LeftAs : Type 0 where
  pub resident : Resident
  pub shown : Option ℕ
  pub cancel : Bool

abbrev pub left_as : Resident → Option ℕ → Bool → LeftAs
left_as w shown cancel = record { resident = w; shown = shown; cancel = cancel }

-- the view becomes the one with this, and that is what the step was
abbrev pub Turns : YardView → YardView → Resident → LeftAs → Option MachineEvent → Type 0
Turns v new y l e = (new ≡ with_one v l.resident l.shown l.cancel) × PassMoves v.start y l.resident e

abbrev pub TurnsUnshown : YardSat → YardSat → Resident → Resident → Option MachineEvent → Type 0
TurnsUnshown me new y w e = Turns me.0 new.0 y (left_as w me.0.shown me.0.cancel) e

-- its processor fits the goal, and has the era of all
abbrev pub IsCallable : Start → Resident → Type 0
IsCallable t y = FitsGoal t.goal y.held.cpu × (y.held.cpu.era ≡ common_era t.cpus)

-- a load of the first count by a resident that hasn't taken: Take, or none where it shows the cancel. It tells besides that the resident's own machine may be called
abbrev pub TakesYard : Step Op → YardSat → ℕ → YardSat → Type 0
TakesYard st me found new =
    (new.1 ≡ me.1)
    × (found < 4294967296 → Opens me.0.start × OfOne me.0 (λ y. TurnsUnshown me new y (stepped_by me.0.start Take y) (Some (Steps y.held.number Take)) × IsCallable me.0.start y))
    × (4294967296 ≤ found → OfOne me.0 (λ y. Turns me.0 new.0 y (left_as y me.0.shown true) None))
    × HasOne me.0 (λ phase. phase ≡ Running)

-- an addition to the first count: Arrive, or none where the count held the cancel before
abbrev pub ArrivesYard : Step Op → YardSat → ℕ → YardSat → Type 0
ArrivesYard st me found new =
    (new.1 ≡ me.1)
    × (found < 4294967296 → OfOne me.0 (λ y. TurnsUnshown me new y (with_held y (arrive me.0.start y.held)) (Some (Steps y.held.number Arrive))))
    × (4294967296 ≤ found → OfOne me.0 (λ y. TurnsUnshown me new y (with_held y (late y.held)) None))
    × HasOne me.0 (λ phase. phase ≡ Taken)

-- a load of the first count by one that waits: Pass where all have added and go is given, Leave where it shows the cancel, else none
abbrev pub PassesYard : Step Op → YardSat → ℕ → YardSat → Type 0
PassesYard st me found new =
    (new.1 ≡ me.1)
    × (found ≡ length me.0.start.cpus + 1 → OfOne me.0 (λ y. TurnsUnshown me new y (with_held y (does me.0.start Pass y.held)) (Some (Steps y.held.number Pass)) × (y.held.cpu.phase ≡ Arrived)))
    × (4294967296 ≤ found → OfOne me.0 (λ y. Turns me.0 new.0 y (left_as (with_held y (does me.0.start Leave y.held)) me.0.shown true) (Some (Steps y.held.number Leave))))
    × (found < 4294967296 → found ≢ length me.0.start.cpus + 1 → OfOne me.0 (λ y. TurnsUnshown me new y y None))
    × HasOne me.0 (λ phase. (phase ≡ Taken) ⊎ (phase ≡ Arrived))

-- the word of the pass's own events
abbrev pub IsOwnWord : ℕ → YardSat → Type 0
IsOwnWord i me = OfOne me.0 (λ y. i ≡ y.held.number + 2)

-- a store of the own event word: the event that is due between the barriers
abbrev pub WorksYard : Step Op → YardSat → ℕ → YardSat → Type 0
WorksYard st me found new =
    (new.1 ≡ me.1)
    × OfOne me.0 (λ y. TurnsUnshown me new y (with_stored (stepped_by me.0.start (own_event me.0.start y.held.cpu) y) st.first) (Some (Steps y.held.number (own_event me.0.start y.held.cpu))))
    × IsOwnWord st.word me
    × HasOne me.0 (λ phase. is_local phase ≡ true)

-- an exchange of the own event word that announces an access, which it is where it finds what it compares with; else it is none. What it finds is what the pass stored last
abbrev pub AccessesYard : Step Op → YardSat → ℕ → YardSat → Type 0
AccessesYard st me found new =
    (new.1 ≡ me.1)
    × (found ≡ st.first → (op : Op) → st.said ≡ some op → OfOne me.0 (λ y. TurnsUnshown me new y (with_stored (accessed_by op y) st.second) (Some (Accesses y.held.number op))))
    × (found ≢ st.first → OfOne me.0 (λ y. TurnsUnshown me new y y None))
    × OfOne me.0 (λ y. found ≡ y.stored)
    × IsOwnWord st.word me
    × HasOne me.0 (λ phase. phase ≡ Running)
    × ((op : Op) → st.said ≡ some op → FitsOp op)

-- an addition to the second count: ArriveAgain
abbrev pub ArrivesAgainYard : Step Op → YardSat → ℕ → YardSat → Type 0
ArrivesAgainYard st me found new =
    (new.1 ≡ me.1)
    × OfOne me.0 (λ y. TurnsUnshown me new y (with_held y (arrive_again me.0.start y.held)) (Some (Steps y.held.number ArriveAgain)))
    × HasOne me.0 (λ phase. phase ≡ Restored)

-- a load of the second count, which the view keeps: Release where all have arrived again, else none
abbrev pub ReleasesYard : Step Op → YardSat → ℕ → YardSat → Type 0
ReleasesYard st me found new =
    (new.1 ≡ me.1)
    × (found ≡ length me.0.start.cpus → OfOne me.0 (λ y. Turns me.0 new.0 y (left_as (with_held y (does me.0.start Release y.held)) (Some found) me.0.cancel) (Some (Steps y.held.number Release))))
    × (found ≢ length me.0.start.cpus → OfOne me.0 (λ y. Turns me.0 new.0 y (left_as y (Some found) me.0.cancel) None))
    × HasOne me.0 (λ phase. phase ≡ Arrived2)

-- ---- all steps

-- what a step tells
abbrev pub Tale : Type 1
Tale = Step Op → YardSat → ℕ → YardSat → Type 0

-- there is no such step
abbrev pub NoStep : Step Op → YardSat → ℕ → YardSat → Type 0
NoStep st me found new = ⊥

-- of the host, by the word and what it adds
abbrev pub OfHost : ℕ → ℕ → Tale
OfHost zero zero = NoStep
OfHost zero (suc zero) = GivesYard
OfHost zero (suc (suc n)) = CancelsYard
OfHost (suc i) n = NoStep

-- of a pass on the first count, by what it adds, which is 0 at a load, and by whether the pass has added before
abbrev pub OnFirst : ℕ → Bool → Tale
OnFirst zero false = TakesYard
OnFirst zero true = PassesYard
OnFirst (suc zero) false = ArrivesYard
OnFirst (suc zero) true = NoStep
OnFirst (suc (suc n)) added = NoStep

-- on the second count
abbrev pub OnSecond : ℕ → Tale
OnSecond zero = ReleasesYard
OnSecond (suc zero) = ArrivesAgainYard
OnSecond (suc (suc n)) = NoStep

-- on its event word, by the access that it announces
abbrev pub OnOwn : Spoken Op → Tale
OnOwn none = WorksYard
OnOwn (some op) = AccessesYard

-- of a pass, by the word
abbrev pub OfPass : ℕ → ℕ → Spoken Op → Bool → Tale
OfPass zero n said added = OnFirst n added
OfPass (suc zero) n said added = OnSecond n
OfPass (suc (suc i)) n said added = OnOwn said

abbrev pub OfSeat : Bool → ℕ → ℕ → Spoken Op → Bool → Tale
OfSeat true i n said added = OfHost i n
OfSeat false i n said added = OfPass i n said added

-- whether the pass of the first of these has added to the first count
abbrev pub has_added : List Resident → Bool
has_added [] = false
has_added (y ∷ ys) = in_first y.held.added

-- each step of a seat of a yard is one of these, and tells what that one does
abbrev pub TellsYardStep : Step Op → YardSat → ℕ → YardSat → Type 0
TellsYardStep st me found new = OfSeat me.0.root st.word st.first st.said (has_added me.0.held) st me found new

-- the seat becomes the other by a step of word i with this operand
abbrev pub Made : ℕ → ℕ → YardSat → YardSat → Type 0
Made i a me new = (found : ℕ) × TellsYardStep (step 0 i a 0 none) me found new

-- what a step leaves in its word: in a count the sum, in an event word what is stored, or what an exchange puts there
abbrev pub own_word_after : Spoken Op → Step Op → ℕ → ℕ
own_word_after none st found = st.first
own_word_after (some op) st found = if found == st.first then st.second else found

abbrev pub word_after : ℕ → Spoken Op → Step Op → ℕ → ℕ
word_after zero said st found = sum_word st found
word_after (suc zero) said st found = sum_word st found
word_after (suc (suc i)) said st found = own_word_after said st found
