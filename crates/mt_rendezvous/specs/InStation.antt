-- What holds at a station: relations on a table and what it was gathered from, applied to the station's own, and to the root, passes and attendees.
use Rattle.std.specs.Prelude.{◌≡◌, ℕ, ◌+◌, Bool, true, false, List, [], ◌∷◌, length, Option, None, Some, slice_get}
use Rattle.std.specs.List.{All}
use mathlib.Core.Option.{some}
use lib.ListN.{get_elem?}
use Rattle.mt_regs.specs.RegisterFile.{RegisterFile}
use Rattle.mt_machine.specs.declared.phase.Phase.TheVariants.{Arrived2, Running, Taken}
use Rattle.mt_machine.specs.declared.go.Go.{Go}
use Rattle.mt_machine.specs.declared.go.Go.TheVariants.{Cancelled, Given, Pending}
use Rattle.mt_machine.specs.declared.event.Event.TheVariants.{Leave, Pass as PassEvent}
use Rattle.mt_machine.specs.Memory.{Memory, Window}
use Rattle.mt_machine.specs.System.{Processor}
use Rattle.mt_machine.specs.Machine.{common_era, is_changing, own_step}
use Rattle.mt_machine.specs.Update.{settled_processor}
use Rattle.mt_rendezvous.specs.declared.station.Attendee.{Attendee}
use Rattle.mt_rendezvous.specs.declared.station.Outcome.{Outcome}
use Rattle.mt_rendezvous.specs.declared.station.Outcome.TheVariants.{Cancelled as Stopped, Complete}
use Rattle.mt_rendezvous.specs.declared.station.Pass.{Pass}
use Rattle.mt_rendezvous.specs.declared.station.Root.{Root}
use Rattle.mt_rendezvous.specs.declared.station.Station.{Station}
use Rattle.mt_rendezvous.specs.declared.view.Added.{Added}
use Rattle.mt_rendezvous.specs.declared.view.Added.TheVariants.{Never, Once, Twice}
use Rattle.mt_rendezvous.specs.declared.view.Held.{Held}
use Rattle.mt_rendezvous.specs.declared.view.Start.{Start}
use Rattle.mt_rendezvous.specs.declared.view.View.{View}
use Rattle.mt_rendezvous.specs.Station.{Begins, start_of}
use Rattle.mt_rendezvous.specs.Plays.{IsWaiting, Made, Sat, StandsInUpdate}
use Rattle.mt_rendezvous.specs.Update.{decided}
use Rattle.mt_rendezvous.specs.Calls.{Carries, Ends, HasAdded, IsRoot, Leads, Offers, PassOf, SeatOf}

-- from what it was gathered
abbrev pub start_at : Station → Start
start_at station = start_of station.table.shared.key

abbrev pub goal_at : Station → RegisterFile
goal_at station = station.table.shared.key.goal.value

abbrev pub windows_at : Station → List Window
windows_at station = station.table.shared.key.ram.value.windows

-- the processor with this number was gathered so
abbrev pub IsAsGathered : Station → ℕ → Processor → Type 0
IsAsGathered station k c = slice_get (start_at station).cpus k ≡ Some c

-- ---- the root

abbrev pub seat_in : Station → Root → SeatOf Sat
seat_in station root = record { table = station.table.shared.table_id; start = start_at station; its = root.seat.table_id; me = root.seat.me }

abbrev pub IsRootIn : Station → Root → Type 0
IsRootIn station root = IsRoot (seat_in station root)

-- it has said so: nothing yet, the go, or the cancel
abbrev pub LeadsIn : Station → Root → Go → Type 0
LeadsIn station root go = Leads (seat_in station root) go

-- it has the processors from number i on
abbrev pub OffersIn : Station → ℕ → Root → Type 0
OffersIn station i root = Offers (start_at station) i root.seat.me

abbrev pub root_view : Root → View
root_view root = root.seat.me.0

-- the processors that it has
abbrev pub held_by : Root → List Held
held_by root = (root_view root).held

abbrev pub said_by : Root → Go
said_by root = (root_view root).go

abbrev pub HasCancelledIn : Station → Root → Type 0
HasCancelledIn station root = IsRootIn station root × (said_by root ≡ Cancelled)

-- it has given the go, or cancelled
abbrev pub HasDecided : Root → Type 0
HasDecided root = (given : Bool) × (said_by root ≡ decided given)

-- its step that adds this to the first count
abbrev pub AddsToFirst : ℕ → Root → Root → Type 0
AddsToFirst n root later = Made 0 n root.seat.me later.seat.me

-- where the station ends, with this memory
abbrev pub EndsIn : Station → Root → Memory → Type 0
EndsIn station root ram = Ends (start_at station) (root_view root) ram

-- ---- passes

abbrev pub pass_view : Pass → View
pass_view pass = pass.seat.me.0

-- the second count that its last load of it showed
abbrev pub shown_to : Pass → Option ℕ
shown_to pass = (pass_view pass).shown

abbrev pub pass_in : Station → Pass → PassOf Sat
pass_in station pass = record { table = station.table.shared.table_id; start = start_at station; its = pass.seat.table_id; me = pass.seat.me; number = pass.number }

-- it has this processor, and has added so to the two counts
abbrev pub CarriesIn : Station → Pass → Processor → Added → Type 0
CarriesIn station pass cpu added = Carries (pass_in station pass) cpu added

abbrev pub HasAddedIn : Pass → Type 0
HasAddedIn pass = HasAdded (pass_view pass)

-- what comes of an attendee: its processor p is q, the one that the update leaves, after a load showed that all had arrived again; or it is as it was, and runs
abbrev pub AttendedIn : Outcome → Station → Pass → Processor → Processor → Type 0
AttendedIn Complete station pass p q = CarriesIn station pass q Twice × (shown_to pass ≡ Some (length (start_at station).cpus)) × (q ≡ settled_processor (goal_at station) p)
AttendedIn Stopped station pass p q = CarriesIn station pass q Once × (q ≡ record p { phase = Running })

-- ---- the states of a pass and its processor, from the first to the last

-- the processor has taken, and its pass has added nothing
pub record IsTaken (station : Station) (pass : Pass) (cpu : Processor) : Type 0 where
  pub carries : CarriesIn station pass cpu Never
  pub taken : cpu.phase ≡ Taken

-- the pass has added to the first count, and its processor waits there
pub record HasArrived (station : Station) (pass : Pass) (cpu : Processor) : Type 0 where
  pub begins : Begins (start_at station)
  pub carries : CarriesIn station pass cpu Once
  pub waits : IsWaiting cpu.phase

-- the go was given, and the processor is between the barriers
pub record HasPassed (station : Station) (pass : Pass) (cpu : Processor) : Type 0 where
  pub begins : Begins (start_at station)
  pub carries : CarriesIn station pass cpu Once
  pub stands : StandsInUpdate (start_at station) Given pass.number cpu
  pub between : is_changing cpu.phase ≡ true

-- the pass has added to the second count, and its processor waits there
pub record HasArrivedAgain (station : Station) (pass : Pass) (cpu : Processor) : Type 0 where
  pub begins : Begins (start_at station)
  pub carries : CarriesIn station pass cpu Twice
  pub waits : cpu.phase ≡ Arrived2

-- a load showed that all had arrived again, and the processor runs
pub record IsReleased (station : Station) (pass : Pass) (cpu : Processor) : Type 0 where
  pub carries : CarriesIn station pass cpu Twice
  pub shown : shown_to pass ≡ Some station.count
  pub runs : cpu.phase ≡ Running
  pub risen : cpu.era ≡ common_era (start_at station).cpus + 1

-- a load showed the cancel in place of the go, and the processor runs
pub record HasLeft (station : Station) (pass : Pass) (cpu : Processor) : Type 0 where
  pub carries : CarriesIn station pass cpu Once
  pub runs : cpu.phase ≡ Running

-- what the first wait leads to, by the event that ends it
abbrev pub Waited : Bool → Station → Pass → Processor → Processor → Type 0
Waited true station pass p q = HasPassed station pass q × (q ≡ own_step (goal_at station) PassEvent p)
Waited false station pass p q = HasLeft station pass q × (q ≡ own_step (goal_at station) Leave p)

-- ---- attendees

-- the attendee carries the processor with this number as it was gathered, and its pass has added nothing and has been shown nothing
pub record IsNewIn (station : Station) (k : ℕ) (a : Attendee) : Type 0 where
  pub numbered : a.pass.number ≡ k
  pub first : IsAsGathered station k a.cpu
  pub carries : CarriesIn station a.pass a.cpu Never
  pub unshown : shown_to a.pass ≡ None

-- so do these, by their places
abbrev pub AllNewIn : Station → List Attendee → Type 0
AllNewIn station items = (k : ℕ) (a : Attendee) → get_elem? items k ≡ some a → IsNewIn station k a

-- it has not begun, and has this number
abbrev pub IsTakenAs : Station → ℕ → Attendee → Type 0
IsTakenAs station k a = IsTaken station a.pass a.cpu × (a.pass.number ≡ k)

-- attendees that have not begun, by their numbers
pub record IsQueue (station : Station) (items : List Attendee) : Type 0 where
  pub ready : (k : ℕ) (a : Attendee) → get_elem? items k ≡ some a → IsTakenAs station k a

-- one fewer are left of them
abbrev pub OneLess : Station → List Attendee → List Attendee → Type 0
OneLess station items left = (length items ≡ length left + 1) × IsQueue station left

-- its pass holds its processor, whatever the pass has added
abbrev pub HoldsOneIn : Station → Attendee → Type 0
HoldsOneIn station a =
    (h : Held) × (a.pass.seat.table_id ≡ station.table.shared.table_id) × (a.pass.seat.me.1 ≡ []) × ((pass_view a.pass).held ≡ h ∷ []) × (h.cpu ≡ a.cpu) × (h.number ≡ a.pass.number)

-- it has ended, and has this number
pub record CameAs (station : Station) (k : ℕ) (a : Attendee) : Type 0 where
  pub holds : HoldsOneIn station a
  pub runs : a.cpu.phase ≡ Running
  pub numbered : a.pass.number ≡ k

-- ---- what is gathered

-- a station of this start: its root, before the go, and an attendee for each processor, which carries it as it was
pub record IsGatheredIn (t : Start) (station : Station) (root : Root) (items : List Attendee) : Type 0 where
  pub key : start_at station ≡ t
  pub leads : LeadsIn station root Pending
  pub count : length items ≡ length t.cpus
  pub attendees : AllNewIn station items

-- ---- where the threads end

-- the root has each of these processors, by their numbers
abbrev pub Tied : View → List Processor → Type 0
Tied v done = (i : ℕ) (c : Processor) → slice_get done i ≡ Some c → (p : ℕ) × (h : Held) × (get_elem? v.held p ≡ some h) × (h.number ≡ i) × (h.cpu ≡ c)

-- the root has said so and has so many processors, which are these, and each runs
pub record Returned (station : Station) (root : Root) (go : Go) (count : ℕ) (done : List Processor) : Type 0 where
  pub is_root : IsRootIn station root
  pub said : said_by root ≡ go
  pub tied : Tied (root_view root) done
  pub ran : All (λ c. c.phase ≡ Running) done
  pub whole : length done ≡ count
