-- What holds in a yard: relations on a table and what it was gathered from, applied to the yard's own, and to seats, passes, guests and visitors.
use Rattle.std.specs.Prelude.{◌≡◌, ◌⊎◌, ℕ, Bool, true, List, length, slice_get, None, Some}
use Rattle.atomic_table.specs.declared.shared.Seat.{Seat}
use Rattle.mt_regs.specs.RegisterFile.{RegisterFile}
use Rattle.mt_machine.specs.declared.go.Go.{Go}
use Rattle.mt_machine.specs.declared.go.Go.TheVariants.{Cancelled, Given, Pending}
use Rattle.mt_machine.specs.declared.op.Op.{Op}
use Rattle.mt_machine.specs.declared.phase.Phase.{Phase}
use Rattle.mt_machine.specs.declared.phase.Phase.TheVariants.{Arrived, Arrived2, Passed, Running, Taken}
use Rattle.mt_machine.specs.System.{System}
use Rattle.mt_bus.specs.declared.system_parts.SystemParts.{SystemParts}
use Rattle.mt_machine.specs.Machine.{Machine, is_changing}
use Rattle.mt_rendezvous.specs.declared.view.Added.{Added}
use Rattle.mt_rendezvous.specs.declared.view.Added.TheVariants.{Never, Once, Twice}
use Rattle.mt_rendezvous.specs.declared.view.Start.{Start}
use Rattle.mt_rendezvous.specs.Calls.{IsRoot, Leads, PassOf, SeatOf}
use Rattle.mt_rendezvous.specs.Station.{start_of}
use Rattle.mt_rendezvous.specs.Update.{decided}
use Rattle.mt_private.specs.declared.host.Host.{Host}
use Rattle.mt_private.specs.declared.host.Yard.{Yard}
use Rattle.mt_private.specs.declared.job.Job.{Job}
use Rattle.mt_private.specs.declared.job.JobAnswers.{JobAnswers}
use Rattle.mt_private.specs.declared.rooms.Room.{Room}
use Rattle.mt_private.specs.declared.shared.Shared.{Shared}
use Rattle.mt_private.specs.declared.view.Resident.{Resident}
use Rattle.mt_private.specs.declared.view.YardView.{YardView}
use Rattle.mt_private.specs.declared.visiting.Guest.{Guest}
use Rattle.mt_private.specs.declared.visiting.Visited.{Visited}
use Rattle.mt_private.specs.declared.visiting.YardPass.{YardPass}
use Rattle.mt_private.specs.declared.visitor.Visitor.{Visitor}
use Rattle.mt_private.specs.Gathered.{AreFirst, AreGathered, IsGathered, IsRest, Offers, pass_of}
use Rattle.mt_private.specs.Left.{AreBack, YardEnds}
use Rattle.mt_private.specs.Visitors.{AreWaiting, HasCome, IsFresh, IsNew, Returned}
use Rattle.mt_private.specs.YardCalls.{AreIn, IsDrained, IsLeft, KeepsOwn, Lodges, LodgesAtMostOnce, Stay, VisitEnds, Visits, done_in}
use Rattle.mt_private.specs.YardPlays.{Made, YardSat, as_seat, has_added}

-- from what it was gathered
abbrev pub start_at : Yard → Start
start_at yard = start_of yard.table.shared.key

abbrev pub goal_at : Yard → RegisterFile
goal_at yard = yard.table.shared.key.goal.value

-- ---- the host

abbrev pub seat_in : Yard → Seat Op YardView → SeatOf YardSat
seat_in yard seat = record { table = yard.table.shared.table_id; start = start_at yard; its = seat.table_id; me = seat.me }

-- a seat is the root's of this yard, and has said this
abbrev pub LeadsIn : Yard → Seat Op YardView → Go → Type 0
LeadsIn yard seat go = Leads (as_seat (seat_in yard seat)) go

-- it has the residents from number i on
abbrev pub OffersIn : Yard → ℕ → Seat Op YardView → Type 0
OffersIn yard i seat = Offers (start_at yard) i seat.me

-- the host is of this yard, and has said this
abbrev pub HostsIn : Yard → Host → Go → Type 0
HostsIn yard host go = LeadsIn yard host.seat go

-- the host is of this yard, whatever it has said
abbrev pub IsHostOf : Yard → Host → Type 0
IsHostOf yard host = IsRoot (as_seat (seat_in yard host.seat))

abbrev pub host_view : Host → YardView
host_view host = host.seat.me.0

-- what it has said: nothing yet, the go or the cancel
abbrev pub said_by : Host → Go
said_by host = (host_view host).go

-- the residents that it holds
abbrev pub held_by : Host → List Resident
held_by host = (host_view host).held

abbrev pub HasCancelledIn : Yard → Host → Type 0
HasCancelledIn yard host = IsHostOf yard host × (said_by host ≡ Cancelled)

-- it has given the go, or cancelled
abbrev pub HasDecided : Host → Type 0
HasDecided host = (given : Bool) × (said_by host ≡ decided given)

-- its step that adds this to the first count
abbrev pub AddsToFirst : ℕ → Host → Host → Type 0
AddsToFirst n host later = Made 0 n host.seat.me later.seat.me

-- it holds no resident, and no guest has come back
abbrev pub IsFreshHost : Yard → Host → Type 0
IsFreshHost yard host = IsFresh (start_at yard) (host_view host) host.owns.items

-- it holds what it held
abbrev pub HoldsAsBefore : Host → Host → Type 0
HoldsAsBefore old new = (held_by new ≡ held_by old) × (new.owns ≡ old.owns) × (new.rest ≡ old.rest)

-- each own system that came back is of a resident that it holds
abbrev pub KeepsOwns : Host → Type 0
KeepsOwns host = KeepsOwn (host_view host) host.owns.items

-- every guest has come back
abbrev pub AllBackIn : Yard → Host → Type 0
AllBackIn yard host = AreBack yard.count (host_view host) host.owns.items

-- the yard ends with this system
abbrev pub LeavesIn : Yard → Host → System → Type 0
LeavesIn yard host s = YardEnds (start_at yard) (host_view host) s

-- ---- passes and guests

abbrev pub pass_view : YardPass → YardView
pass_view pass = pass.seat.me.0

abbrev pub pass_in : Yard → YardPass → PassOf YardSat
pass_in yard pass = pass_of yard.table.shared.table_id (start_at yard) pass

-- the pass's seat lodges its resident, which has this own system
abbrev pub LodgesIn : Yard → YardPass → System → Added → Type 0
LodgesIn yard pass own added = Lodges (pass_in yard pass) own added

-- the pass's processor has added to the first count
abbrev pub HasAdded : YardPass → Type 0
HasAdded pass = has_added (pass_view pass).held ≡ true

-- the accesses that it has done
abbrev pub done_of : YardPass → List Op
done_of pass = done_in pass.seat.me

-- the guest is of this yard, whatever its pass has added
abbrev pub IsGuestOf : Yard → Guest → Type 0
IsGuestOf yard guest = (added : Added) × LodgesIn yard guest.pass guest.own added

-- what comes of a guest with that pass and that stay
abbrev pub VisitEndsIn : Visited → Yard → YardPass → Stay → Type 0
VisitEndsIn visited yard pass stay = VisitEnds visited (pass_in yard pass) stay

abbrev pub IsGatheredIn : Yard → ℕ → Guest → Type 0
IsGatheredIn yard k guest = IsGathered (pass_in yard guest.pass) k guest.own

abbrev pub AreGatheredIn : Yard → List Guest → Type 0
AreGatheredIn yard guests = AreGathered yard.table.shared.table_id (start_at yard) guests

-- these parts and rooms are of the first processors of the system that was gathered
abbrev pub AreFirstIn : Yard → SystemParts → List Room → Type 0
AreFirstIn yard parts rooms = AreFirst (start_at yard) parts.cpus.items parts.tables.items rooms

-- what is gathered from this start: the yard, its host, which has said nothing, and a guest for each processor
pub record IsGatheredFrom (t : Start) (yard : Yard) (host : Host) (guests : List Guest) : Type 0 where
  pub key : start_at yard ≡ t
  pub hosts : HostsIn yard host Pending
  pub fresh : IsFreshHost yard host
  pub rest : IsRest t host.rest
  pub count : length guests ≡ length t.cpus
  pub guests_are : AreGatheredIn yard guests

-- ---- the states of a visitor, which its pass and its own machine are in

-- it hasn't taken: its processor runs, and its pass has added to no count
pub record HasNotTaken (yard : Yard) (pass : YardPass) (core : Machine) : Type 0 where
  pub lodges : LodgesIn yard pass core.system Never
  pub runs : AreIn Running core.system
  pub idle : core.order ≡ None

-- the five that follow are of an update that began from a first system, at which the goal could be called

-- it has taken: its buffers are empty, and nothing else has changed
pub record IsTaken (yard : Yard) (pass : YardPass) (core : Machine) (first : System) : Type 0 where
  pub visits : Visits (pass_in yard pass) core Never Pending first
  pub phase : AreIn Taken core.system
  pub drained : IsDrained first core.system

-- its pass has added to the first count, which is the event Arrive unless the count held the cancel
pub record HasArrived (yard : Yard) (pass : YardPass) (core : Machine) (first : System) : Type 0 where
  pub visits : Visits (pass_in yard pass) core Once Pending first
  pub phase : AreIn Taken core.system ⊎ AreIn Arrived core.system
  pub drained : IsDrained first core.system

-- it has passed the first barrier
pub record HasPassed (yard : Yard) (pass : YardPass) (core : Machine) (first : System) : Type 0 where
  pub visits : Visits (pass_in yard pass) core Once Given first
  pub phase : AreIn Passed core.system

-- it is between the barriers
pub record IsBetween (yard : Yard) (pass : YardPass) (core : Machine) (first : System) : Type 0 where
  pub visits : Visits (pass_in yard pass) core Once Given first
  pub phase : (ph : Phase) × AreIn ph core.system × (is_changing ph ≡ true)

-- its pass has added to the second count
pub record HasArrivedAgain (yard : Yard) (pass : YardPass) (core : Machine) (first : System) : Type 0 where
  pub visits : Visits (pass_in yard pass) core Twice Given first
  pub phase : AreIn Arrived2 core.system

-- it has left the second barrier: its processor runs, and a load of the second count showed all processors
pub record IsReleased (yard : Yard) (pass : YardPass) (core : Machine) : Type 0 where
  pub lodges : LodgesIn yard pass core.system Twice
  pub runs : AreIn Running core.system
  pub shown : (pass_view pass).shown ≡ Some yard.count

-- it has left an update that was cancelled, which began from a first system: a load of the first count showed the cancel
pub record HasLeft (yard : Yard) (pass : YardPass) (core : Machine) (first : System) : Type 0 where
  pub lodges : LodgesAtMostOnce (pass_in yard pass) core.system
  pub cancel : (pass_view pass).cancel ≡ true
  pub left : IsLeft first core.system

-- it takes no part in an update, so it may access its pages
abbrev pub IsOutside : Yard → YardPass → Machine → Type 0
IsOutside yard pass core = HasNotTaken yard pass core ⊎ IsReleased yard pass core

-- ---- visitors of a run

-- it has this number and the job at that place, and has not begun
pub record IsNewIn (shared : Shared) (k : ℕ) (visitor : Visitor) : Type 0 where
  pub job : Job
  pub at : slice_get shared.jobs.items k ≡ Some job
  pub new : IsNew shared.yard.table.shared.table_id (start_at shared.yard) job k visitor

-- it has this number and the job at that place, and its visit has ended
pub record HasComeIn (shared : Shared) (k : ℕ) (visitor : Visitor) : Type 0 where
  pub job : Job
  pub at : slice_get shared.jobs.items k ≡ Some job
  pub come : HasCome shared.yard.table.shared.table_id (start_at shared.yard) job k visitor

-- none of these guests has begun, and each has a place for its answers
abbrev pub AreWaitingIn : Shared → List Guest → List JobAnswers → Type 0
AreWaitingIn shared waiting told = AreWaiting shared.yard.table.shared.table_id (start_at shared.yard) shared.jobs.items waiting told

-- the host has said so, and the first visitors have come back, as many, with these answers
pub record ReturnedIn (shared : Shared) (host : Host) (go : Go) (count : ℕ) (told : List JobAnswers) : Type 0 where
  pub came : Returned (seat_in shared.yard host.seat) shared.jobs.items host.owns.items told
  pub said : said_by host ≡ go
  pub whole : length told ≡ count
