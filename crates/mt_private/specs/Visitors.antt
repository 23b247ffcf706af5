-- Visitors of a yard on threads (own).
use Rattle.std.specs.Prelude.{◌≡◌, ℕ, ◌<◌, ◌≤◌, true, List, [], ◌∷◌, length, map, replicate, slice_get, Option, None, Some}
use Rattle.std.specs.List.{All}
use mathlib.Core.Option.{some}
use lib.ListN.{get_elem?}
use Rattle.atomic_table.specs.Seated.{TableId}
use Rattle.mt_machine.specs.declared.go.Go.TheVariants.{Given}
use Rattle.mt_machine.specs.declared.phase.Phase.TheVariants.{Running}
use Rattle.mt_regs.specs.RegisterFile.{RegisterFile}
use Rattle.mt_machine.specs.System.{System}
use Rattle.mt_machine.specs.Machine.{Calls, IsEnabled, Machine}
use Rattle.mt_machine.specs.Start.{HasEraRoom, IsQuiet}
use Rattle.mt_rendezvous.specs.declared.view.Start.{Start}
use Rattle.mt_rendezvous.specs.Calls.{IsRoot, PassOf, SeatOf}
use Rattle.mt_private.specs.declared.job.Job.{Job}
use Rattle.mt_private.specs.declared.job.Part.{Part}
use Rattle.mt_private.specs.declared.job.Part.TheVariants.{After, Before}
use Rattle.mt_private.specs.declared.job.JobAnswers.{JobAnswers}
use Rattle.mt_private.specs.declared.view.Resident.{Resident}
use Rattle.mt_private.specs.declared.view.YardView.{YardView}
use Rattle.mt_private.specs.declared.visiting.Guest.{Guest}
use Rattle.mt_private.specs.declared.visiting.Visited.{Visited}
use Rattle.mt_private.specs.declared.visiting.Visited.TheVariants.{Cancelled}
use Rattle.mt_private.specs.declared.visitor.Visitor.{Visitor}
use Rattle.mt_private.specs.Gathered.{AreGathered, IsGathered, pass_of}
use Rattle.mt_private.specs.Jobs.{AreOpen, FitsJob, IsOpen, answers_in}
use Rattle.mt_private.specs.Left.{AreOwnsOf, YardEnds}
use Rattle.mt_private.specs.OneByOne.{jobs_one_by_one}
use Rattle.mt_private.specs.Own.{own_system}
use Rattle.mt_private.specs.Residents.{pages_at, system_of}
use Rattle.mt_private.specs.YardCalls.{AreIn, KeepsOwn, Stay, VisitEnds}
use Rattle.mt_private.specs.YardPlays.{YardSat, as_seat}

-- the own system of processor k, as it was gathered
abbrev pub own_at : Start → ℕ → System
own_at t k = own_system (pages_at t k) k (system_of t)

-- a stay of guest k from then on
abbrev pub stay_at : Start → ℕ → Job → System → JobAnswers → Stay
stay_at t k job last told = record { job = job; first = own_at t k; last = last; told = told }

-- ---- one visitor

-- it has not begun: it is the guest with this number as it was gathered, its processor runs, and there is room for the answers to its job
pub record IsNew (table : TableId) (t : Start) (job : Job) (k : ℕ) (v : Visitor) : Type 0 where
  pub gathered : IsGathered (pass_of table t v.pass) k v.core.system
  pub idle : v.core.order ≡ None
  pub runs : AreIn Running v.core.system
  pub fits : FitsJob job
  pub has_room : (part : Part) → IsOpen part job v.told

-- its visit has ended, it has this number and runs, and where it left there is room still for the answers after the update
pub record HasCome (table : TableId) (t : Start) (job : Job) (k : ℕ) (v : Visitor) : Type 0 where
  pub ends : VisitEnds v.visited (pass_of table t v.pass) (stay_at t k job v.core.system v.told)
  pub numbered : v.pass.number ≡ k
  pub runs : AreIn Running v.core.system
  pub has_room : v.visited ≡ Cancelled → IsOpen After job v.told

-- ---- all of them

-- guests as they were gathered, each with room for the answers to its job
pub record AreWaiting (table : TableId) (t : Start) (jobs : List Job) (waiting : List Guest) (told : List JobAnswers) : Type 0 where
  pub gathered : AreGathered table t waiting
  pub running : (k : ℕ) (g : Guest) → slice_get waiting k ≡ Some g → AreIn Running g.own
  pub few : length waiting ≤ length jobs
  pub one_each : length told ≡ length waiting
  pub fits : All FitsJob jobs
  pub has_room : (part : Part) → AreOpen part jobs told

-- the host holds no resident and keeps nothing yet
abbrev pub IsFresh : Start → YardView → List (Option System) → Type 0
IsFresh t v owns = (v.held ≡ []) × (owns ≡ replicate (length t.cpus) None)

-- the seat of a pass of the host's table
abbrev pub pass_to : SeatOf YardSat → ℕ → TableId → YardSat → PassOf YardSat
pass_to host k its me = record { table = host.table; start = host.start; its = its; me = me; number = k }

-- visitor k came back with these answers: its visit ended so, the host keeps its own system and holds its resident, and knows whether it was shown the cancel
pub record CameBack (host : SeatOf YardSat) (job : Job) (k : ℕ) (owns : List (Option System)) (told : JobAnswers) : Type 0 where
  pub visited : Visited
  pub own : System
  pub its : TableId
  pub me : YardSat
  pub ends : VisitEnds visited (pass_to host k its me) (stay_at host.start k job own told)
  pub runs : AreIn Running own
  pub has_room : visited ≡ Cancelled → IsOpen After job told
  pub kept : slice_get owns k ≡ Some (Some own)
  pub among : (y : Resident) → me.0.held ≡ y ∷ [] → (i : ℕ) × (get_elem? host.me.0.held i ≡ some y)
  pub shown : me.0.cancel ≡ true → host.me.0.cancel ≡ true

-- the first ones came back, as many as there are answers
pub record Returned (host : SeatOf YardSat) (jobs : List Job) (owns : List (Option System)) (told : List JobAnswers) : Type 0 where
  pub root : IsRoot (as_seat host)
  pub size : length owns ≡ length host.start.cpus
  pub keeps : KeepsOwn host.me.0 owns
  pub each : (k : ℕ) (job : Job) (r : JobAnswers) → slice_get jobs k ≡ Some job → slice_get told k ≡ Some r → CameBack host job k owns r

-- the whole update can be done in one piece, and then the accesses after it, for whose answers there are places
pub record CanGoOn (m : Machine) (goal : RegisterFile) (jobs : List Job) (told : List JobAnswers) : Type 0 where
  pub quiet : IsQuiet m
  pub callable : IsEnabled m (Calls goal)
  pub some : 0 < length m.system.processors
  pub room : HasEraRoom m
  pub few : length jobs ≤ 16
  pub processors : length jobs ≡ length m.system.processors
  pub one_each : length told ≡ length jobs
  pub addresses : All FitsJob jobs
  pub has_places : AreOpen After jobs told

-- ---- law

-- where the first ones came back as many as there are processors, and the go was given, the system left and all answers are those of the jobs and the update one by one
abbrev pub EndsOneByOne : Type 0
EndsOneByOne =
    (host : SeatOf YardSat) (jobs : List Job) (owns : List (Option System)) (told : List JobAnswers) (s : System)
    → Returned host jobs owns told → length jobs ≡ length host.start.cpus → length told ≡ length jobs → YardEnds host.start host.me.0 s → AreOwnsOf host.start owns s → host.me.0.go ≡ Given
    → (s ≡ (jobs_one_by_one (system_of host.start) host.start.goal jobs).left.system)
    × (map (answers_in Before) told ≡ (jobs_one_by_one (system_of host.start) host.start.goal jobs).before)
    × (map (answers_in After) told ≡ (jobs_one_by_one (system_of host.start) host.start.goal jobs).after)
