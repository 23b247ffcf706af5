-- What the processors of a yard stand for, each with the words of its own pages (own).
use Rattle.std.specs.Prelude.{◌≡◌, ◌⊎◌, ℕ, ◌+◌, ◌-◌, ◌^◌, ◌<◌, ◌≤◌, Bool, false, not, List, [], ◌∷◌, ◌++◌, length, map, slice_get, slice_set, Option}
use Rattle.std.specs.List.{list_any}
use Rattle.std.specs.Option.{option_map_or}
use mathlib.Core.Option.{some}
use lib.ListN.{get_elem?}
use Rattle.mt_machine.specs.declared.phase.Phase.{Phase}
use Rattle.mt_machine.specs.declared.phase.Phase.TheVariants.{Running}
use Rattle.mt_machine.specs.declared.go.Go.{Go}
use Rattle.mt_machine.specs.declared.go.Go.TheVariants.{Pending}
use Rattle.mt_machine.specs.declared.event.Event.{Event}
use Rattle.mt_machine.specs.declared.op.Op.{Op}
use Rattle.mt_machine.specs.Memory.{IsMemory, Memory}
use Rattle.mt_machine.specs.System.{Processor, System}
use Rattle.mt_machine.specs.Access.{access}
use Rattle.mt_machine.specs.Machine.{Calls, IsEnabled, Machine, MachineEvent, common_era, next, step, stepped}
use Rattle.mt_machine.specs.Start.{IsQuiet}
use Rattle.mt_machine.specs.Update.{is_call}
use Rattle.mt_rendezvous.specs.declared.view.Added.{Added}
use Rattle.mt_rendezvous.specs.declared.view.Added.TheVariants.{Never}
use Rattle.mt_rendezvous.specs.declared.view.Held.{Held}
use Rattle.mt_rendezvous.specs.declared.view.Start.{Start}
use Rattle.mt_rendezvous.specs.Station.{FitsPhase, added_of, again_of, broadcast, cpu_of, go_weight, held, in_second, order_of, rise, total}
use Rattle.mt_rendezvous.specs.Plays.{CanFollow, after_event}
use Rattle.mt_private.specs.declared.view.Resident.{Resident}
use Rattle.mt_private.specs.OneByOne.{at_rest}
use Rattle.mt_private.specs.Own.{IsOwner, own_memory, own_system}
use Rattle.mt_private.specs.Pages.{IsPrivate, names}

-- ---- from what a yard is gathered

abbrev pub system_of : Start → System
system_of t = record { processors = t.cpus; memory = t.ram }

-- no update is under way, the goal may be called, no page is named by two, and the eras may rise
pub record Opens (t : Start) : Type 0 where
  pub quiet : IsQuiet (at_rest (system_of t))
  pub enabled : IsEnabled (at_rest (system_of t)) (Calls t.goal)
  pub unshared : IsPrivate (system_of t)
  pub some : 0 < length t.cpus
  pub few : length t.cpus ≤ 16
  pub room : common_era t.cpus < 2 ^ 64 - 1

-- the pages that processor k named then, and those that none did
abbrev pub pages_at : Start → ℕ → ℕ → Bool
pages_at t k page = option_map_or (names page) (slice_get t.cpus k) false

abbrev pub pages_left : Start → ℕ → Bool
pages_left t page = not (list_any (names page) t.cpus)

-- ---- residents

abbrev pub held_of : Resident → Held
held_of y = y.held

-- its processor alone, with the words of its pages
abbrev pub own_of : Resident → System
own_of y = record { processors = y.held.cpu ∷ []; memory = y.ram }

-- the system has these processors, each owns its pages and has the words in them, and all other words are as they were gathered
pub record StandsFor (t : Start) (all : List Resident) (s : System) : Type 0 where
  pub processors : s.processors ≡ map cpu_of (map held_of all)
  pub memory : IsMemory s.memory
  pub windows : s.memory.windows ≡ t.ram.windows
  pub owns : (k : ℕ) (y : Resident) → get_elem? all k ≡ some y → IsOwner (pages_at t k) k s
  pub own : (k : ℕ) (y : Resident) → get_elem? all k ≡ some y → own_system (pages_at t k) k s ≡ own_of y
  pub left : own_memory (pages_left t) s.memory ≡ own_memory (pages_left t) t.ram

-- how a processor's phase and what its pass has added go together: as at a rendezvous, and before it takes it runs
abbrev pub FitsYard : Go → Added → Phase → Type 0
FitsYard go added Running = (added ≡ Never) ⊎ FitsPhase go added Running
FitsYard go added other = FitsPhase go added other

pub record FitsResident (t : Start) (go : Go) (h : Held) : Type 0 where
  pub fits : FitsYard go h.added h.cpu.phase
  pub era : h.cpu.era ≡ common_era t.cpus + rise (in_second h.added) h.cpu.phase

-- the order is there while its update isn't over
abbrev pub yard_machine : Start → Go → System → Machine
yard_machine t go s = stepped (order_of t go) s

-- reached by events of which none is a call
pub data Uncalled : Machine → Machine → Type 0 where
  uncalled_start : {s : Machine} → Uncalled s s
  uncalled_on : {s t : Machine} → (e : MachineEvent) → Uncalled s t → IsEnabled t e → is_call e ≡ false → Uncalled s (next t e)

-- all residents, what the coordinator said, and a system
pub record Scene : Type 0 where
  pub all : List Resident
  pub go : Go
  pub system : System

abbrev pub scene : List Resident → Go → System → Scene
scene all go s = record { all = all; go = go; system = s }

-- they stand for a machine that the state after the call reaches without another call
pub record Resides (t : Start) (now : Scene) : Type 0 where
  pub opens : Opens t
  pub reached : Uncalled (broadcast t) (yard_machine t now.go now.system)
  pub stands : StandsFor t now.all now.system
  pub size : length now.all ≡ length t.cpus
  pub fits : (k : ℕ) (y : Resident) → get_elem? now.all k ≡ some y → FitsResident t now.go y.held × (y.held.number ≡ k)

-- a move of the resident with this number, which is this one then, by this event or by none
pub record Move : Type 0 where
  pub number : ℕ
  pub becomes : Resident
  pub event : Option MachineEvent

abbrev pub move_of : ℕ → Resident → Option MachineEvent → Move
move_of k w e = record { number = k; becomes = w; event = e }

-- one resident moves so: the machine takes the event, which was enabled, or stays as it is
pub record ResidentMoves (t : Start) (now : Scene) (m : Move) : Type 0 where
  pub system : System
  pub enabled : CanFollow (yard_machine t now.go now.system) m.event
  pub becomes : yard_machine t now.go system ≡ after_event (yard_machine t now.go now.system) m.event
  pub kept : Resides t (scene (slice_set now.all m.number m.becomes) now.go system)

-- ---- what each step makes of a resident

abbrev pub with_held : Resident → Held → Resident
with_held y h = record y { held = h }

-- it has the processor and the words of this system
abbrev pub with_first : Resident → List Processor → Memory → Resident
with_first y [] m = y
with_first y (p ∷ ps) m = record y { held = held y.held.number p y.held.added; ram = m }

abbrev pub in_system : Resident → System → Resident
in_system y o = with_first y o.processors o.memory

-- its pass has stored this in its event word
abbrev pub with_stored : Resident → ℕ → Resident
with_stored y n = record y { stored = n }

-- a step of the update on its own system
abbrev pub stepped_by : Start → Event → Resident → Resident
stepped_by t e y = in_system y (step t.goal e 0 (own_of y))

-- an access, which is done then
abbrev pub accessed_by : Op → Resident → Resident
accessed_by op y = record (in_system y (access (own_of y) 0 op).after) { done = y.done ++ op ∷ [] }

-- ---- the two counts

-- the residents and the two counts stand for a machine
pub record Yard (t : Start) (now : Scene) (first second : ℕ) : Type 0 where
  pub resides : Resides t now
  pub first_count : first ≡ total added_of (map held_of now.all) + go_weight now.go
  pub second_count : second ≡ total again_of (map held_of now.all)

-- one resident moves, as above, and the counts are these then
pub record ResidentFollows (t : Start) (now : Scene) (m : Move) (first second : ℕ) : Type 0 where
  pub moves : ResidentMoves t now m
  pub first_count : first ≡ total added_of (map held_of (slice_set now.all m.number m.becomes)) + go_weight now.go
  pub second_count : second ≡ total again_of (map held_of (slice_set now.all m.number m.becomes))

-- the coordinator says what it says now: this event, and the counts are these then
pub record Decides (t : Start) (now : Scene) (first second : ℕ) (e : MachineEvent) : Type 0 where
  pub enabled : IsEnabled (yard_machine t Pending now.system) e
  pub becomes : yard_machine t now.go now.system ≡ next (yard_machine t Pending now.system) e
  pub kept : Yard t now first second
