-- Where whole updates end.
use Rattle.std.specs.Prelude.{◌≡◌, ◌⊎◌, ℕ, ◌%◌, true, not, ◌&&◌, List, [], ◌∷◌, None, Some, map, length, false}
use Rattle.std.specs.List.{list_all, All}
use Rattle.mt_machine.specs.System.{Processor, now, System, IsSound}
use Rattle.mt_machine.specs.Machine.{Machine, Order, MachineEvent, Calls, Steps, IsEnabled, next, run, AreEnabled, common_era, second_barrier_open, has_released, is_given}
use Rattle.mt_regs.specs.RegisterFile.{RegisterFile}
use Rattle.mt_machine.specs.declared.phase.Phase.TheVariants.{Running, Taken}
use Rattle.mt_machine.specs.declared.event.Event.TheVariants.{Take}
use Rattle.mt_machine.specs.declared.go.Go.TheVariants.{Given, Pending}
use Rattle.mt_machine.specs.Update.{is_led, is_go, emptied, Led, is_cancel, takes_of, updated, settled_processor}
use Rattle.mt_machine.specs.Start.{IsQuiet, IsBroadcast}
use Rattle.mt_machine.specs.Memory.{word_at}
use Rattle.mt_laws.specs.Barriers.{IsAt}
use Rattle.mt_laws.specs.Counts.{IsEachOnce}

-- a whole update without accesses or controls
abbrev pub WholeUpdate : Type 0
WholeUpdate =
    (s : Machine) (goal : RegisterFile) (es : List MachineEvent) → IsQuiet s → AreEnabled s (Calls goal ∷ es)
    → list_all (λ e. is_led e && not (is_cancel e)) es ≡ true
    → (run s (Calls goal ∷ es)).order ≡ None
    → run s (Calls goal ∷ es) ≡ updated s.system (takes_of es) goal

-- the same from a broadcast state, where none takes any more
abbrev pub BroadcastUpdate : Type 0
BroadcastUpdate =
    (s : Machine) (o : Order) (es : List MachineEvent) → IsBroadcast s o → AreEnabled s es
    → list_all (λ e. is_led e && not (is_cancel e)) es ≡ true
    → (run s es).order ≡ None
    → run s es ≡ updated s.system [] o.goal

-- after a whole update each word is in memory as it was once the buffers had been emptied
abbrev pub UpdatedWords : Type 0
UpdatedWords =
    (s : System) (goal : RegisterFile) (ks : List ℕ) (address : ℕ) → IsSound s → address % 8 ≡ 0
    → word_at (updated s ks goal).system.memory address ≡ now (emptied s ks) address

-- by go, cancel and steps alone: where all have arrived again, or gone on from there, each processor has the goal's registers and holds nothing, and each word is in memory
pub record HoldsNothing (goal : RegisterFile) (p : Processor) : Type 0 where
  pub file : p.file ≡ goal
  pub lines : p.lines ≡ []
  pub buffers : p.buffers ≡ []
  pub entries : p.entries ≡ []

abbrev pub LedToSecondBarrier : Type 0
LedToSecondBarrier =
    (s m : Machine) (o last : Order) → IsBroadcast s o → Led s m → m.order ≡ Some last → second_barrier_open last m.system.processors ≡ true
    → All (HoldsNothing o.goal) m.system.processors
    × ((address : ℕ) → address % 8 ≡ 0 → word_at m.system.memory address ≡ now s.system address)

-- by go, cancel and steps alone: the event that ends an update whose go was given leads there
abbrev pub LedUpdate : Type 0
LedUpdate =
    (s m : Machine) (o last : Order) (e : MachineEvent) → IsBroadcast s o → Led s m → m.order ≡ Some last → last.go ≡ Given
    → IsEnabled m e → is_led e ≡ true → (next m e).order ≡ None
    → next m e ≡ updated s.system [] o.goal

-- a processor that has released is the one that the update leaves
abbrev pub LedReleased : Type 0
LedReleased =
    (s m : Machine) (o last : Order) (k : ℕ) (p q : Processor) → IsBroadcast s o → Led s m → m.order ≡ Some last
    → IsAt s k p → IsAt m k q → has_released last q ≡ true → q ≡ settled_processor o.goal p

-- ---- cancelled updates

-- the system, with all processors running
abbrev pub all_running : System → System
all_running s = record s { processors = map (λ (p : Processor). record p { phase = Running }) s.processors }

-- from a broadcast state: where it is cancelled, all run again and nothing else has changed
abbrev pub CancelledBroadcast : Type 0
CancelledBroadcast =
    (s : Machine) (o : Order) (es : List MachineEvent) → IsBroadcast s o → AreEnabled s es
    → list_all (λ e. is_led e && not (is_go e)) es ≡ true
    → (run s es).order ≡ None
    → run s es ≡ record { system = all_running s.system; order = None }

-- by go, cancel and steps alone: as long as the go isn't given nothing but phases changes, and the event that ends a cancelled update leaves all running
abbrev pub LedNotGiven : Type 0
LedNotGiven =
    (s m : Machine) (o last : Order) → IsBroadcast s o → Led s m → m.order ≡ Some last → is_given last.go ≡ false
    → all_running m.system ≡ all_running s.system

abbrev pub LedCancelled : Type 0
LedCancelled =
    (s m : Machine) (o last : Order) (e : MachineEvent) → IsBroadcast s o → Led s m → m.order ≡ Some last → is_given last.go ≡ false
    → IsEnabled m e → is_led e ≡ true → is_go e ≡ false → (next m e).order ≡ None
    → next m e ≡ record { system = all_running s.system; order = None }

-- by go, cancel and steps alone: where the update has ended, it was done whole or cancelled
abbrev pub LedEnds : Type 0
LedEnds =
    (s m : Machine) (o : Order) → IsBroadcast s o → Led s m → m.order ≡ None
    → (m ≡ updated s.system [] o.goal) ⊎ (m ≡ record { system = all_running s.system; order = None })

-- a whole cancelled update without accesses or controls leaves what a fence of each processor that took leaves
abbrev pub CancelledUpdate : Type 0
CancelledUpdate =
    (s : Machine) (goal : RegisterFile) (es : List MachineEvent) → IsQuiet s → AreEnabled s (Calls goal ∷ es)
    → list_all (λ e. is_led e && not (is_go e)) es ≡ true
    → (run s (Calls goal ∷ es)).order ≡ None
    → run s (Calls goal ∷ es) ≡ record { system = emptied s.system (takes_of es); order = None }

-- ---- from a call to a broadcast state

-- the system, with all processors in Taken
abbrev pub all_taken : System → System
all_taken s = record s { processors = map (λ (p : Processor). record p { phase = Taken }) s.processors }

-- the order that a call makes
abbrev pub order_of_call : Machine → RegisterFile → Order
order_of_call s goal = record { goal = goal; from_era = common_era s.system.processors; go = Pending }

-- a call, and takes of these processors
abbrev pub call_and_takes : RegisterFile → List ℕ → List MachineEvent
call_and_takes goal ks = Calls goal ∷ map (λ k. Steps k Take) ks

-- they are enabled, and lead to a broadcast state: the buffers are emptied in the order of the takes, and all have taken
pub record LeadsToBroadcast (s : Machine) (goal : RegisterFile) (ks : List ℕ) : Type 0 where
  pub enabled : AreEnabled s (call_and_takes goal ks)
  pub broadcast : IsBroadcast (run s (call_and_takes goal ks)) (order_of_call s goal)
  pub system : (run s (call_and_takes goal ks)).system ≡ all_taken (emptied s.system ks)

-- from a quiet state, where each processor takes once, in any order
abbrev pub TakesBroadcast : Type 0
TakesBroadcast =
    (s : Machine) (goal : RegisterFile) (ks : List ℕ) → IsQuiet s → IsEnabled s (Calls goal) → IsEachOnce (length s.system.processors) ks
    → LeadsToBroadcast s goal ks

-- from the broadcast state the update leads to what it leads to from the quiet one
pub record UpdatesAlike (s : System) (ks : List ℕ) (goal : RegisterFile) : Type 0 where
  pub from_emptied : updated (emptied s ks) [] goal ≡ updated s ks goal
  pub from_taken : updated (all_taken (emptied s ks)) [] goal ≡ updated s ks goal

abbrev pub UpdatedFromBroadcast : Type 0
UpdatedFromBroadcast = (s : System) (ks : List ℕ) (goal : RegisterFile) → UpdatesAlike s ks goal
