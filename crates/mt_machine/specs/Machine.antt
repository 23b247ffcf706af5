-- The machine with the update under way, if there is one, and its events.
-- Intel SDM volume 3A, chapter Memory Cache Control, section "MTRR Considerations in MP Systems": its fifteen steps are the
-- rows of `due` and `own_step`. That a coordinator gives the go, that an update can be cancelled before the first barrier,
-- and that words are written back one by one, the oldest line's first, are this project's choices (own).
use Rattle.std.specs.Prelude.{◌≡◌, ℕ, ◌+◌, ◌-◌, ◌/◌, ◌%◌, ◌^◌, ◌<◌, ◌==◌, nat_lt, Bool, true, false, not, ◌&&◌, ◌||◌, List, [], ◌∷◌, length, if◌then◌else◌, slice_get, slice_index, slice_index_or, Option, None, Some}
use Rattle.std.specs.Option.{option_map_or, option_map}
use Rattle.std.specs.List.{list_all, list_any, count_by, All}
use Rattle.mt_kinds.specs.Bits.{is_bit_set}
use Rattle.mt_regs.specs.declared.registers.Register.{Register}
use Rattle.mt_regs.specs.declared.registers.Register.TheVariants.{DefaultType}
use Rattle.mt_regs.specs.RegisterFile.{RegisterFile, IsRegisterFile, page_count}
use Rattle.mt_regs.specs.Registers.{value_of, with_value, writable}
use Rattle.mt_regs.specs.Faults.{IsAccepted}
use Rattle.mt_cache.specs.declared.line.CacheLine.{CacheLine}
use Rattle.mt_cache.specs.Lines.{change_line, clean_word, first_dirty_line, first_dirty_word}
use Rattle.mt_machine.specs.declared.phase.Phase.{Phase}
use Rattle.mt_machine.specs.declared.phase.Phase.TheVariants.{Running, Taken, Arrived, Passed, NoFill, Flushed, TlbFlushed, Writing, Enabled, Flushed2, TlbFlushed2, Normal, Restored, Arrived2}
use Rattle.mt_machine.specs.declared.event.Event.{Event}
use Rattle.mt_machine.specs.declared.event.Event.TheVariants.{Take, Arrive, Leave, Pass, SetNoFill, WriteBack, DropLines, FlushTlb, Disable, Write, Enable, SetNormal, RestorePge, ArriveAgain, Release}
use Rattle.mt_machine.specs.declared.go.Go.{Go}
use Rattle.mt_machine.specs.declared.go.Go.TheVariants.{Pending, Given, Cancelled}
use Rattle.mt_machine.specs.declared.op.Op.{Op}
use Rattle.mt_machine.specs.declared.op.Op.TheVariants.{Load, Store, Fence}
use Rattle.mt_machine.specs.declared.control.Control.{Control}
use Rattle.mt_machine.specs.declared.control.Control.TheVariants.{Map}
use Rattle.mt_machine.specs.Memory.{put_word, word_address, word_of}
use Rattle.mt_machine.specs.System.{Processor, System, change}
use Rattle.mt_machine.specs.Bus.{drain}
use Rattle.mt_machine.specs.Access.{access, is_running}
use Rattle.mt_machine.specs.Control.{control, reload_cr3}

-- an update that was called for
pub record Order : Type 0 where
  pub goal : RegisterFile
  pub from_era : ℕ  -- the era that all processors had
  pub go : Go

-- the order is there exactly while an update is under way
pub record Machine : Type 0 where
  pub system : System
  pub order : Option Order

-- ---- the barriers

abbrev pub is_given : Go → Bool
is_given Given = true
is_given other = false

abbrev pub is_cancelled : Go → Bool
is_cancelled Cancelled = true
is_cancelled other = false

-- the phases from Passed to Restored, in which the registers change
abbrev pub is_changing : Phase → Bool
is_changing Running = false
is_changing Taken = false
is_changing Arrived = false
is_changing Arrived2 = false
is_changing other = true

abbrev pub is_arrived : Phase → Bool
is_arrived Arrived = true
is_arrived other = false

abbrev pub is_arrived_again : Phase → Bool
is_arrived_again Arrived2 = true
is_arrived_again other = false

abbrev pub is_waiting_to_pass : Phase → Bool
is_waiting_to_pass Taken = true
is_waiting_to_pass Arrived = true
is_waiting_to_pass other = false

abbrev pub has_released : Order → Processor → Bool
has_released o p = nat_lt o.from_era p.era

abbrev pub has_passed : Order → Processor → Bool
has_passed o p = is_changing p.phase || is_arrived_again p.phase || has_released o p

-- a processor that went on from a barrier counts as arrived there
abbrev pub has_arrived : Order → Processor → Bool
has_arrived o p = is_arrived p.phase || has_passed o p

abbrev pub has_arrived_again : Order → Processor → Bool
has_arrived_again o p = is_arrived_again p.phase || has_released o p

-- the coordinator is awaited at the first barrier too
abbrev pub first_barrier_open : Order → List Processor → Bool
first_barrier_open o ps = list_all (has_arrived o) ps && is_given o.go

abbrev pub second_barrier_open : Order → List Processor → Bool
second_barrier_open o ps = list_all (has_arrived_again o) ps

-- how many are at a barrier or past it, and how many are awaited
pub record BarrierCount : Type 0 where
  pub arrived : ℕ
  pub awaited : ℕ

abbrev pub first_barrier_count : Order → List Processor → BarrierCount
first_barrier_count o ps = record { arrived = count_by (has_arrived o) ps + (if is_given o.go then 1 else 0); awaited = length ps + 1 }

abbrev pub second_barrier_count : Order → List Processor → BarrierCount
second_barrier_count o ps = record { arrived = count_by (has_arrived_again o) ps; awaited = length ps }

-- ---- when each event is due

abbrev pub write_back_event : CacheLine → Event
write_back_event l =
    option_map_or (λ word. WriteBack (word_address l.number word) (slice_index l.words word)) (first_dirty_word l) DropLines

-- the first dirty word goes to memory, and where there is none the lines are invalidated
abbrev pub write_back_or_drop : Processor → Event
write_back_or_drop p = option_map_or write_back_event (first_dirty_line p.lines) DropLines

-- the first flush, which a self-snooping processor leaves out: it goes on with its TLB
abbrev pub first_flush : Processor → Event
first_flush p = if p.self_snoop then FlushTlb else write_back_or_drop p

-- the last writable register, the default type, is written by the event that turns the ranges on
abbrev pub write_or_enable : Processor → ℕ → Event
write_or_enable p i = if nat_lt (i + 1) (length (writable p.file)) then Write i else Enable

-- the one event of a processor in this phase, where it has one
abbrev pub due : Order → List Processor → Processor → Phase → Option Event
due o ps p Running = if (p.era == o.from_era) && not (is_cancelled o.go) then Some Take else None
due o ps p Taken = Some (if is_cancelled o.go then Leave else Arrive)
due o ps p Arrived = if is_cancelled o.go then Some Leave else (if first_barrier_open o ps then Some Pass else None)
due o ps p Passed = Some SetNoFill
due o ps p NoFill = Some (first_flush p)
due o ps p Flushed = Some FlushTlb
due o ps p TlbFlushed = Some Disable
due o ps p (Writing i) = Some (write_or_enable p i)
due o ps p Enabled = Some (write_back_or_drop p)
due o ps p Flushed2 = Some FlushTlb
due o ps p TlbFlushed2 = Some SetNormal
due o ps p Normal = Some RestorePge
due o ps p Restored = Some ArriveAgain
due o ps p Arrived2 = if second_barrier_open o ps then Some Release else None

abbrev pub due_at : Machine → ℕ → Option Event
due_at m k =
    option_map_or
    (λ o. option_map_or (λ p. due o m.system.processors p p.phase) (slice_get m.system.processors k) None)
    m.order
    None

-- ---- what each event does

abbrev pub after_drop : Phase → Phase
after_drop Enabled = Flushed2
after_drop other = Flushed

abbrev pub after_flush : Phase → Phase
after_flush Flushed2 = TlbFlushed2
after_flush other = TlbFlushed

-- PGE is remembered, and cleared where it is set, which drops all entries; where it is clear CR3 is reloaded
abbrev pub flush_tlb : Phase → Processor → Processor
flush_tlb Flushed2 p = reload_cr3 p
flush_tlb other p =
    if p.page_global then record p { remembered_global = true; page_global = false; entries = [] }
    else record (reload_cr3 p) { remembered_global = false }

-- bit 11 of the default-type register is cleared
abbrev pub without_enable : RegisterFile → RegisterFile
without_enable f = record f { default_type = if is_bit_set f.default_type 11 then f.default_type - 2 ^ 11 else f.default_type }

abbrev pub with_goal : RegisterFile → Register → RegisterFile → RegisterFile
with_goal goal r f = with_value f r (value_of goal r)

-- the processor after an event, except for the buffers that Take empties and the memory word that WriteBack writes
abbrev pub own_step : RegisterFile → Event → Processor → Processor
own_step goal Take p = record p { phase = Taken }
own_step goal Arrive p = record p { phase = Arrived }
own_step goal Leave p = record p { phase = Running }
own_step goal Pass p = record p { phase = Passed }
own_step goal SetNoFill p = record p { phase = NoFill; cache_disabled = true }
own_step goal (WriteBack address value) p = record p { lines = change_line (address / 64) (clean_word (word_of address)) p.lines }
own_step goal DropLines p = record p { phase = after_drop p.phase; lines = [] }
own_step goal FlushTlb p = record (flush_tlb p.phase p) { phase = after_flush p.phase }
own_step goal Disable p = record p { phase = Writing 0; file = without_enable p.file }
own_step goal (Write i) p = record p { phase = Writing (i + 1); file = with_goal goal (slice_index_or (writable goal) i DefaultType) p.file }
own_step goal Enable p = record p { phase = Enabled; file = with_goal goal DefaultType p.file }
own_step goal SetNormal p = record p { phase = Normal; cache_disabled = false }
own_step goal RestorePge p = record p { phase = Restored; page_global = p.remembered_global; remembered_global = false }
own_step goal ArriveAgain p = record p { phase = Arrived2 }
own_step goal Release p = record p { phase = Running; era = p.era + 1 }

-- what an event does before the processor's own part
abbrev pub before_own : Event → ℕ → System → System
before_own Take k s = drain k s
before_own (WriteBack address value) k s = record s { memory = put_word s.memory address value }
before_own other k s = s

abbrev pub step : RegisterFile → Event → ℕ → System → System
step goal e k s = change (own_step goal e) k (before_own e k s)

-- ---- the end of an update

-- each processor has released, or it is cancelled and none waits at the first barrier or on its way there
abbrev pub is_over : Order → List Processor → Bool
is_over o ps =
    list_all (has_released o) ps || (is_cancelled o.go && not (list_any (λ p. is_waiting_to_pass p.phase) ps))

-- the order, unless its update is over
abbrev pub remaining_order : Order → List Processor → Option Order
remaining_order o ps = if is_over o ps then None else Some o

-- ---- events

-- the coordinator's three are Calls, Goes and Cancels
pub data MachineEvent : Type 0 where
  Accesses : (k : ℕ) → (op : Op) → MachineEvent
  Controls : (k : ℕ) → (c : Control) → MachineEvent
  Calls : (goal : RegisterFile) → MachineEvent
  Goes : MachineEvent
  Cancels : MachineEvent
  Steps : (k : ℕ) → (e : Event) → MachineEvent

abbrev pub IsRunningAt : Machine → ℕ → Type 0
IsRunningAt m k = option_map_or (λ p. is_running p.phase) (slice_get m.system.processors k) false ≡ true

abbrev pub IsWordAddress : ℕ → Type 0
IsWordAddress address = (address % 8 ≡ 0) × (address < 2 ^ 48)

-- the conditions of an access and of a control instruction
abbrev pub FitsOp : Op → Type 0
FitsOp (Load address) = IsWordAddress address
FitsOp (Store address value) = IsWordAddress address × (value < 2 ^ 64)
FitsOp Fence = Unit {0}

abbrev pub FitsControl : Processor → Control → Type 0
FitsControl p (Map m) = (m.index < 8) × (m.ppage < page_count p.file) × (m.vpage < 2 ^ 36)
FitsControl p other = Unit {0}

-- the goal has this processor's width and capabilities
pub record FitsGoal (goal : RegisterFile) (p : Processor) : Type 0 where
  pub width : goal.width ≡ p.file.width
  pub capabilities : goal.capabilities ≡ p.file.capabilities

-- the era of the first, where all have one
abbrev pub common_era : List Processor → ℕ
common_era [] = 0
common_era (p ∷ ps) = p.era

abbrev pub go_of : Machine → Option Go
go_of m = option_map (λ o. o.go) m.order

-- machines are thought of with at least one processor (own): without any a call is enabled too, and the go ends its update at once
abbrev pub IsEnabled : Machine → MachineEvent → Type 0
IsEnabled m (Accesses k op) = IsRunningAt m k × FitsOp op
IsEnabled m (Controls k c) = IsRunningAt m k × ((p : Processor) → slice_get m.system.processors k ≡ Some p → FitsControl p c)
IsEnabled m (Calls goal) = (m.order ≡ None) × IsRegisterFile goal × IsAccepted goal × All (FitsGoal goal) m.system.processors
IsEnabled m Goes = go_of m ≡ Some Pending
IsEnabled m Cancels = go_of m ≡ Some Pending
IsEnabled m (Steps k e) = due_at m k ≡ Some e

abbrev pub with_go : Go → Machine → Machine
with_go go m =
    option_map_or (λ o. record m { order = remaining_order (record o { go = go }) m.system.processors }) m.order m

abbrev pub stepped : Order → System → Machine
stepped o s = record { system = s; order = remaining_order o s.processors }

abbrev pub next : Machine → MachineEvent → Machine
next m (Accesses k op) = record m { system = (access m.system k op).after }
next m (Controls k c) = record m { system = (control m.system k c).after }
next m (Calls goal) = record m { order = Some (record { goal = goal; from_era = common_era m.system.processors; go = Pending }) }
next m Goes = with_go Given m
next m Cancels = with_go Cancelled m
next m (Steps k e) = option_map_or (λ o. stepped o (step o.goal e k m.system)) m.order m

-- ---- runs

-- the state after a list of events, each enabled in its turn
pub data Reached : Machine → Machine → Type 0 where
  at_start : {s : Machine} → Reached s s
  after : {s t : Machine} → (e : MachineEvent) → Reached s t → IsEnabled t e → Reached s (next t e)

abbrev pub run : Machine → List MachineEvent → Machine
run m [] = m
run m (e ∷ es) = run (next m e) es

abbrev pub AreEnabled : Machine → List MachineEvent → Type 0
AreEnabled m [] = Unit {0}
AreEnabled m (e ∷ es) = IsEnabled m e × AreEnabled (next m e) es
