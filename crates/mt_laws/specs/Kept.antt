-- What the events of an update leave as it was, and what an order says while it stands.
use Rattle.std.specs.Prelude.{◌≡◌, ℕ, ◌%◌, Bool, true, false, List, Some, map, take}
use Rattle.std.specs.List.{All}
use Rattle.mt_machine.specs.System.{Processor, System, now, change, is_writing}
use Rattle.mt_machine.specs.Machine.{Machine, Order, Reached, MachineEvent, Calls, Goes, Cancels, Steps, IsEnabled, next, Accesses, Controls, FitsGoal}
use Rattle.mt_machine.specs.Access.{access}
use Rattle.mt_regs.specs.RegisterFile.{RegisterFile, IsRegisterFile}
use Rattle.mt_machine.specs.declared.phase.Phase.TheVariants.{Taken}
use Rattle.mt_regs.specs.Registers.{writable, value_of}
use Rattle.mt_cache.specs.declared.line.CacheLine.{CacheLine}
use Rattle.mt_tlb.specs.declared.entry.Entry.{Entry}
use Rattle.mt_machine.specs.declared.event.Event.TheVariants.{Take, Arrive, Leave}
use Rattle.mt_machine.specs.Start.{IsStart}
use Rattle.mt_machine.specs.Update.{updated}
use Rattle.mt_machine.specs.declared.op.Op.TheVariants.{Fence}
use Rattle.mt_regs.specs.Faults.{IsAccepted}

-- what the order of an update says of each processor: its registers are of the goal's kind, and those before the place where it is writing have the goal's values
pub record IsUnderWay (o : Order) (p : Processor) : Type 0 where
  pub fits : FitsGoal o.goal p
  pub written : (i : ℕ) → is_writing p.phase ≡ Some i → All (λ r. value_of p.file r ≡ value_of o.goal r) (take i (writable o.goal))

pub record OrderHolds (m : Machine) (o : Order) : Type 0 where
  pub goal_file : IsRegisterFile o.goal
  pub goal_accepted : IsAccepted o.goal
  pub each : All (IsUnderWay o) m.system.processors

abbrev pub OrdersHold : Type 0
OrdersHold = (s m : Machine) (o : Order) → IsStart s → Reached s m → m.order ≡ Some o → OrderHolds m o

abbrev pub Holdings : Type 0
Holdings = RegisterFile × List CacheLine × List CacheLine × List Entry

abbrev pub holdings_of : Processor → Holdings
holdings_of p = (p.file, p.lines, p.buffers, p.entries)

pub record SameHoldings (s t : System) : Type 0 where
  pub processors : map holdings_of t.processors ≡ map holdings_of s.processors
  pub memory : t.memory ≡ s.memory

-- Take is a fence of its processor, which is in the phase Taken then
abbrev pub TakeFences : Type 0
TakeFences =
    (m : Machine) (k : ℕ) → IsEnabled m (Steps k Take)
    → next m (Steps k Take) ≡ record m { system = change (λ p. record p { phase = Taken }) k (access m.system k Fence).after }

abbrev pub is_still : MachineEvent → Bool
is_still (Calls goal) = true
is_still Goes = true
is_still Cancels = true
is_still (Steps k Arrive) = true
is_still (Steps k Leave) = true
is_still other = false

abbrev pub StillEventsKeep : Type 0
StillEventsKeep =
    (m : Machine) (e : MachineEvent) → is_still e ≡ true → SameHoldings m.system (next m e).system

-- no event changes which processors are self-snooping, and no whole update does
abbrev pub is_self_snooping : Processor → Bool
is_self_snooping p = p.self_snoop

abbrev pub flags_of : System → List Bool
flags_of s = map is_self_snooping s.processors

abbrev pub FlagsStay : Type 0
FlagsStay = (m : Machine) (e : MachineEvent) → flags_of (next m e).system ≡ flags_of m.system

abbrev pub UpdatedKeepsFlags : Type 0
UpdatedKeepsFlags = (s : System) (takes : List ℕ) (goal : RegisterFile) → flags_of (updated s takes goal).system ≡ flags_of s

-- the events of an update but Take
abbrev pub is_take_step : MachineEvent → Bool
is_take_step (Steps k Take) = true
is_take_step other = false

abbrev pub is_of_update : MachineEvent → Bool
is_of_update (Accesses k op) = false
is_of_update (Controls k c) = false
is_of_update other = true

-- no event of an update but Take changes a word's value
abbrev pub StepsKeepNow : Type 0
StepsKeepNow =
    (s m : Machine) (e : MachineEvent) (address : ℕ) → IsStart s → Reached s m → IsEnabled m e → is_of_update e ≡ true → is_take_step e ≡ false
    → address % 8 ≡ 0 → now (next m e).system address ≡ now m.system address
