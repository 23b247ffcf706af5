-- What an update on threads comes to.
use Rattle.std.specs.Prelude.{◌≡◌, ◌<◌, ◌≤◌, ◌==◌, ◌↔◌, Bool, true, false, List, [], length, map, IsSome, None, Some, Err, OnErr, OnOk, Result}
use Rattle.std.specs.List.{All}
use Rattle.mt_regs.specs.declared.fault.Fault.{Fault}
use Rattle.mt_regs.specs.RegisterFile.{RegisterFile}
use Rattle.mt_regs.specs.Faults.{IsAccepted, IsFirstFault}
use Rattle.mt_types.specs.Tables.{TypeTable}
use Rattle.mt_machine.specs.declared.phase.Phase.TheVariants.{Running}
use Rattle.mt_machine.specs.declared.go.Go.{Go}
use Rattle.mt_machine.specs.declared.go.Go.TheVariants.{Given, Cancelled}
use Rattle.mt_machine.specs.System.{Processor, System}
use Rattle.mt_machine.specs.Machine.{Calls, FitsGoal, IsEnabled, Machine, run}
use Rattle.mt_machine.specs.Start.{HasEraRoom, IsQuiet}
use Rattle.mt_machine.specs.Update.{emptied, updated}
use Rattle.mt_laws.specs.Updates.{all_running, all_taken, call_and_takes, order_of_call}
use Rattle.mt_core.specs.declared.fault.CallFault.{CallFault}
use Rattle.mt_core.specs.declared.fault.CallFault.TheVariants.{Refused, UnderWay}
use Rattle.mt_core.specs.Rounds.{in_order}
use Rattle.mt_rendezvous.specs.Station.{Begins}
use Rattle.mt_rendezvous.specs.Calls.{gathered}

-- ---- a whole update

-- there is a processor, each has the goal's width and capabilities, and the eras may rise
pub record FitsUpdate (m : Machine) (goal : RegisterFile) : Type 0 where
  pub some : 0 < length m.system.processors
  pub fits : All (FitsGoal goal) m.system.processors
  pub room : HasEraRoom m

-- What an update to a goal returns, and what it does to a core.
pub record IsUpdate (old : Machine) (goal : RegisterFile) (result : Result Unit CallFault) (new : Machine) : Type 0 where
  pub under_way : (result ≡ Err UnderWay) ↔ IsSome old.order
  pub refused : (fault : Fault) → result ≡ Err (Refused fault) → (old.order ≡ None) × IsFirstFault goal (Some fault)
  pub updated : OnOk result ((old.order ≡ None) × IsAccepted goal × (new ≡ updated old.system (in_order old) goal))
  pub kept : OnErr result (new ≡ old)

-- ---- before the threads

-- the first state is quiet, the goal may be called there, and the other is the one after the call and all takes in ascending order:
-- the buffers are emptied in that order, all have taken, the order stands, and a station can be gathered
pub record HasTaken (s : Machine) (goal : RegisterFile) (m : Machine) : Type 0 where
  pub quiet : IsQuiet s
  pub enabled : IsEnabled s (Calls goal)
  pub run : m ≡ run s (call_and_takes goal (in_order s))
  pub system : m.system ≡ all_taken (emptied s.system (in_order s))
  pub count : length m.system.processors ≡ length s.system.processors
  pub order : m.order ≡ Some (order_of_call s goal)
  pub begins : Begins (gathered m.system.processors m.system.memory goal)

-- the processor's cache has no line
abbrev pub has_empty_cache : Processor → Bool
has_empty_cache p = length p.lines == 0

-- ---- what is left

abbrev pub decided : Bool → Go
decided true = Given
decided false = Cancelled

abbrev pub running : Processor → Processor
running p = record p { phase = Running }

-- what is left of a broadcast state by an update whose go was given, and by one that was cancelled
abbrev pub left_by : Bool → System → RegisterFile → System
left_by true s goal = (updated s [] goal).system
left_by false s goal = all_running s

-- and of the tables of types: the goal's, or the old ones
abbrev pub tables_left : Bool → TypeTable → List TypeTable → List TypeTable
tables_left true kinds ts = map (λ t. kinds) ts
tables_left false kinds ts = ts

-- ---- without threads

-- no update is under way, the goal may be called, and no processor has a buffer
pub record CanUpdate (s : System) (goal : RegisterFile) : Type 0 where
  pub quiet : IsQuiet (record { system = s; order = None })
  pub enabled : IsEnabled (record { system = s; order = None }) (Calls goal)
  pub no_buffers : All (λ p. p.buffers ≡ []) s.processors
  pub room : HasEraRoom (record { system = s; order = None })
  pub some : 0 < length s.processors
  pub few : length s.processors ≤ 16
