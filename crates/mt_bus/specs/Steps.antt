-- What an event of an update needs of a system, and what it does besides (own).
use Rattle.std.specs.Prelude.{◌≡◌, ◌<◌, ◌-◌, ◌^◌, ℕ, IsTrue, List, [], slice_set, Some}
use Rattle.mt_regs.specs.RegisterFile.{RegisterFile}
use Rattle.mt_types.specs.Tables.{TypeTable}
use Rattle.mt_cpu.specs.Steps.{HasWritten, is_local, is_shift}
use Rattle.mt_machine.specs.declared.event.Event.{Event}
use Rattle.mt_machine.specs.declared.event.Event.TheVariants.{Enable, Release, Take, WriteBack}
use Rattle.mt_machine.specs.Memory.{Memory, put_word}
use Rattle.mt_machine.specs.System.{IsSound, Processor, System}
use Rattle.mt_machine.specs.Machine.{FitsGoal, Order, before_own, due_at, step}
use Rattle.mt_bus.specs.Tables.{AreTablesOf}

-- the memory with the word that an event writes back
abbrev pub with_word_of : Event → Memory → Memory
with_word_of (WriteBack address value) m = put_word m address value
with_word_of other m = m

-- Enable puts the goal's table into the processor's place
abbrev pub tables_after : Event → ℕ → TypeTable → List TypeTable → List TypeTable
tables_after Enable k goal ts = slice_set ts k goal
tables_after other k goal ts = ts

-- a processor between the barriers of an update to goal
pub record IsBetween (goal : RegisterFile) (p : Processor) : Type 0 where
  pub phase : IsTrue (is_local p.phase)
  pub fits : FitsGoal goal p
  pub written : HasWritten goal p

-- the event is due by the processor alone, in any order
abbrev pub IsDueAlone : ℕ → System → Event → Type 0
IsDueAlone k s e = (o : Order) → due_at (record { system = s; order = Some o }) k ≡ Some e

-- a processor for which an event of the barriers can be done
pub record IsReady (e : Event) (p : Processor) : Type 0 where
  pub enabled : IsTrue (is_shift e p.phase)
  pub room : e ≡ Release → p.era < 2 ^ 64 - 1
  pub empty : e ≡ Take → p.buffers ≡ []

-- the event leaves a sound system, and the tables are right where they were
pub record KeepsSystem (goal : RegisterFile) (e : Event) (k : ℕ) (s : System) (t : TypeTable) : Type 0 where
  pub sound : IsSound (step goal e k s)
  pub tables : (ts : List TypeTable) → AreTablesOf (before_own e k s).processors ts → AreTablesOf (step goal e k s).processors (tables_after e k t ts)
