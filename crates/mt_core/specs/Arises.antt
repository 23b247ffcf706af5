-- The states that a core can be in, and what its calls leave (own).
use Rattle.std.specs.Prelude.{◌≡◌, ℕ, ◌<◌, ◌≤◌, ◌-◌, ◌^◌, length, None, Some}
use Rattle.mt_ram.specs.Windows.{with_window}
use Rattle.mt_machine.specs.Memory.{IsMemory, Window}
use Rattle.mt_machine.specs.System.{with_self_snoop}
use Rattle.mt_machine.specs.Machine.{IsEnabled, Machine, MachineEvent, Order, next}
use Rattle.mt_machine.specs.Start.{IsStart}
use Rattle.mt_machine.specs.ComingAndGoing.{with_newcomer, without_last}

-- with a window of zero words more; the order stays
abbrev pub grown : Window → Machine → Machine
grown w m = record m { system = record m.system { memory = with_window w m.system.memory } }

-- with processor k self-snooping; the order stays
abbrev pub snooped : ℕ → Machine → Machine
snooped k m = record m { system = with_self_snoop k m.system }

-- reached from a start by events, by new windows, and, while no update is under way, by processors that become self-snooping, come up or go
pub data Arises : Machine → Type 0 where
  from_start : {m : Machine} → IsStart m → Arises m
  by_event : {m : Machine} → (e : MachineEvent) → Arises m → IsEnabled m e → Arises (next m e)
  by_window : {m : Machine} → (w : Window) → Arises m → IsMemory (with_window w m.system.memory) → Arises (grown w m)
  by_snooping : {m : Machine} → (k : ℕ) → Arises m → m.order ≡ None → Arises (snooped k m)
  by_coming_up : {m : Machine} → Arises m → m.order ≡ None → 0 < length m.system.processors → Arises (with_newcomer m)
  by_going_down : {m : Machine} → Arises m → m.order ≡ None → 1 < length m.system.processors → Arises (without_last m)

-- with at most 16 processors, and the update under way, if there is one, was called while the eras had room
pub record IsCore (m : Machine) : Type 0 where
  pub arises : Arises m
  pub few : length m.system.processors ≤ 16
  pub room : (o : Order) → m.order ≡ Some o → o.from_era < 2 ^ 64 - 1
