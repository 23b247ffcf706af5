-- What the functions of a replay speak of (own).
use Rattle.std.specs.Prelude.{◌≡◌, true, ⊤}
use Rattle.mt_regs.specs.RegisterFile.{RegisterFile}
use Rattle.mt_machine.specs.Machine.{Machine}
use Rattle.mt_script.specs.Situation.{Situation}
use Rattle.mt_script.specs.declared.command.Command.{Command}
use Rattle.mt_script.specs.declared.command.Command.TheVariants as command
use Rattle.mt_replay.specs.ReplayState.{ReplayState, may_come}
use Rattle.mt_replay.specs.declared.replayer.Parts.{Parts}

abbrev pub state : Situation → Machine → RegisterFile → ReplayState
state now machine goal = record { now = now; machine = machine; goal = goal }

abbrev pub state_of : Parts → ReplayState
state_of parts = state parts.setup parts.core parts.goal

-- a command of a window asks for memory, and one that brings a processor up where one may come; no other does
abbrev pub AsksForMemory : Machine → Command → Type 0
AsksForMemory m (command.Ram base lines) = ⊤
AsksForMemory m (command.Newcomer n) = may_come m ≡ true
AsksForMemory m other = ⊥
