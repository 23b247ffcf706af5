-- The start, and the eras.
use Rattle.std.specs.Prelude.{◌≡◌, ℕ, Bool, true, List, None, Some, ◌<◌, ◌-◌, ◌^◌}
use Rattle.std.specs.List.{All}
use Rattle.mt_machine.specs.Machine.{Machine, Order, Reached, MachineEvent, Calls, IsEnabled, next}
use Rattle.mt_regs.specs.RegisterFile.{RegisterFile}
use Rattle.mt_machine.specs.Update.{is_call, updated}
use Rattle.mt_machine.specs.Start.{IsQuiet, IsStart, HasEraRoom, start_machine, start_with, zero_memory}
use Rattle.mt_regs.specs.StartFiles.{AreStartFiles}
use Rattle.mt_machine.specs.Memory.{IsMemory, Window}
use Rattle.mt_machine.specs.System.{System, IsSound, with_self_snoop}
use Rattle.mt_laws.specs.Kept.{flags_of}

-- processors with accepted files of one kind, over windows of zero words, are a quiet start
abbrev pub StartIsQuiet : Type 0
StartIsQuiet = (files : List RegisterFile) (ws : List Window) → AreStartFiles files → IsMemory (zero_memory ws) → IsQuiet (start_machine files ws)

-- so are those of which some are self-snooping
abbrev pub FlaggedStartIsQuiet : Type 0
FlaggedStartIsQuiet =
    (flags : List Bool) (files : List RegisterFile) (ws : List Window) → AreStartFiles files → IsMemory (zero_memory ws)
    → IsQuiet (start_with flags files ws)

-- without any flag they are the start of before
abbrev pub NoFlagIsTheStart : Type 0
NoFlagIsTheStart = (files : List RegisterFile) (ws : List Window) → start_with (flags_of (start_machine files ws).system) files ws ≡ start_machine files ws

-- a processor that becomes self-snooping leaves a system sound, and a quiet machine quiet
abbrev pub SnoopingStaysSound : Type 0
SnoopingStaysSound = (s : System) (k : ℕ) → IsSound s → IsSound (with_self_snoop k s)

abbrev pub SnoopingStaysQuiet : Type 0
SnoopingStaysQuiet = (m : Machine) (k : ℕ) → IsQuiet m → IsQuiet (record m { system = with_self_snoop k m.system })

-- the eras fit 64 bits, also once the update under way has ended
pub record HasEras (m : Machine) : Type 0 where
  pub each : All (λ p. p.era < 2 ^ 64) m.system.processors
  pub order : (o : Order) → m.order ≡ Some o → o.from_era < 2 ^ 64 - 1

-- no event leads out of 64 bits, where an update is called only while the eras have room
abbrev pub ErasFit : Type 0
ErasFit =
    (s m : Machine) (e : MachineEvent) → IsStart s → Reached s m → HasEras m → IsEnabled m e → (is_call e ≡ true → HasEraRoom m)
    → HasEras (next m e)

-- where no update is under way a reached state is quiet, so what holds from quiet states on holds from it on: of each update of a run, after one that was cancelled too
abbrev pub ReachedIsQuiet : Type 0
ReachedIsQuiet = (s m : Machine) → IsStart s → Reached s m → m.order ≡ None → IsQuiet m

-- the state after a whole update, given outright, is quiet, so the next update goes on from it
abbrev pub UpdatedIsQuiet : Type 0
UpdatedIsQuiet = (s : Machine) (goal : RegisterFile) (ks : List ℕ) → IsQuiet s → IsEnabled s (Calls goal) → IsQuiet (updated s.system ks goal)
