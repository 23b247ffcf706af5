-- What holds when a processor comes up or goes.
use Rattle.std.specs.Prelude.{◌≡◌, ℕ, ◌<◌, ◌%◌, [], length, map, take}
use Rattle.std.specs.List.{All}
use Rattle.mt_machine.specs.System.{Processor, System, IsSound, now}
use Rattle.mt_machine.specs.Bus.{drain}
use Rattle.mt_machine.specs.Machine.{Machine}
use Rattle.mt_machine.specs.Start.{IsQuiet}
use Rattle.mt_machine.specs.ComingAndGoing.{gone, last_number, reset, with_newcomer, without_last}
use Rattle.mt_laws.specs.Settled.{IsFresh}

-- one that comes up leaves a system sound, and a quiet machine quiet
abbrev pub ResetStaysSound : Type 0
ResetStaysSound = (s : System) → IsSound s → IsSound (reset s)

abbrev pub ResetStaysQuiet : Type 0
ResetStaysQuiet = (m : Machine) → IsQuiet m → IsQuiet (with_newcomer m)

-- so does one that goes
abbrev pub GoneStaysSound : Type 0
GoneStaysSound = (s : System) → 0 < length s.processors → IsSound s → IsSound (gone s)

abbrev pub GoneStaysQuiet : Type 0
GoneStaysQuiet = (m : Machine) → 0 < length m.system.processors → IsQuiet m → IsQuiet (without_last m)

-- where nothing is of an earlier era than its processor's, so it is with a newcomer, and when the last is gone
abbrev pub ResetStaysFresh : Type 0
ResetStaysFresh = (s : System) → All IsFresh s.processors → All IsFresh (reset s).processors

abbrev pub GoneStaysFresh : Type 0
GoneStaysFresh = (s : System) → All IsFresh s.processors → All IsFresh (gone s).processors

-- each word has the value that it had once the buffers of the one that goes were emptied
abbrev pub GoneKeepsWords : Type 0
GoneKeepsWords =
    (s : System) (address : ℕ) → 0 < length s.processors → IsSound s → address % 8 ≡ 0
    → now (gone s) address ≡ now (drain (last_number s) s) address

-- a processor but for its lines and buffers
abbrev pub uncached : Processor → Processor
uncached p = record p { lines = []; buffers = [] }

-- the others keep their registers, phases, mappings, entries and all else but lines and buffers
abbrev pub OthersStand : Type 0
OthersStand = (s : System) → map uncached (gone s).processors ≡ take (last_number s) (map uncached s.processors)
