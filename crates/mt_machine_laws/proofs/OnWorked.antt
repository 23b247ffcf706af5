-- What the machines of worked runs are.
use Rattle.std.proofs.Common.{refl, rules, List, ◌∷◌, []}
use Rattle.mt_machine.specs.Machine.{AreEnabled, Calls, IsEnabled, Machine, MachineEvent, next, run}
use Rattle.mt_machine.specs.System.{IsSound}
use Rattle.mt_machine.specs.Start.{IsQuiet}
use Rattle.mt_machine_laws.specs.MachineWorkedRuns.{bare, bare_file}
use Rattle.mt_core.specs.Arises.{Arises, by_event}
use Rattle.mt_machine_laws.specs.CoreWorkedLaws.{two_unlike}

sound : IsSound two_unlike.system
sound = record { memory = search rules; coherent = search rules; lines_in_memory = search rules; buffers_in_memory = search rules; each = search rules }

pub two_unlike_is_quiet : IsQuiet two_unlike
two_unlike_is_quiet = record { sound = sound; running = search rules; one_era = search rules; one_kind = search rules; no_order = refl }

pub two_unlike_can_be_called : IsEnabled two_unlike (Calls (bare_file 0x806))
two_unlike_can_be_called = search rules

pub arises_run : (es : List MachineEvent) (m : Machine) → Arises m → AreEnabled m es → Arises (run m es)
arises_run [] m a enabled = a
arises_run (e ∷ es) m a enabled = arises_run es (next m e) (by_event e a enabled.0) enabled.1

pub call_is_enabled : IsEnabled bare (Calls (bare_file 0x806))
call_is_enabled = search rules
