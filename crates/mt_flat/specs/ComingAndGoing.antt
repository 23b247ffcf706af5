-- The flat machine beside processors that come up and go.
use Rattle.std.specs.Prelude.{ℕ, ◌<◌, List, length}
use Rattle.mt_regs.specs.RegisterFile.{RegisterFile}
use Rattle.mt_machine.specs.System.{System, IsSound}
use Rattle.mt_machine.specs.Machine.{Calls, IsEnabled, Machine}
use Rattle.mt_machine.specs.Start.{IsQuiet}
use Rattle.mt_machine.specs.ComingAndGoing.{gone, last_number, reset, with_newcomer}
use Rattle.mt_machine.specs.Update.{updated}
use Rattle.mt_laws.specs.Counts.{IsEachOnce}
use Rattle.mt_flat.specs.Flat.{Flat, empty_all}
use Rattle.mt_flat.specs.Seen.{IsFlatOf, flat_takes}

-- of a processor that comes up the flat machine is given nothing
abbrev pub NewcomersKeepFlat : Type 0
NewcomersKeepFlat = (s : System) (f : Flat) → IsFlatOf s f → IsFlatOf (reset s) f

-- nor where the newcomer is admitted by a whole update, but for the takes
abbrev pub AdmittedIsFlat : Type 0
AdmittedIsFlat =
    (m : Machine) (f : Flat) (goal : RegisterFile) (ks : List ℕ) → IsQuiet m → IsEnabled (with_newcomer m) (Calls goal)
    → IsEachOnce (length (reset m.system).processors) ks → IsFlatOf m.system f
    → IsFlatOf (updated (reset m.system) ks goal).system (flat_takes ks f)

-- and where the last goes its pending lines are emptied
abbrev pub GoneKeepsFlat : Type 0
GoneKeepsFlat =
    (s : System) (f : Flat) → 0 < length s.processors → IsSound s → IsFlatOf s f → IsFlatOf (gone s) (empty_all (last_number s) f)
