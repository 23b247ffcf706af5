-- Courses: events, and whole updates in one turn, and processors that come up and go.
use Rattle.std.specs.Prelude.{◌≡◌, ℕ, ◌<◌, List, [], ◌∷◌, length, None}
use Rattle.mt_kinds.specs.declared.mem_type.MemType.{MemType}
use Rattle.mt_regs.specs.RegisterFile.{RegisterFile}
use Rattle.mt_machine.specs.declared.op.Op.TheVariants.{Load}
use Rattle.mt_machine.specs.declared.done.Done.TheVariants.{Value}
use Rattle.mt_machine.specs.Access.{access}
use Rattle.mt_machine.specs.Machine.{Machine, MachineEvent, Calls, IsEnabled, next}
use Rattle.mt_machine.specs.Start.{IsStart}
use Rattle.mt_machine.specs.ComingAndGoing.{last_number, with_newcomer, without_last}
use Rattle.mt_machine.specs.Update.{updated}
use Rattle.mt_laws.specs.Counts.{IsEachOnce}
use Rattle.mt_flat.specs.Flat.{Flat, empty_all}
use Rattle.mt_flat.specs.Seen.{IsFlatAnswer, IsFlatOf, flat_after, flat_takes}

-- an event, a whole update to this goal in which these processors take in this order, a processor more, or the last one's going
pub data Turn : Type 0 where
  Does : (e : MachineEvent) → Turn
  Updates : (goal : RegisterFile) → (takes : List ℕ) → Turn
  ComesUp : Turn
  GoesDown : Turn

abbrev pub turned : Machine → Turn → Machine
turned m (Does e) = next m e
turned m (Updates goal takes) = updated m.system takes goal
turned m ComesUp = with_newcomer m
turned m GoesDown = without_last m

-- an update can be called, and each processor takes once; processors come up and go while none is under way
abbrev pub CanTurn : Machine → Turn → Type 0
CanTurn m (Does e) = IsEnabled m e
CanTurn m (Updates goal takes) = IsEnabled m (Calls goal) × IsEachOnce (length m.system.processors) takes
CanTurn m ComesUp = m.order ≡ None
CanTurn m GoesDown = (m.order ≡ None) × (0 < length m.system.processors)

abbrev pub course : Machine → List Turn → Machine
course m [] = m
course m (t ∷ ts) = course (turned m t) ts

abbrev pub IsCourse : Machine → List Turn → Type 0
IsCourse m [] = Unit {0}
IsCourse m (t ∷ ts) = CanTurn m t × IsCourse (turned m t) ts

abbrev pub flat_turned : Machine → Turn → Flat → Flat
flat_turned m (Does e) f = flat_after m e f
flat_turned m (Updates goal takes) f = flat_takes takes f
flat_turned m ComesUp f = f
flat_turned m GoesDown f = empty_all (last_number m.system) f

abbrev pub flat_course : Machine → List Turn → Flat → Flat
flat_course m [] f = f
flat_course m (t ∷ ts) f = flat_course (turned m t) ts (flat_turned m t f)

-- each course keeps the relation
abbrev pub CoursesKeepFlat : Type 0
CoursesKeepFlat =
    (s : Machine) (f : Flat) (ts : List Turn) → IsStart s → IsFlatOf s.system f → IsCourse s ts → IsFlatOf (course s ts).system (flat_course s ts f)

-- and after each course a load is answered as by the flat machine
abbrev pub CoursesHideCaches : Type 0
CoursesHideCaches =
    (s : Machine) (f : Flat) (ts : List Turn) (k address value : ℕ) (kind : MemType) → IsStart s → IsFlatOf s.system f → IsCourse s ts
    → (access (course s ts).system k (Load address)).answer ≡ Value value kind → IsFlatAnswer (course s ts) (flat_course s ts f) k address (value, kind)
