-- What is sound stays sound.
use Rattle.std.specs.Prelude.{◌≡◌, ℕ, length, slice_get, Some, ◌<◌, ◌^◌}
use Rattle.std.specs.List.{All}
use Rattle.mt_machine.specs.Memory.{place}
use Rattle.mt_machine.specs.System.{Processor, System, IsCoherent, IsSound}
use Rattle.mt_machine.specs.Machine.{Machine, Reached, FitsControl, write_back_or_drop}
use Rattle.mt_machine.specs.Access.{access}
use Rattle.mt_machine.specs.Start.{IsStart}
use Rattle.mt_machine.specs.declared.op.Op.{Op}
use Rattle.mt_machine.specs.declared.event.Event.TheVariants.{WriteBack}
use Rattle.mt_machine.specs.declared.control.Control.{Control}
use Rattle.mt_machine.specs.Control.{control}
use Rattle.mt_machine.specs.Bus.{drain}

-- a clean cached word is memory's, and where a cache has a dirty word no other has the line
abbrev pub StaysCoherent : Type 0
StaysCoherent = (s m : Machine) → IsStart s → Reached s m → IsCoherent m.system

-- and all else that a system keeps
abbrev pub StaysSound : Type 0
StaysSound = (s m : Machine) → IsStart s → Reached s m → IsSound m.system

-- an access, a control instruction and a drain keep every sound system sound, whatever its phases are
abbrev pub AccessKeepsSound : Type 0
AccessKeepsSound = (s : System) (k : ℕ) (op : Op) → IsSound s → IsSound (access s k op).after

abbrev pub ControlKeepsSound : Type 0
ControlKeepsSound =
    (s : System) (k : ℕ) (c : Control) → IsSound s → ((p : Processor) → slice_get s.processors k ≡ Some p → FitsControl p c)
    → IsSound (control s k c).after

abbrev pub DrainKeepsSound : Type 0
DrainKeepsSound = (s : System) (k : ℕ) → IsSound s → IsSound (drain k s)

-- the lines of a sound system, whose numbers are below 2^46, lie below 2^52
abbrev pub LinesAreLow : Type 0
LinesAreLow = (s : System) → IsSound s → All (λ p. All (λ l. l.number < 2 ^ 46) p.lines × All (λ l. l.number < 2 ^ 46) p.buffers) s.processors

-- a dirty word of a sound system has a place in memory, to which it is written back
abbrev pub WriteBacksHavePlaces : Type 0
WriteBacksHavePlaces =
    (s : System) (k : ℕ) (p : Processor) (address value : ℕ) → IsSound s → slice_get s.processors k ≡ Some p
    → write_back_or_drop p ≡ WriteBack address value → (i : ℕ) × (place s.memory address ≡ Some i) × (i < length s.memory.words)
