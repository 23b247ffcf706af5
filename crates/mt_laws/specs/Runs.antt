-- Reached states and lists of events.
use Rattle.std.specs.Prelude.{◌≡◌, List, true}
use Rattle.std.specs.List.{list_all}
use Rattle.mt_machine.specs.Machine.{Machine, Reached, MachineEvent, run, AreEnabled}
use Rattle.mt_machine.specs.Update.{Led, is_led}

-- a reached state is the state after a list of enabled events, and the other way round
abbrev pub ReachedIsRun : Type 0
ReachedIsRun =
    (s t : Machine) → (Reached s t → (es : List MachineEvent) × AreEnabled s es × (run s es ≡ t))
    × ((es : List MachineEvent) → AreEnabled s es → run s es ≡ t → Reached s t)

abbrev pub LedIsReached : Type 0
LedIsReached = (s t : Machine) → Led s t → Reached s t

-- what is led to is the state after a list of enabled events of these alone, and the other way round
abbrev pub LedIsRun : Type 0
LedIsRun =
    (s t : Machine) → (Led s t → (es : List MachineEvent) × AreEnabled s es × (list_all is_led es ≡ true) × (run s es ≡ t))
    × ((es : List MachineEvent) → AreEnabled s es → list_all is_led es ≡ true → run s es ≡ t → Led s t)
