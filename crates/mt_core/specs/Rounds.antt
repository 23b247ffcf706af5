-- Whole turns of steps, until no update is under way (own).
use Rattle.std.specs.Prelude.{◌≡◌, ◌<◌, ◌&&◌, ℕ, true, not, List, [], ◌∷◌, ◌++◌, length, IsSome, Option, None, Some}
use Rattle.std.specs.List.{fold, list_all, range_with_len}
use Rattle.mt_machine.specs.declared.event.Event.TheVariants.{Release}
use Rattle.mt_machine.specs.declared.go.Go.{Go}
use Rattle.mt_machine.specs.declared.go.Go.TheVariants.{Pending}
use Rattle.mt_machine.specs.Machine.{AreEnabled, Calls, Goes, IsEnabled, Machine, MachineEvent, Reached, Steps, common_era, go_of, next, run}
use Rattle.mt_regs.specs.RegisterFile.{RegisterFile}
use Rattle.mt_machine.specs.Start.{IsQuiet}
use Rattle.mt_machine.specs.Update.{is_call, is_cancel, is_led, updated}
use Rattle.mt_core.specs.Arises.{Arises}
use Rattle.mt_core.specs.Since.{IsHeldSince, IsSettledSince}
use Rattle.mt_core.specs.Steps.{step_after}

-- the numbers below a count, in order
abbrev pub ascending : ℕ → List ℕ
ascending count = range_with_len 0 count

-- the numbers of the processors, in order
abbrev pub in_order : Machine → List ℕ
in_order m = ascending (length m.system.processors)

-- one turn: each processor in ascending order does its event that is due
abbrev pub each_steps : Machine → Machine
each_steps m = fold step_after m (in_order m)

abbrev pub given_where : Option Go → Machine → Machine
given_where (Some Pending) m = next m Goes
given_where other m = m

-- the go is given where it is pending
abbrev pub with_go_given : Machine → Machine
with_go_given m = given_where (go_of m) m

-- so many turns as lead from the first machine to the second, which is the first without an order
pub data Rounds : Machine → Machine → Type 0 where
  ended : {m : Machine} → m.order ≡ None → Rounds m m
  again : {m n : Machine} → IsSome m.order → Rounds (each_steps m) n → Rounds m n

-- where this machine is one that a call led to from a quiet state, and the go isn't given yet, the other is the state after the whole update, given outright
abbrev pub IsWholeUpdate : Machine → Machine → Type 0
IsWholeUpdate m n =
    (s : Machine) (goal : RegisterFile) → IsQuiet s → IsEnabled s (Calls goal) → m ≡ next s (Calls goal)
    → n ≡ updated s.system (in_order s) goal

-- once the go is given, where it is pending, turns come to an end, whatever state arose, and what they lead to is reached by events
abbrev pub TurnsEnd : Type 0
TurnsEnd = (m : Machine) → Arises m → (t : Machine) × Rounds (with_go_given m) t × Reached m t

-- the last event is a release
abbrev pub EndsByRelease : List MachineEvent → Type 0
EndsByRelease es = (front : List MachineEvent) × (k : ℕ) × (es ≡ front ++ Steps k Release ∷ [])

-- A whole update as events: after the call the go and steps alone, of which a release is the last.
pub record IsUpdateByEvents (s : Machine) (goal : RegisterFile) (es : List MachineEvent) : Type 0 where
  pub enabled : AreEnabled s (Calls goal ∷ es)
  pub led : list_all (λ e. is_led e && not (is_cancel e)) es ≡ true
  pub leads : run s (Calls goal ∷ es) ≡ updated s.system (in_order s) goal
  pub last : 0 < length s.system.processors → EndsByRelease es

-- the state after a whole update is reached by events from the state before it
abbrev pub UpdatesAreReached : Type 0
UpdatesAreReached =
    (s : Machine) (goal : RegisterFile) → IsQuiet s → IsEnabled s (Calls goal)
    → Reached s (updated s.system (in_order s) goal) × ((es : List MachineEvent) × IsUpdateByEvents s goal es)

-- from there on, and up to the next call, each processor has the goal's registers and nothing is held of another era
abbrev pub UpdatesSettle : Type 0
UpdatesSettle =
    (s : Machine) (goal : RegisterFile) (since : List MachineEvent) → IsQuiet s → IsEnabled s (Calls goal) → 0 < length s.system.processors
    → AreEnabled (updated s.system (in_order s) goal) since → list_all (λ e. not (is_call e)) since ≡ true
    → IsSettledSince (updated s.system (in_order s) goal) (common_era s.system.processors) goal since

-- and each word that no access stored since is in memory as the update left it
abbrev pub UpdatedWordsAreHeld : Type 0
UpdatedWordsAreHeld =
    (s : Machine) (goal : RegisterFile) (since : List MachineEvent) (address : ℕ) → IsQuiet s → IsEnabled s (Calls goal)
    → AreEnabled (updated s.system (in_order s) goal) since → IsHeldSince (updated s.system (in_order s) goal) since address
