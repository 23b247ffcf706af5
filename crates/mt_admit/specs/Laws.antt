-- What holds where processors are brought up and retired.
use Rattle.std.specs.Prelude.{◌≡◌, ℕ, ◌+◌, ◌<◌, ◌%◌, true, not, ◌&&◌, List, ◌∷◌, ◌++◌, length, map, None, Some, slice_get, take}
use Rattle.std.specs.List.{list_all}
use Rattle.mt_regs.specs.RegisterFile.{blank_file}
use Rattle.mt_machine.specs.declared.event.Event.TheVariants.{Release}
use Rattle.mt_machine.specs.System.{Processor, System, now}
use Rattle.mt_machine.specs.Bus.{drain}
use Rattle.mt_machine.specs.Machine.{AreEnabled, Machine, MachineEvent, Order, Steps, common_era, run}
use Rattle.mt_machine.specs.ComingAndGoing.{last_number, with_newcomer, without_last}
use Rattle.mt_machine.specs.Update.{IsHeld, IsSettled, emptied, is_call, is_go, is_led, takes_of}
use Rattle.mt_laws.specs.ComingAndGoing.{uncached}
use Rattle.mt_laws.specs.Settled.{IsFirstRelease}
use Rattle.mt_core.specs.Arises.{Arises}
use Rattle.mt_admit.specs.Admission.{brought_up, first_file}

-- the machine arises, no update is under way, and it has a processor
pub record CanGrow (m : Machine) : Type 0 where
  pub arises : Arises m
  pub idle : m.order ≡ None
  pub some : 0 < length m.system.processors

-- the machine with the newcomer, its update called, arises, so that all that holds of what arises holds of its processors, the newcomer among them
abbrev pub UpsArise : Type 0
UpsArise = (m : Machine) → CanGrow m → Arises (brought_up m)

-- one processor more than m has, each with processor 0's registers of m and with nothing older than the update
pub record AllAgree (m : Machine) (t : System) : Type 0 where
  pub number : length t.processors ≡ length m.system.processors + 1
  pub settled : IsSettled t (common_era m.system.processors + 1) (first_file m.system)

-- whoever releases in the update of a newcomer, over every list of events, all processors agree from then on, up to the next call
abbrev pub NewcomersAgree : Type 0
NewcomersAgree =
    (m : Machine) (before since : List MachineEvent) (k : ℕ) → CanGrow m
    → AreEnabled (brought_up m) (before ++ Steps k Release ∷ since) → list_all (λ e. not (is_call e)) before ≡ true → list_all (λ e. not (is_call e)) since ≡ true
    → AllAgree m (run (brought_up m) (before ++ Steps k Release ∷ since)).system

-- from the first release in the update of a newcomer, over every list of events, each word that no access stored since is in memory as it was before
-- the first pass, when the buffers were empty: whoever is told of completion knows it. So it is in each later update
abbrev pub NewcomersKeepWords : Type 0
NewcomersKeepWords =
    (m r : Machine) (o : Order) (before since : List MachineEvent) → CanGrow m
    → AreEnabled (brought_up m) before → IsFirstRelease (run (brought_up m) before) r o → AreEnabled r since
    → IsHeld (run (brought_up m) before).system r since

-- what fences leave, in the order of the takes, of the machine with the newcomer; this one has the blank file still
pub record IsGivenUp (m t : Machine) (takes : List ℕ) : Type 0 where
  pub fences : t ≡ record { system = emptied (with_newcomer m).system takes; order = None }
  pub blank : (p : Processor) → slice_get t.system.processors (length m.system.processors) ≡ Some p → p.file ≡ blank_file (first_file m.system).width (first_file m.system).capabilities

-- where the update of a newcomer is cancelled, and since its call nothing came but its steps and the cancel
abbrev pub CancelledNewcomersStayBlank : Type 0
CancelledNewcomersStayBlank =
    (m : Machine) (es : List MachineEvent) → CanGrow m → AreEnabled (brought_up m) es → list_all (λ e. is_led e && not (is_go e)) es ≡ true
    → (run (brought_up m) es).order ≡ None
    → IsGivenUp m (run (brought_up m) es) (takes_of es)

-- the words have the values that they had once the buffers of the last were emptied, and the others all but lines and buffers
pub record OthersAreLeft (s t : System) : Type 0 where
  pub words : (address : ℕ) → address % 8 ≡ 0 → now t address ≡ now (drain (last_number s) s) address
  pub others : map uncached t.processors ≡ take (last_number s) (map uncached s.processors)

abbrev pub RetiredLeaveTheOthers : Type 0
RetiredLeaveTheOthers = (m : Machine) → CanGrow m → OthersAreLeft m.system (without_last m).system
