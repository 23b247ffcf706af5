-- A rendezvous of processors that keeps its books in C's words, as the header says, and the machine's update that it leads (own).
use Rattle.std.specs.Prelude.{◌≡◌, ◌≢◌, ℕ, ◌<◌, Bool, true, false, List, [], ◌∷◌, length, map, slice_get, slice_set, Some}
use Rattle.std.specs.List.{count_by}
use Rattle.std.specs.Option.{option_map_or}
use Rattle.mt_machine.specs.declared.go.Go.{Go}
use Rattle.mt_machine.specs.declared.go.Go.TheVariants.{Pending, Given, Cancelled}
use Rattle.mt_machine.specs.Machine.{Calls, IsEnabled, Machine, Order, Reached, has_arrived, has_arrived_again, has_released, next, remaining_order}
use Rattle.mt_machine.specs.Start.{IsQuiet, IsStart}
use Rattle.mt_machine.specs.System.{Processor}
use Rattle.mt_machine.specs.Update.{Led}
use Rattle.mt_laws.specs.Updates.{order_of_call}
use Rattle.mt_plain.specs.declared.turn.PlainProcessor.{PlainProcessor}
use Rattle.mt_plain.specs.declared.turn.PlainStep.{PlainStep}
use Rattle.mt_plain.specs.declared.turn.PlainUpdate.{PlainUpdate}
use Rattle.mt_plain.specs.Did.{kept}
use Rattle.mt_plain.specs.Due.{IsTold, phase_number, phase_place}
use Rattle.mt_regs.specs.RegisterFile.{RegisterFile}
use Rattle.mt_regs.specs.Registers.{writable}

-- ---- the books

pub record Rendezvous : Type 0 where
  pub update : PlainUpdate
  pub processors : List PlainProcessor

-- what may be done to them: the coordinator's word, and a call of did for a processor that answers that it is done
pub data Move : Type 0 where
  Gives : Move
  CallsOff : Move
  Books : (k : ℕ) → (step : PlainStep) → Move

abbrev pub IsBooked : Rendezvous → PlainStep → PlainProcessor → Type 0
IsBooked w step d = (kept w.update d step).status ≡ 0

abbrev pub IsAllowed : Rendezvous → Move → Type 0
IsAllowed w Gives = w.update.word ≡ 0
IsAllowed w CallsOff = w.update.word ≡ 0
IsAllowed w (Books k step) = (d : PlainProcessor) × (slice_get w.processors k ≡ Some d) × IsBooked w step d

abbrev pub booked : Rendezvous → ℕ → PlainStep → PlainProcessor → Rendezvous
booked w k step d = record {
  update = (kept w.update d step).update;
  processors = slice_set w.processors k (kept w.update d step).processor;
}

abbrev pub moved_to : Rendezvous → Move → Rendezvous
moved_to w Gives = record w { update = record w.update { word = 1 } }
moved_to w CallsOff = record w { update = record w.update { word = 2 } }
moved_to w (Books k step) = option_map_or (booked w k step) (slice_get w.processors k) w

abbrev pub AreAllowed : Rendezvous → List Move → Type 0
AreAllowed w [] = Unit {0}
AreAllowed w (move ∷ moves) = IsAllowed w move × AreAllowed (moved_to w move) moves

abbrev pub all_moved : Rendezvous → List Move → Rendezvous
all_moved w [] = w
all_moved w (move ∷ moves) = all_moved (moved_to w move) moves

-- ---- what they tell of the machine

abbrev pub byte_of : Bool → ℕ
byte_of true = 1
byte_of false = 0

abbrev pub go_number : Go → ℕ
go_number Pending = 0
go_number Given = 1
go_number Cancelled = 2

abbrev pub processor_words : Order → Processor → PlainProcessor
processor_words o p = record {
  phase = phase_number p.phase;
  place = phase_place p.phase;
  registers = length (writable p.file);
  self_snoop = byte_of p.self_snoop;
  finished = byte_of (has_released o p);
}

abbrev pub update_words : Order → List Processor → PlainUpdate
update_words o ps = record {
  word = go_number o.go;
  processors = length ps;
  arrived = count_by (has_arrived o) ps;
  arrived_again = count_by (has_arrived_again o) ps;
}

abbrev pub words_of : Order → List Processor → Rendezvous
words_of o ps = record { update = update_words o ps; processors = map (processor_words o) ps }

-- the books are the machine's, whose update is under way, or was decided and is over
pub record BooksTell (w : Rendezvous) (o : Order) (m : Machine) : Type 0 where
  pub words : w ≡ words_of o m.system.processors
  pub order : m.order ≡ remaining_order o m.system.processors
  pub undecided : o.go ≡ Pending → m.order ≡ Some o

-- the books of an update that begins
abbrev pub first_words : Processor → PlainProcessor
first_words p = record { phase = 0; place = 0; registers = length (writable p.file); self_snoop = byte_of p.self_snoop; finished = 0 }

abbrev pub begun : List Processor → Rendezvous
begun ps = record {
  update = record { word = 0; processors = length ps; arrived = 0; arrived_again = 0 };
  processors = map first_words ps;
}

-- by go, cancel and steps alone a machine is reached of which the books tell
pub record IsFollowed (w : Rendezvous) (m : Machine) : Type 0 where
  pub order : Order
  pub machine : Machine
  pub led : Led m machine
  pub tells : BooksTell w order machine

-- ---- the laws

abbrev pub BeginsTelling : Type 0
BeginsTelling =
    (s : Machine) (goal : RegisterFile) → IsQuiet s → IsEnabled s (Calls goal) → 0 < length s.system.processors
    → BooksTell (begun s.system.processors) (order_of_call s goal) (next s (Calls goal))

abbrev pub MovesAreLed : Type 0
MovesAreLed =
    (s m : Machine) (o : Order) (w : Rendezvous) (move : Move) → IsStart s → Reached s m → BooksTell w o m → IsAllowed w move
    → IsFollowed (moved_to w move) m

-- whatever the order of the processors' steps is, and whenever the go is given or the update is cancelled
abbrev pub RendezvousIsLed : Type 0
RendezvousIsLed =
    (s : Machine) (goal : RegisterFile) (moves : List Move) → IsQuiet s → IsEnabled s (Calls goal) → 0 < length s.system.processors
    → AreAllowed (begun s.system.processors) moves
    → IsFollowed (all_moved (begun s.system.processors) moves) (next s (Calls goal))

-- what the next step is asked of is told rightly
abbrev pub EachIsTold : Type 0
EachIsTold =
    (s m : Machine) (o : Order) (w : Rendezvous) (k : ℕ) (p : Processor) → IsStart s → Reached s m → BooksTell w o m → m.order ≡ Some o
    → slice_get m.system.processors k ≡ Some p
    → (d : PlainProcessor) × (slice_get w.processors k ≡ Some d) × IsTold w.update d o m.system.processors p

-- while one processor's books say that it changes its registers (phases 3 to 12), no other's say that it runs (phase 0)
abbrev pub NoneRunsInBooks : Type 0
NoneRunsInBooks =
    (s m : Machine) (o : Order) (w : Rendezvous) (i j : ℕ) (d e : PlainProcessor) → IsStart s → Reached s m → BooksTell w o m
    → slice_get w.processors i ≡ Some d → slice_get w.processors j ≡ Some e → 2 < d.phase → d.phase < 13 → e.phase ≢ 0
