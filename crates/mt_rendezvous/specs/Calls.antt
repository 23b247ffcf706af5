-- What the calls of a station say.
use Rattle.std.specs.Prelude.{◌≡◌, ℕ, ◌<◌, ◌+◌, slice_get, true, List, [], ◌∷◌, ◌++◌, drop, length, replicate, None, Some}
use mathlib.Core.Option.{some}
use lib.ListN.{get_elem?}
use Rattle.atomic_table.specs.Table.{Me}
use Rattle.atomic_table.specs.Seated.{TableId}
use Rattle.mt_machine.specs.declared.phase.Phase.TheVariants.{Running}
use Rattle.mt_machine.specs.declared.go.Go.{Go}
use Rattle.mt_machine.specs.declared.go.Go.TheVariants.{Given}
use Rattle.mt_machine.specs.declared.go.Go.TheVariants.{Cancelled as Stopped}
use Rattle.mt_regs.specs.RegisterFile.{RegisterFile}
use Rattle.mt_machine.specs.System.{Processor}
use Rattle.mt_machine.specs.Machine.{Machine, remaining_order}
use Rattle.mt_machine.specs.Memory.{Memory}
use Rattle.mt_machine.specs.Update.{Led, updated}
use Rattle.mt_laws.specs.Updates.{all_running}
use Rattle.std.specs.List.{All}
use Rattle.mt_rendezvous.specs.declared.view.Added.{Added}
use Rattle.mt_rendezvous.specs.declared.view.Held.{Held}
use Rattle.mt_rendezvous.specs.declared.view.Start.{Start}
use Rattle.mt_rendezvous.specs.declared.view.View.{View}
use Rattle.mt_rendezvous.specs.Station.{broadcast, held, in_first, numbered, order_of}
use Rattle.mt_rendezvous.specs.Plays.{Sat}

-- a seat, beside the table and the start that it is to be of
pub record SeatOf (M : Type 0) : Type 0 where
  pub table : TableId
  pub start : Start
  pub its : TableId
  pub me : M

-- the seat of a pass, with the number of its processor
pub record PassOf (M : Type 0) : Type 0 where
  pub table : TableId
  pub start : Start
  pub its : TableId
  pub me : M
  pub number : ℕ

-- the pass's seat is of its table, and has this one processor
pub record Carries (pass : PassOf Sat) (c : Processor) (added : Added) : Type 0 where
  pub same : pass.its ≡ pass.table
  pub holds : pass.me.0.held ≡ held pass.number c added ∷ []
  pub told : pass.me.0.start ≡ pass.start
  pub below : pass.number < length pass.start.cpus
  pub bare : pass.me.1 ≡ []

-- the pass of the view's one processor has added to word 0
abbrev pub HasAdded : View → Type 0
HasAdded v = (h : Held) × (v.held ≡ h ∷ []) × (in_first h.added ≡ true)

-- the root's seat
abbrev pub IsRoot : SeatOf Sat → Type 0
IsRoot seat = (seat.its ≡ seat.table) × (seat.me.0.root ≡ true) × (seat.me.1 ≡ [])

-- and what it has said
pub record Leads (seat : SeatOf Sat) (go : Go) : Type 0 where
  pub same : seat.its ≡ seat.table
  pub root : seat.me.0.root ≡ true
  pub said : seat.me.0.go ≡ go
  pub told : seat.me.0.start ≡ seat.start
  pub bare : seat.me.1 ≡ []

-- the root has the processors from number i on
abbrev pub Offers : Start → ℕ → Me (Unit {0}) View → Type 0
Offers t i me = me.0.held ≡ numbered i (drop i t.cpus)

-- what a station is made of
abbrev pub gathered : List Processor → Memory → RegisterFile → Start
gathered cpus ram goal = record { cpus = cpus; ram = ram; goal = goal }

-- so many zeros, and the words of memory
abbrev pub opening_words : ℕ → List ℕ → List ℕ
opening_words count words = replicate (count + 2) 0 ++ words

-- where the machine ends: a state that the broadcast leads to, with this memory, in which each processor that the root has is as the root has it
pub record Ends (t : Start) (v : View) (ram : Memory) : Type 0 where
  pub machine : Machine
  pub led : Led (broadcast t) machine
  pub memory : machine.system.memory ≡ ram
  pub order : machine.order ≡ remaining_order (order_of t v.go) machine.system.processors
  pub size : length machine.system.processors ≡ length t.cpus
  pub has : (i : ℕ) (h : Held) → get_elem? v.held i ≡ some h → slice_get machine.system.processors h.number ≡ Some h.cpu
  pub given : v.go ≡ Given → All (λ p. p.phase ≡ Running) machine.system.processors → machine ≡ updated (broadcast t).system [] t.goal
  pub cancelled : v.go ≡ Stopped → All (λ p. p.phase ≡ Running) machine.system.processors → machine ≡ record { system = all_running (broadcast t).system; order = None }
