-- What the words and the views of a station stand for, and the rule.
use Rattle.std.specs.Prelude.{◌≡◌, ◌≢◌, ◌⊎◌, ℕ, ◌+◌, ◌<◌, Bool, true, false, List, [], ◌∷◌, ◌++◌, map, length, drop, slice_index, Option, Some, None, ◌-◌, ◌^◌, slice_get}
use mathlib.Core.Option.{some}
use lib.ListN.{get_elem?}
use Rattle.atomic_table.specs.Table.{State}
use Rattle.mt_regs.specs.RegisterFile.{RegisterFile}
use Rattle.mt_machine.specs.declared.phase.Phase.{Phase}
use Rattle.mt_machine.specs.declared.phase.Phase.TheVariants.{Running, Taken, Arrived, NoFill, Flushed, TlbFlushed, Writing, Enabled, Flushed2, TlbFlushed2, Normal, Restored, Arrived2}
use Rattle.mt_machine.specs.declared.go.Go.{Go}
use Rattle.mt_machine.specs.declared.go.Go.TheVariants.{Pending, Given, Cancelled}
use Rattle.mt_machine.specs.Memory.{Memory}
use Rattle.mt_machine.specs.System.{Processor, System}
use Rattle.mt_machine.specs.Machine.{Machine, Order, common_era, stepped}
use Rattle.mt_machine.specs.Update.{Led}
use Rattle.mt_machine.specs.Start.{IsBroadcast}
use Rattle.mt_rendezvous.specs.declared.view.Added.{Added}
use Rattle.mt_rendezvous.specs.declared.view.Added.TheVariants.{Never, Once, Twice}
use Rattle.mt_rendezvous.specs.declared.view.Held.{Held}
use Rattle.mt_rendezvous.specs.declared.view.Start.{Start}
use Rattle.mt_rendezvous.specs.declared.view.View.{View}
use Rattle.mt_rendezvous.specs.declared.view.Key.{Key}

-- ---- the broadcast state

abbrev pub order_of : Start → Go → Order
order_of t go = record { goal = t.goal; from_era = common_era t.cpus; go = go }

abbrev pub broadcast : Start → Machine
broadcast t = record { system = record { processors = t.cpus; memory = t.ram }; order = Some (order_of t Pending) }

-- it is one: all have taken, with one era, which may rise, and the goal's kind, and the whole is sound
pub record Begins (t : Start) : Type 0 where
  pub broadcasts : IsBroadcast (broadcast t) (order_of t Pending)
  pub room : common_era t.cpus < 2 ^ 64 - 1

-- ---- what the words and a list of all processors stand for

abbrev pub cpu_of : Held → Processor
cpu_of h = h.cpu

-- the words of memory stand after the two counts and the phases
abbrev pub first_memory_word : Start → ℕ
first_memory_word t = length t.cpus + 2

abbrev pub memory_of : Start → List ℕ → Memory
memory_of t words = record { windows = t.ram.windows; words = drop (first_memory_word t) words }

abbrev pub system_of : Start → List Held → List ℕ → System
system_of t all words = record { processors = map cpu_of all; memory = memory_of t words }

-- the order is there while its update isn't over
abbrev pub joined : Start → List Held → Go → List ℕ → Machine
joined t all go words = stepped (order_of t go) (system_of t all words)

-- ---- views

abbrev pub held : ℕ → Processor → Added → Held
held k c added = record { number = k; cpu = c; added = added }

-- the processors by their numbers
abbrev pub numbered : ℕ → List Processor → List Held
numbered k [] = []
numbered k (c ∷ cs) = held k c Never ∷ numbered (k + 1) cs

abbrev pub start_of : Key → Start
start_of key = record { cpus = key.cpus.value.items; ram = key.ram.value; goal = key.goal.value }

abbrev pub view : Bool → List Held → Go → Option ℕ → View → View
view root hs go shown v = record { root = root; held = hs; go = go; shown = shown; start = v.start }

abbrev pub first_view : Key → View
first_view key = record { root = true; held = numbered 0 key.cpus.value.items; go = Pending; shown = None; start = start_of key }

-- the same view with other processors
abbrev pub with_held : View → List Held → View
with_held v hs = view v.root hs v.go v.shown v

abbrev pub one : List Held → List Held
one [] = []
one (h ∷ hs) = h ∷ []

abbrev pub others : List Held → List Held
others [] = []
others (h ∷ hs) = hs

abbrev pub root_left : View → View
root_left v = with_held v (others v.held)

abbrev pub pass_right : View → View
pass_right v = view false (one v.held) Pending None v

abbrev pub both : View → View → View
both v w = with_held v (w.held ++ v.held)

-- a spent view stands for nothing
abbrev pub no_file : RegisterFile
no_file = record { width = 0; capabilities = 0; pairs = []; fixed = []; pat = 0; default_type = 0 }

abbrev pub nothing : Start
nothing = record { cpus = []; ram = record { windows = []; words = [] }; goal = no_file }

abbrev pub spent : View
spent = record { root = false; held = []; go = Pending; shown = None; start = nothing }

-- ---- the words

abbrev pub weight : Bool → ℕ
weight true = 1
weight false = 0

abbrev pub total : (Held → ℕ) → List Held → ℕ
total f [] = 0
total f (h ∷ hs) = f h + total f hs

-- whether a pass has added to the first count, and to the second
abbrev pub in_first : Added → Bool
in_first Never = false
in_first Once = true
in_first Twice = true

abbrev pub in_second : Added → Bool
in_second Never = false
in_second Once = false
in_second Twice = true

abbrev pub added_of : Held → ℕ
added_of h = weight (in_first h.added)

abbrev pub again_of : Held → ℕ
again_of h = weight (in_second h.added)

-- what the coordinator has added to word 0
abbrev pub go_weight : Go → ℕ
go_weight Pending = 0
go_weight Given = 1
go_weight Cancelled = 4294967296

-- what has been added to the two counts, words 0 and 1
abbrev pub first_count : List Held → Go → ℕ
first_count all go = total added_of all + go_weight go

abbrev pub second_count : List Held → ℕ
second_count all = total again_of all

-- the number of a phase that an event of a processor alone leads to
abbrev pub code : Phase → ℕ
code NoFill = 1
code Flushed = 2
code TlbFlushed = 3
code Enabled = 4
code Flushed2 = 5
code TlbFlushed2 = 6
code Normal = 7
code Restored = 8
code (Writing i) = 9 + i
code other = 0

-- the phase that the last such event led to: at the second barrier, and after it, PGE is restored
abbrev pub phase_word : Bool → Phase → ℕ
phase_word again Arrived2 = 8
phase_word true Running = 8
phase_word again other = code other

abbrev pub phase_word_of : Held → ℕ
phase_word_of h = phase_word (in_second h.added) h.cpu.phase

-- ---- the rule

-- how a processor's phase and what its pass has added go together
abbrev pub FitsPhase : Go → Added → Phase → Type 0
FitsPhase go added Taken = (added ≡ Never) ⊎ ((added ≡ Once) × (go ≡ Cancelled))
FitsPhase go added Arrived = added ≡ Once
FitsPhase go added Arrived2 = (added ≡ Twice) × (go ≡ Given)
FitsPhase go added Running = ((added ≡ Once) × (go ≡ Cancelled)) ⊎ ((added ≡ Twice) × (go ≡ Given))
FitsPhase go added other = (added ≡ Once) × (go ≡ Given)

-- whether its era has risen
abbrev pub rise : Bool → Phase → ℕ
rise again Running = weight again
rise again other = 0

-- it waits for the first barrier, or to arrive there
abbrev pub Waits : Phase → Type 0
Waits Taken = Unit {0}
Waits Arrived = Unit {0}
Waits other = ⊥

-- as long as it waits it is as it was gathered, but for its phase
pub record FitsHeld (t : Start) (go : Go) (h : Held) : Type 0 where
  pub first : Waits h.cpu.phase → slice_get t.cpus h.number ≡ Some (record h.cpu { phase = Taken })
  pub fits : FitsPhase go h.added h.cpu.phase
  pub era : h.cpu.era ≡ common_era t.cpus + rise (in_second h.added) h.cpu.phase

abbrev pub NotIn : ℕ → List Held → Type 0
NotIn k hs = (i : ℕ) (h : Held) → get_elem? hs i ≡ some h → h.number ≢ k

-- no number twice
abbrev pub Apart : List Held → Type 0
Apart [] = Unit {0}
Apart (h ∷ hs) = NotIn h.number hs × Apart hs

-- all processors, what the coordinator said, and which seat has each processor
pub record Seating : Type 0 where
  pub all : List Held
  pub go : Go
  pub owner : ℕ → ℕ

abbrev pub seating : List Held → Go → (ℕ → ℕ) → Seating
seating all go owner = record { all = all; go = go; owner = owner }

-- what one seat knows
pub record Sits (t : Start) (seats : Seating) (j : ℕ) (v : View) : Type 0 where
  pub root : v.root ≡ true → (j ≡ 0) × (v.go ≡ seats.go)
  pub told : ((v.held ≡ []) × (v.root ≡ false)) ⊎ (v.start ≡ t)
  pub holds : (i : ℕ) (h : Held) → get_elem? v.held i ≡ some h → (get_elem? seats.all h.number ≡ some h) × (seats.owner h.number ≡ j)
  pub apart : Apart v.held

-- some view has the processor k
abbrev pub IsHeld : List View → ℕ → Type 0
IsHeld views k = (j : ℕ) × (v : View) × (i : ℕ) × (h : Held) × (get_elem? views j ≡ some v) × (get_elem? v.held i ≡ some h) × (h.number ≡ k)

-- the words and the views stand for one state, to which the broadcast state leads
pub record Meets (key : Key) (s : State (Unit {0}) View) : Type 0 where
  pub all : List Held
  pub go : Go
  pub owner : ℕ → ℕ
  pub begins : Begins (start_of key)
  pub led_to : Led (broadcast (start_of key)) (joined (start_of key) all go s.words)
  pub size : length all ≡ length key.cpus.value.items
  pub some_one : 0 < length all
  pub few : length all < 65536
  pub wide : length s.words ≡ first_memory_word (start_of key) + length key.ram.value.words
  pub first : slice_index s.words 0 ≡ first_count all go
  pub second : slice_index s.words 1 ≡ second_count all
  pub fits : (k : ℕ) (h : Held) → get_elem? all k ≡ some h → FitsHeld (start_of key) go h × (h.number ≡ k)
  pub codes : (k : ℕ) (h : Held) → get_elem? all k ≡ some h → slice_index s.words (k + 2) ≡ phase_word_of h
  pub present : (k : ℕ) → k < length all → IsHeld s.views k
  pub seats : (j : ℕ) (v : View) → get_elem? s.views j ≡ some v → Sits (start_of key) (seating all go owner) j v
