-- What each step of a seat tells: its view before and after, and the event that it is, or that it is none.
use Rattle.std.specs.Prelude.{◌≡◌, ◌≢◌, ◌⊎◌, ℕ, zero, suc, ◌+◌, ◌%◌, ◌^◌, ◌<◌, ◌≤◌, true, false, List, [], ◌∷◌, map, length, slice_get, slice_index, slice_set, Option, Some, None, IsTrue}
use Rattle.std.specs.Option.{option_map_or}
use mathlib.Core.Option.{none, some}
use lib.ListN.{get_elem?}
use Rattle.atomic_table.specs.Table.{Me, Step, step}
use Rattle.mt_machine.specs.declared.phase.Phase.{Phase}
use Rattle.mt_machine.specs.declared.phase.Phase.TheVariants.{Taken, Arrived, Restored, Arrived2}
use Rattle.mt_machine.specs.declared.go.Go.{Go}
use Rattle.mt_machine.specs.declared.go.Go.TheVariants.{Pending, Given, Cancelled}
use Rattle.mt_machine.specs.declared.event.Event.{Event}
use Rattle.mt_machine.specs.declared.event.Event.TheVariants.{Arrive, Leave, Pass, ArriveAgain, Release, SetNoFill, WriteBack}
use Rattle.mt_machine.specs.Memory.{place}
use Rattle.mt_machine.specs.System.{Processor}
use Rattle.mt_machine.specs.Machine.{Machine, MachineEvent, Steps, Goes, Cancels as CancelsUpdate, IsEnabled, common_era, due, next, own_step}
use Rattle.mt_machine.specs.Update.{Led}
use Rattle.mt_cpu.specs.Steps.{is_local}
use Rattle.mt_rendezvous.specs.declared.view.Added.{Added}
use Rattle.mt_rendezvous.specs.declared.view.Added.TheVariants.{Never, Once, Twice}
use Rattle.mt_rendezvous.specs.declared.view.Held.{Held}
use Rattle.mt_rendezvous.specs.declared.view.Start.{Start}
use Rattle.mt_rendezvous.specs.declared.view.View.{View}
use Rattle.mt_rendezvous.specs.Station.{Begins, order_of, broadcast, code, first_count, first_memory_word, held, joined, second_count, view, with_held}

abbrev pub Sat : Type 0
Sat = Me (Unit {0}) View

-- ---- one event, or none

-- the machine after an event, or after none
abbrev pub after_event : Machine → Option MachineEvent → Machine
after_event m None = m
after_event m (Some e) = next m e

-- the event is enabled, if there is one
abbrev pub CanFollow : Machine → Option MachineEvent → Type 0
CanFollow m None = Unit {0}
CanFollow m (Some e) = IsEnabled m e

-- a word, what a step finds there, and what it leaves
pub record WordStep : Type 0 where
  pub word : ℕ
  pub found : ℕ
  pub left : ℕ

abbrev pub word_step : ℕ → ℕ → ℕ → WordStep
word_step i found new = record { word = i; found = found; left = new }

-- A step of the pass that holds h, by which a word becomes another: the words and views stood for a machine that the broadcast leads to,
-- and the two counts held what had been added to them.
-- With the new word, and with w in place of h, they stand for the machine after this event, which was enabled, or for the same machine if there is none.
pub record PassSteps (t : Start) (change : WordStep) (e : Option MachineEvent) (h w : Held) : Type 0 where
  pub all : List Held
  pub go : Go
  pub words : List ℕ
  pub led : Led (broadcast t) (joined t all go words)
  pub at : get_elem? all h.number ≡ some h
  pub first : slice_index words 0 ≡ first_count all go
  pub second : slice_index words 1 ≡ second_count all
  pub word : slice_index words change.word ≡ change.found
  pub enabled : CanFollow (joined t all go words) e
  pub becomes : joined t (slice_set all h.number w) go (slice_set words change.word change.left) ≡ after_event (joined t all go words) e

-- the same of a step of the root, which leaves the processors and says `go`
pub record Decided (t : Start) (change : WordStep) (e : MachineEvent) (go : Go) : Type 0 where
  pub all : List Held
  pub words : List ℕ
  pub led : Led (broadcast t) (joined t all Pending words)
  pub first : slice_index words 0 ≡ first_count all Pending
  pub second : slice_index words 1 ≡ second_count all
  pub word : slice_index words change.word ≡ change.found
  pub enabled : IsEnabled (joined t all Pending words) e
  pub becomes : joined t all go (slice_set words change.word change.left) ≡ next (joined t all Pending words) e

-- ---- what a call's contract says of one processor

-- the event took place: a machine that the broadcast leads to has the processor as it was, the event is enabled there, and the next machine has it as it is
pub record Took (t : Start) (k : ℕ) (e : Event) (p q : Processor) : Type 0 where
  pub machine : Machine
  pub go : Go
  pub led : Led (broadcast t) machine
  pub order : machine.order ≡ Some (order_of t go)
  pub enabled : IsEnabled machine (Steps k e)
  pub before : slice_get machine.system.processors k ≡ Some p
  pub after : slice_get (next machine (Steps k e)).system.processors k ≡ Some q

-- a machine that the broadcast leads to has the processor so, and its update isn't over
pub record StandsInUpdate (t : Start) (go : Go) (k : ℕ) (p : Processor) : Type 0 where
  pub machine : Machine
  pub led : Led (broadcast t) machine
  pub order : machine.order ≡ Some (order_of t go)
  pub at : slice_get machine.system.processors k ≡ Some p

-- ---- the steps

-- what is so of the one processor of a view
abbrev pub Of : View → (Held → Type 0) → Type 0
Of v P = (h : Held) → v.held ≡ h ∷ [] → P h

-- what each step makes of the one processor of a pass
abbrev pub does : Start → Event → Held → Held
does t e h = held h.number (own_step t.goal e h.cpu) h.added

abbrev pub arrive : Start → Held → Held
arrive t h = held h.number (own_step t.goal Arrive h.cpu) Once

-- the cancel came first
abbrev pub late : Held → Held
late h = held h.number h.cpu Once

abbrev pub arrive_again : Start → Held → Held
arrive_again t h = held h.number (own_step t.goal ArriveAgain h.cpu) Twice

-- the event that is due for a processor between the barriers, which looks at nothing else
abbrev pub own_event : Start → Processor → Event
own_event t p = option_map_or (λ e. e) (due (order_of t Given) [] p p.phase) SetNoFill

abbrev pub work : Start → Held → Held
work t h = does t (own_event t h.cpu) h

-- the word after an addition, and the word that a load leaves
abbrev pub sum_word : Step (Unit {0}) → ℕ → ℕ
sum_word st found = (found + st.first) % 2 ^ 64

-- each processor of the view becomes what this makes of it
abbrev pub Turned : Sat → Sat → (Held → Held) → Type 0
Turned me new f = new.0 ≡ with_held me.0 (map f me.0.held)

-- the step is this event of the view's one processor, which becomes what f makes of it
abbrev pub IsEvent : View → WordStep → Event → (Held → Held) → Type 0
IsEvent v change e f = Of v (λ h. PassSteps v.start change (Some (Steps h.number e)) h (f h))

-- or none
abbrev pub IsNoEvent : View → WordStep → (Held → Held) → Type 0
IsNoEvent v change f = Of v (λ h. PassSteps v.start change None h (f h))

-- an addition of a pass to word 0: Arrive, or no event where the word held the cancel before. It tells besides that the processor is as it was gathered
abbrev pub Arrives : Step (Unit {0}) → Sat → ℕ → Sat → Type 0
Arrives st me found new =
    (new.1 ≡ me.1)
    × Begins me.0.start
    × Of me.0 (λ h. slice_get me.0.start.cpus h.number ≡ Some h.cpu)
    × (found < 4294967296 → Turned me new (arrive me.0.start) × IsEvent me.0 (word_step st.word found (sum_word st found)) Arrive (arrive me.0.start))
    × (4294967296 ≤ found → Turned me new late × IsNoEvent me.0 (word_step st.word found (sum_word st found)) late)

-- it has arrived, and stands then with the go given
abbrev pub MayPass : Start → Held → Type 0
MayPass t h = (h.cpu.phase ≡ Arrived) × StandsInUpdate t Given h.number (does t Pass h).cpu

-- a load of word 0: Pass where all have arrived and go is given, Leave where it shows the cancel, else no event
abbrev pub Passes : Step (Unit {0}) → Sat → ℕ → Sat → Type 0
Passes st me found new =
    (new.1 ≡ me.1)
    × (found ≡ length me.0.start.cpus + 1 → Turned me new (does me.0.start Pass) × IsEvent me.0 (word_step st.word found found) Pass (does me.0.start Pass) × Of me.0 (MayPass me.0.start))
    × (4294967296 ≤ found → Turned me new (does me.0.start Leave) × IsEvent me.0 (word_step st.word found found) Leave (does me.0.start Leave) × Of me.0 (λ h. StandsInUpdate me.0.start Cancelled h.number h.cpu))
    × (found < 4294967296 → found ≢ length me.0.start.cpus + 1 → (new.0 ≡ me.0) × IsNoEvent me.0 (word_step st.word found found) (λ h. h))

-- a store of the own phase word, or of a word of memory: the event that is due
abbrev pub Works : Step (Unit {0}) → Sat → ℕ → Sat → Type 0
Works st me found new =
    (new.1 ≡ me.1)
    × Turned me new (work me.0.start)
    × Of me.0 (λ h. (was : ℕ) × PassSteps me.0.start (word_step st.word was st.first) (Some (Steps h.number (own_event me.0.start h.cpu))) h (work me.0.start h))
    × Of me.0 (λ h. StandsInUpdate me.0.start Given h.number (work me.0.start h).cpu)

-- an addition to word 1: ArriveAgain
abbrev pub ArrivesAgain : Step (Unit {0}) → Sat → ℕ → Sat → Type 0
ArrivesAgain st me found new =
    (new.1 ≡ me.1)
    × Turned me new (arrive_again me.0.start)
    × IsEvent me.0 (word_step st.word found (sum_word st found)) ArriveAgain (arrive_again me.0.start)

abbrev pub with_shown : View → ℕ → View
with_shown v n = view v.root v.held v.go (Some n) v

-- and the view keeps what was found
abbrev pub TurnedShown : Sat → Sat → (Held → Held) → ℕ → Type 0
TurnedShown me new f n = new.0 ≡ with_shown (with_held me.0 (map f me.0.held)) n

-- its era is that of the start
abbrev pub HasFirstEra : Start → Held → Type 0
HasFirstEra t h = h.cpu.era ≡ common_era t.cpus

-- a load of word 1, which the view keeps: Release where all have arrived again, else no event
abbrev pub Releases : Step (Unit {0}) → Sat → ℕ → Sat → Type 0
Releases st me found new =
    (new.1 ≡ me.1)
    × (found < 65536)
    × (found ≡ length me.0.start.cpus → TurnedShown me new (does me.0.start Release) found × IsEvent me.0 (word_step st.word found found) Release (does me.0.start Release) × Of me.0 (HasFirstEra me.0.start))
    × (found ≢ length me.0.start.cpus → (new.0 ≡ with_shown me.0 found) × IsNoEvent me.0 (word_step st.word found found) (λ h. h))

abbrev pub with_go : View → Go → View
with_go v go = view v.root v.held go v.shown v

-- the root's additions to word 0: Go and Cancel
abbrev pub Gives : Step (Unit {0}) → Sat → ℕ → Sat → Type 0
Gives st me found new = (new.1 ≡ me.1) × (new.0 ≡ with_go me.0 Given) × Decided me.0.start (word_step st.word found (sum_word st found)) Goes Given

abbrev pub Cancels : Step (Unit {0}) → Sat → ℕ → Sat → Type 0
Cancels st me found new = (new.1 ≡ me.1) × (new.0 ≡ with_go me.0 Cancelled) × Decided me.0.start (word_step st.word found (sum_word st found)) CancelsUpdate Cancelled

-- the word of memory that an event writes
abbrev pub written : Event → Option (ℕ × ℕ)
written (WriteBack address value) = Some (address, value)
written other = None

-- the word that a store goes to, and its value: of the word of memory that the event writes back, or else of the own phase
abbrev pub GoesTo : Start → Held → Option (ℕ × ℕ) → Step (Unit {0}) → Type 0
GoesTo t h None st = (st.word ≡ h.number + 2) × (st.first ≡ code (work t h).cpu.phase)
GoesTo t h (Some back) st = (st.first ≡ back.1) × (j : ℕ) × (place t.ram back.0 ≡ Some j) × (st.word ≡ first_memory_word t + j)

-- ---- every step

abbrev pub IsWaiting : Phase → Type 0
IsWaiting p = (p ≡ Taken) ⊎ (p ≡ Arrived)

-- the root's seat, before its go and its cancel
abbrev pub IsUndecided : Sat → Type 0
IsUndecided me = (me.0.root ≡ true) × (me.0.go ≡ Pending)

-- the seat of a pass, which has added so to the two counts, and whose processor is in such a phase
pub record IsPass (me : Sat) (added : Added) (P : Phase → Type 0) : Type 0 where
  pub number : ℕ
  pub cpu : Processor
  pub holds : me.0.held ≡ held number cpu added ∷ []
  pub phase : P cpu.phase

-- on the first count, by the operand
abbrev pub TellsFirst : ℕ → Step (Unit {0}) → Sat → ℕ → Sat → Type 0
TellsFirst zero st me found new = IsPass me Once IsWaiting × Passes st me found new
TellsFirst (suc zero) st me found new =
    (me.0.root ≡ true → IsUndecided me × Gives st me found new)
    × (me.0.root ≡ false → IsPass me Never (λ p. p ≡ Taken) × Arrives st me found new)
TellsFirst (suc (suc more)) st me found new = (st.first ≡ 4294967296) × IsUndecided me × Cancels st me found new

-- on the second
abbrev pub TellsSecond : ℕ → Step (Unit {0}) → Sat → ℕ → Sat → Type 0
TellsSecond zero st me found new = IsPass me Twice (λ p. p ≡ Arrived2) × Releases st me found new
TellsSecond (suc zero) st me found new = IsPass me Once (λ p. p ≡ Restored) × ArrivesAgain st me found new
TellsSecond (suc (suc more)) st me found new = ⊥

-- The one play of all steps, by word and operand: a load of a count has 0 there, an addition what it adds, and a store of another word what it stores.
-- The seat has to be one whose turn it is. What stands in no line is no step of this crate.
abbrev pub TellsAt : ℕ → Step (Unit {0}) → Sat → ℕ → Sat → Type 0
TellsAt zero st = TellsFirst st.first st
TellsAt (suc zero) st = TellsSecond st.first st
TellsAt (suc (suc i)) st = λ me found new.
    (p : IsPass me Once (λ p. IsTrue (is_local p))) × GoesTo me.0.start (held p.number p.cpu Once) (written (own_event me.0.start p.cpu)) st × Works st me found new

abbrev pub TellsSeatStep : Step (Unit {0}) → Sat → ℕ → Sat → Type 0
TellsSeatStep st = TellsAt st.word st

-- the seat becomes the other by a step of word i with this operand
abbrev pub Made : ℕ → ℕ → Sat → Sat → Type 0
Made i a me new = (found : ℕ) × TellsSeatStep (step 0 i a 0 none) me found new
