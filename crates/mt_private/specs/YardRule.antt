-- The rule of a yard's table: what its words and the views of its seats stand for (own).
use Rattle.std.specs.Prelude.{◌≡◌, ℕ, ◌+◌, ◌<◌, ◌||◌, Bool, true, false, List, [], ◌∷◌, ◌++◌, Option, None, length, map, slice_index}
use mathlib.Core.Option.{some}
use lib.ListN.{get_elem?}
use Rattle.atomic_table.specs.Table.{State}
use Rattle.mt_machine.specs.declared.go.Go.{Go}
use Rattle.mt_machine.specs.declared.go.Go.TheVariants.{Cancelled, Pending}
use Rattle.mt_machine.specs.declared.op.Op.{Op}
use Rattle.mt_machine.specs.System.{Processor, System}
use Rattle.mt_machine.specs.Machine.{Machine}
use Rattle.mt_rendezvous.specs.declared.view.Key.{Key}
use Rattle.mt_rendezvous.specs.declared.view.Start.{Start}
use Rattle.mt_rendezvous.specs.declared.view.View.{View}
use Rattle.mt_rendezvous.specs.Station.{IsHeld, Sits, held, nothing, start_of, seating}
use Rattle.mt_private.specs.declared.view.Resident.{Resident}
use Rattle.mt_private.specs.declared.view.YardView.{YardView}
use Rattle.mt_private.specs.Own.{own_memory}
use Rattle.mt_rendezvous.specs.declared.view.Added.TheVariants.{Never}
use Rattle.mt_private.specs.Residents.{Yard, held_of, pages_at, yard_machine, scene}

-- ---- views

-- what the view has of a rendezvous
abbrev pub as_view : YardView → View
as_view v = record { root = v.root; held = map held_of v.held; go = v.go; shown = v.shown; start = v.start }

-- the view of the pass with this resident
abbrev pub with_one : YardView → Resident → Option ℕ → Bool → YardView
with_one v w shown cancel = record v { held = w ∷ []; shown = shown; cancel = cancel }

-- the root's, where it has said so
abbrev pub with_decision : YardView → Go → YardView
with_decision v go = record v { go = go }

-- processors from number k on, each with its own words, as they are gathered
abbrev pub residents : Start → ℕ → List Processor → List Resident
residents t k [] = []
residents t k (c ∷ cs) = record { held = held k c Never; ram = own_memory (pages_at t k) t.ram; done = []; stored = 0 } ∷ residents t (k + 1) cs

abbrev pub first_yard_view : Key → YardView
first_yard_view key = record { root = true; held = residents (start_of key) 0 key.cpus.value.items; go = Pending; shown = None; cancel = false; start = start_of key }

abbrev pub one_of : List Resident → List Resident
one_of [] = []
one_of (y ∷ ys) = y ∷ []

abbrev pub rest_of : List Resident → List Resident
rest_of [] = []
rest_of (y ∷ ys) = ys

-- the root gives its first resident away, and the new pass has it
abbrev pub yard_left : YardView → YardView
yard_left v = record v { held = rest_of v.held }

abbrev pub yard_right : YardView → YardView
yard_right v = record { root = false; held = one_of v.held; go = Pending; shown = None; cancel = false; start = v.start }

-- it takes one back, and knows then whether the pass was shown the cancel; the pass is spent
abbrev pub yard_both : YardView → YardView → YardView
yard_both v w = record v { held = w.held ++ v.held; cancel = v.cancel || w.cancel }

abbrev pub yard_spent : YardView
yard_spent = record { root = false; held = []; go = Pending; shown = None; cancel = false; start = nothing }

-- ---- the rule

-- these residents are as they stand
abbrev pub AreAt : List Resident → List Resident → Type 0
AreAt all ys = (i : ℕ) (y : Resident) → get_elem? ys i ≡ some y → get_elem? all y.held.number ≡ some y

-- each event word is as the resident's pass last stored it
abbrev pub HoldsStored : List ℕ → List Resident → Type 0
HoldsStored words all = (k : ℕ) (y : Resident) → get_elem? all k ≡ some y → slice_index words (k + 2) ≡ y.stored

-- the words and the views stand for one machine, which the state after the call reaches; seats are as at a rendezvous
pub record MeetsYard (key : Key) (s : State Op YardView) : Type 0 where
  pub all : List Resident
  pub go : Go
  pub owner : ℕ → ℕ
  pub system : System
  pub yard : Yard (start_of key) (scene all go system) (slice_index s.words 0) (slice_index s.words 1)
  pub wide : length s.words ≡ length all + 2
  pub stored : HoldsStored s.words all
  pub present : (k : ℕ) → k < length all → IsHeld (map as_view s.views) k
  pub sits : (j : ℕ) (v : View) → get_elem? (map as_view s.views) j ≡ some v → Sits (start_of key) (seating (map held_of all) go owner) j v
  pub same : (j : ℕ) (v : YardView) → get_elem? s.views j ≡ some v → AreAt all v.held
  pub cancels : (j : ℕ) (v : YardView) → get_elem? s.views j ≡ some v → v.cancel ≡ true → go ≡ Cancelled

-- the machine that they stand for
abbrev pub its_machine : (key : Key) (s : State Op YardView) → MeetsYard key s → Machine
its_machine key s m = yard_machine (start_of key) m.go m.system
