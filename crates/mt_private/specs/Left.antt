-- The system that a yard leaves (own).
use Rattle.std.specs.Prelude.{◌≡◌, ℕ, ◌<◌, ◌==◌, true, List, [], ◌∷◌, ◌++◌, if◌then◌else◌, length, slice_get, Option, None, Some}
use Rattle.mt_machine.specs.declared.go.Go.TheVariants.{Cancelled}
use Rattle.mt_machine.specs.Memory.{Memory}
use Rattle.mt_machine.specs.System.{Processor, System}
use Rattle.mt_rendezvous.specs.declared.view.Start.{Start}
use Rattle.mt_private.specs.declared.joint.Joint.{Joint}
use Rattle.mt_private.specs.declared.joint.Joint.TheVariants.{Less, Over}
use Rattle.mt_private.specs.declared.view.Resident.{Resident}
use Rattle.mt_private.specs.declared.view.YardView.{YardView}
use Rattle.mt_private.specs.Own.{own_system}
use Rattle.mt_private.specs.Residents.{Yard, pages_at, system_of, scene}
use Rattle.mt_private.specs.YardCalls.{KeepsOwn}
use Rattle.mt_private.specs.YardRule.{AreAt}

-- ---- words of own systems, which are 0 outside their pages

-- 0 in place of a word where the own one isn't 0
abbrev pub less : ℕ → ℕ → ℕ
less v w = if v == 0 then w else 0

-- the own word where it isn't 0
abbrev pub over : ℕ → ℕ → ℕ
over v w = if v == 0 then w else v

abbrev pub word_beside : Joint → ℕ → ℕ → ℕ
word_beside Less = less
word_beside Over = over

-- so for each of them
abbrev pub word_by_word : (ℕ → ℕ → ℕ) → List ℕ → List ℕ → List ℕ
word_by_word f [] ws = ws
word_by_word f (v ∷ vs) [] = []
word_by_word f (v ∷ vs) (w ∷ ws) = f v w ∷ word_by_word f vs ws

-- ---- own systems put together

abbrev pub processors_in : List (Option System) → List Processor
processors_in [] = []
processors_in (None ∷ os) = processors_in os
processors_in (Some o ∷ os) = o.processors ++ processors_in os

abbrev pub with_words_of : Memory → Option System → Memory
with_words_of m None = m
with_words_of m (Some o) = record m { words = word_by_word over o.memory.words m.words }

-- one processor, and as many words
abbrev pub IsOnePart : Memory → Option System → Type 0
IsOnePart m x = (o : System) × (x ≡ Some o) × (length o.processors ≡ 1) × (length o.memory.words ≡ length m.words)

abbrev pub AreParts : Memory → List (Option System) → Type 0
AreParts m xs = (k : ℕ) (x : Option System) → slice_get xs k ≡ Some x → IsOnePart m x

-- ---- the end of a yard

-- each guest came back, and what is kept by its number is of the resident that the host has
pub record AreBack (count : ℕ) (v : YardView) (owns : List (Option System)) : Type 0 where
  pub size : length owns ≡ count
  pub each : (k : ℕ) → k < count → (o : System) × (slice_get owns k ≡ Some (Some o))
  pub keeps : KeepsOwn v owns

-- where a yard ends: residents and what the host said stand for this system, those that the host has are among them, and a pass that it took back was shown the cancel only where it gave it
pub record YardEnds (t : Start) (v : YardView) (s : System) : Type 0 where
  pub all : List Resident
  pub first : ℕ
  pub second : ℕ
  pub yard : Yard t (scene all v.go s) first second
  pub same : AreAt all v.held
  pub shown : v.cancel ≡ true → v.go ≡ Cancelled

-- each own system that came back is as it was gathered
abbrev pub AreAsGathered : Start → List (Option System) → Type 0
AreAsGathered t owns = (k : ℕ) (o : System) → slice_get owns k ≡ Some (Some o) → o ≡ own_system (pages_at t k) k (system_of t)

-- they are those of this system, by their numbers
abbrev pub AreOwnsOf : Start → List (Option System) → System → Type 0
AreOwnsOf t owns s = (k : ℕ) (o : System) → slice_get owns k ≡ Some (Some o) → own_system (pages_at t k) k s ≡ o
