-- A processor alone with the words of some pages, and what it is to own these pages (own).
use Rattle.std.specs.Prelude.{◌≡◌, ◌≢◌, ℕ, ◌/◌, Bool, true, false, List, [], ◌∷◌, if◌then◌else◌, slice_get, slice_set, Some}
use Rattle.std.specs.Option.{option_map_or}
use Rattle.mt_kinds.specs.Sizes.{page_bytes}
use Rattle.mt_machine.specs.declared.op.Op.{Op}
use Rattle.mt_machine.specs.declared.event.Event.{Event}
use Rattle.mt_machine.specs.declared.event.Event.TheVariants.{WriteBack}
use Rattle.mt_machine.specs.Memory.{Memory}
use Rattle.mt_machine.specs.System.{Processor, System}
use Rattle.mt_machine.specs.Update.{addresses}
use Rattle.mt_private.specs.OneByOne.{ran}
use Rattle.mt_private.specs.Pages.{names}

-- pages are given by a test of their numbers; the words are those at the addresses of the first list

-- the words in these pages, and 0 in place of the others
abbrev pub words_on : (ℕ → Bool) → List ℕ → List ℕ → List ℕ
words_on pages [] ws = []
words_on pages (a ∷ xs) [] = []
words_on pages (a ∷ xs) (w ∷ ws) = (if pages (a / page_bytes) then w else 0) ∷ words_on pages xs ws

-- the last list with the words in these pages taken from the one before it
abbrev pub words_from : (ℕ → Bool) → List ℕ → List ℕ → List ℕ → List ℕ
words_from pages [] vs ws = ws
words_from pages (a ∷ xs) [] ws = ws
words_from pages (a ∷ xs) (v ∷ vs) [] = []
words_from pages (a ∷ xs) (v ∷ vs) (w ∷ ws) = (if pages (a / page_bytes) then v else w) ∷ words_from pages xs vs ws

abbrev pub own_memory : (ℕ → Bool) → Memory → Memory
own_memory pages m = record m { words = words_on pages (addresses m.windows) m.words }

-- processor k alone, with the words in these pages
abbrev pub own_system : (ℕ → Bool) → ℕ → System → System
own_system pages k s = record {
  processors = option_map_or (λ p. p ∷ []) (slice_get s.processors k) [];
  memory = own_memory pages s.memory;
}

abbrev pub put_first : ℕ → List Processor → List Processor → List Processor
put_first k [] ps = ps
put_first k (q ∷ qs) ps = slice_set ps k q

-- the system with processor k, and the words in these pages, as they are in its own one
abbrev pub with_own : (ℕ → Bool) → ℕ → System → System → System
with_own pages k own s = record {
  processors = put_first k own.processors s.processors;
  memory = record s.memory { words = words_from pages (addresses s.memory.windows) own.memory.words s.memory.words };
}

-- processor k is there, names these pages alone, and no other processor names any of them
pub record IsOwner (pages : ℕ → Bool) (k : ℕ) (s : System) : Type 0 where
  pub processor : Processor
  pub at : slice_get s.processors k ≡ Some processor
  pub own : (page : ℕ) → names page processor ≡ true → pages page ≡ true
  pub others : (j : ℕ) (q : Processor) → j ≢ k → slice_get s.processors j ≡ Some q → (page : ℕ) → pages page ≡ true → names page q ≡ false

-- what came of a system by what processor k did: its own system is this one now, all else is as it was, and it owns the pages still
pub record Becomes (pages : ℕ → Bool) (k : ℕ) (s t alone : System) : Type 0 where
  pub own : own_system pages k t ≡ alone
  pub whole : t ≡ with_own pages k alone s
  pub owner : IsOwner pages k t

-- the pages that a processor names
abbrev pub pages_of : Processor → ℕ → Bool
pages_of p page = names page p

-- accesses of a processor that owns these pages are those of its own system
pub record RunsAlone (pages : ℕ → Bool) (k : ℕ) (ops : List Op) (s : System) : Type 0 where
  pub answers : (ran k ops s).answers ≡ (ran 0 ops (own_system pages k s)).answers
  pub after : Becomes pages k s (ran k ops s).after (ran 0 ops (own_system pages k s)).after

-- no page is of both
abbrev pub AreApart : (ℕ → Bool) → (ℕ → Bool) → Type 0
AreApart pages others = (page : ℕ) → pages page ≡ true → others page ≡ false

-- accesses of processors k and j: each is answered as if the other's weren't made, and either order leads to one state
pub record Commute (k j : ℕ) (ops others : List Op) (s : System) : Type 0 where
  pub first : (ran k ops (ran j others s).after).answers ≡ (ran k ops s).answers
  pub second : (ran j others (ran k ops s).after).answers ≡ (ran j others s).answers
  pub after : (ran j others (ran k ops s).after).after ≡ (ran k ops (ran j others s).after).after

-- an event writes memory in these pages alone
abbrev pub WritesOn : (ℕ → Bool) → Event → Type 0
WritesOn pages (WriteBack address value) = pages (address / page_bytes) ≡ true
WritesOn pages other = Unit {0}
