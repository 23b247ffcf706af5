-- A whole update, and jobs around one, in the own systems of processors that each name pages of their own (own).
use Rattle.std.specs.Prelude.{◌≡◌, ◌≢◌, ℕ, Bool, not, List, length, slice_get, Some}
use Rattle.std.specs.List.{list_any}
use Rattle.mt_regs.specs.RegisterFile.{RegisterFile}
use Rattle.mt_machine.specs.declared.event.Event.{Event}
use Rattle.mt_machine.specs.declared.op.Op.{Op}
use Rattle.mt_machine.specs.Machine.{step}
use Rattle.mt_machine.specs.Memory.{IsMemory}
use Rattle.mt_machine.specs.System.{Processor, System}
use Rattle.mt_machine.specs.Update.{updated}
use Rattle.mt_core.specs.Rounds.{ascending}
use Rattle.mt_private.specs.OneByOne.{Ran, one_by_one, ran}
use Rattle.mt_private.specs.Own.{AreApart, Becomes, Commute, IsOwner, RunsAlone, WritesOn, own_memory, own_system, pages_of}
use Rattle.mt_private.specs.Pages.{IsPrivate, names}
use Rattle.mt_private.specs.YardCalls.{updated_own}

-- the pages that none of these names
abbrev pub named_by_none : List Processor → ℕ → Bool
named_by_none ps page = not (list_any (names page) ps)

-- for each processor it is the whole update of its own system, and the words of pages that none names stay
pub record UpdatesAlone (s : System) (goal : RegisterFile) : Type 0 where
  pub own : (k : ℕ) (p : Processor) → slice_get s.processors k ≡ Some p
      → own_system (pages_of p) k (updated s (ascending (length s.processors)) goal).system ≡ updated_own goal (own_system (pages_of p) k s)
  pub rest : own_memory (named_by_none s.processors) (updated s (ascending (length s.processors)) goal).system.memory ≡ own_memory (named_by_none s.processors) s.memory

-- the accesses after the whole update, in an own system
abbrev pub own_job : RegisterFile → List Op → List Op → System → Ran
own_job goal before after own = ran 0 after (updated_own goal (ran 0 before own).after)

-- each job is answered and leaves what it does in the own system, and the words of pages that none names stay
pub record JobsAlone (s : System) (goal : RegisterFile) (before after : List (List Op)) : Type 0 where
  pub first : (k : ℕ) (p : Processor) (ops : List Op) → slice_get s.processors k ≡ Some p → slice_get before k ≡ Some ops
      → slice_get (one_by_one s goal before after).before k ≡ Some (ran 0 ops (own_system (pages_of p) k s)).answers
  pub last : (k : ℕ) (p : Processor) (ops bs : List Op) → slice_get s.processors k ≡ Some p → slice_get before k ≡ Some ops → slice_get after k ≡ Some bs
      → slice_get (one_by_one s goal before after).after k ≡ Some (own_job goal ops bs (own_system (pages_of p) k s)).answers
  pub own : (k : ℕ) (p : Processor) (ops bs : List Op) → slice_get s.processors k ≡ Some p → slice_get before k ≡ Some ops → slice_get after k ≡ Some bs
      → own_system (pages_of p) k (one_by_one s goal before after).left.system ≡ (own_job goal ops bs (own_system (pages_of p) k s)).after
  pub rest : own_memory (named_by_none s.processors) (one_by_one s goal before after).left.system.memory ≡ own_memory (named_by_none s.processors) s.memory

-- ---- laws

-- of a processor that owns these pages
abbrev pub AccessesRunAlone : Type 0
AccessesRunAlone = (pages : ℕ → Bool) (k : ℕ) (ops : List Op) (s : System) → IsMemory s.memory → IsOwner pages k s → RunsAlone pages k ops s

abbrev pub StepsRunAlone : Type 0
StepsRunAlone =
    (pages : ℕ → Bool) (k : ℕ) (goal : RegisterFile) (e : Event) (s : System) → IsMemory s.memory → IsOwner pages k s → WritesOn pages e
    → Becomes pages k s (step goal e k s) (step goal e 0 (own_system pages k s))

-- of two
abbrev pub AccessesCommute : Type 0
AccessesCommute =
    (pages others : ℕ → Bool) (k j : ℕ) (s : System) → IsMemory s.memory → IsOwner pages k s → IsOwner others j s → k ≢ j → AreApart pages others
    → (ops bs : List Op) → Commute k j ops bs s

abbrev pub UpdatesRunAlone : Type 0
UpdatesRunAlone = (s : System) (goal : RegisterFile) → IsMemory s.memory → IsPrivate s → UpdatesAlone s goal

abbrev pub JobsRunAlone : Type 0
JobsRunAlone =
    (s : System) (goal : RegisterFile) (before after : List (List Op)) → IsMemory s.memory → IsPrivate s → length before ≡ length s.processors → length after ≡ length s.processors
    → JobsAlone s goal before after
