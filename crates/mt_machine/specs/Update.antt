-- A whole update, given outright, and what is settled and held after one (own). What it is to lead to is the state after the steps
-- of the manual's section "MTRR Considerations in MP Systems"; that it does is a law of mt_laws.
use Rattle.std.specs.Prelude.{◌≡◌, ℕ, zero, suc, ◌+◌, ◌*◌, ◌/◌, ◌%◌, ◌==◌, Bool, true, false, List, [], ◌∷◌, ◌++◌, map, if◌then◌else◌, slice_get, Option, None, Some}
use Rattle.std.specs.Option.{option_map_or, option_map}
use Rattle.std.specs.List.{fold, filter_map, All, Contains, count_by}
use Rattle.mt_kinds.specs.Sizes.{page_bytes}
use Rattle.mt_regs.specs.RegisterFile.{RegisterFile}
use Rattle.mt_cache.specs.declared.line.CacheLine.{CacheLine}
use Rattle.mt_cache.specs.Lines.{eight, is_dirty}
use Rattle.mt_machine.specs.declared.phase.Phase.TheVariants.{Running}
use Rattle.mt_machine.specs.declared.event.Event.TheVariants.{Take, Release}
use Rattle.mt_machine.specs.declared.op.Op.TheVariants.{Store}
use Rattle.mt_machine.specs.declared.done.Done.{Done}
use Rattle.mt_machine.specs.declared.done.Done.TheVariants.{Stored}
use Rattle.mt_machine.specs.Memory.{Window, word_at}
use Rattle.mt_machine.specs.System.{Processor, System, now}
use Rattle.mt_machine.specs.Bus.{drain}
use Rattle.mt_machine.specs.Access.{access, entry_of, physical}
use Rattle.mt_machine.specs.Machine.{Machine, MachineEvent, IsEnabled, Accesses, Calls, Goes, Cancels, Steps, next, run}

-- ---- settled and held

-- the file is the goal, and nothing that is held is of another era
pub record IsSettledOn (era : ℕ) (goal : RegisterFile) (p : Processor) : Type 0 where
  pub file : p.file ≡ goal
  pub lines : All (λ l. l.era ≡ era) p.lines
  pub buffers : All (λ l. l.era ≡ era) p.buffers
  pub entries : All (λ e. e.era ≡ era) p.entries

abbrev pub IsSettled : System → ℕ → RegisterFile → Type 0
IsSettled s era goal = All (IsSettledOn era goal) s.processors

abbrev pub is_stored : Done → Bool
is_stored (Stored t) = true
is_stored other = false

-- the physical address of an access, where its page has an entry or a mapping
abbrev pub physical_of : System → ℕ → ℕ → Option ℕ
physical_of s k address =
    option_map_or (λ p. option_map (λ e. physical e address) (entry_of p (address / page_bytes))) (slice_get s.processors k) None

-- the word that an event stores
abbrev pub stored_word : Machine → MachineEvent → Option ℕ
stored_word m (Accesses k (Store address value)) =
    if is_stored (access m.system k (Store address value)).answer then physical_of m.system k address else None
stored_word m other = None

abbrev pub stored_words : Machine → List MachineEvent → List ℕ
stored_words m [] = []
stored_words m (e ∷ es) = option_map_or (λ a. a ∷ stored_words (next m e) es) (stored_word m e) (stored_words (next m e) es)

-- after these events from r on, each word that none of them stored is in memory as it was in p
abbrev pub IsHeld : System → Machine → List MachineEvent → Type 0
IsHeld p r es =
    (address : ℕ) → address % 8 ≡ 0 → (Contains (stored_words r es) address → ⊥)
    → word_at (run r es).system.memory address ≡ now p address

-- ---- kinds of events

abbrev pub is_release : MachineEvent → Bool
is_release (Steps k Release) = true
is_release other = false

abbrev pub is_call : MachineEvent → Bool
is_call (Calls goal) = true
is_call other = false

abbrev pub is_go : MachineEvent → Bool
is_go Goes = true
is_go other = false

abbrev pub is_cancel : MachineEvent → Bool
is_cancel Cancels = true
is_cancel other = false

abbrev pub is_step_of : ℕ → MachineEvent → Bool
is_step_of k (Steps j e) = j == k
is_step_of k other = false

-- all but accesses, controls and calls
abbrev pub is_led : MachineEvent → Bool
is_led (Steps k e) = true
is_led Goes = true
is_led Cancels = true
is_led other = false

-- reached by go, cancel and steps alone
pub data Led : Machine → Machine → Type 0 where
  led_start : {s : Machine} → Led s s
  led_on : {s t : Machine} → (e : MachineEvent) → Led s t → IsEnabled t e → is_led e ≡ true → Led s (next t e)

abbrev pub taker : MachineEvent → Option ℕ
taker (Steps k Take) = Some k
taker other = None

-- the processors that take, in the order of their takes
abbrev pub takes_of : List MachineEvent → List ℕ
takes_of es = filter_map taker es

-- ---- a whole update

abbrev pub addresses_from : ℕ → ℕ → List ℕ
addresses_from base zero = []
addresses_from base (suc count) = base ∷ addresses_from (base + 8) count

-- of all words, by their places
abbrev pub addresses : List Window → List ℕ
addresses [] = []
addresses (w ∷ ws) = addresses_from w.base (8 * w.lines) ++ addresses ws

-- the buffers of these processors are emptied, in this order
abbrev pub emptied : System → List ℕ → System
emptied s takes = fold (λ t k. drain k t) s takes

abbrev pub settled_processor : RegisterFile → Processor → Processor
settled_processor goal p = record {
  file = goal;
  cache_disabled = false;
  page_global = p.page_global;
  remembered_global = false;
  mappings = p.mappings;
  lines = [];
  buffers = [];
  entries = [];
  phase = Running;
  era = p.era + 1;
  self_snoop = p.self_snoop;
}

abbrev pub updated : System → List ℕ → RegisterFile → Machine
updated s takes goal = record {
  system = record {
    processors = map (settled_processor goal) s.processors;
    memory = record { windows = s.memory.windows; words = map (now (emptied s takes)) (addresses s.memory.windows) };
  };
  order = None;
}

abbrev pub dirty_count : List CacheLine → ℕ
dirty_count [] = 0
dirty_count (l ∷ ls) = count_by (is_dirty l) eight + dirty_count ls
