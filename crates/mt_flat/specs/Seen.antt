-- The flat machine beside a machine with caches.
use Rattle.std.specs.Prelude.{◌≡◌, ℕ, ◌%◌, ◌≤◌, List, [], ◌∷◌, length, map, if◌then◌else◌, slice_index, Option, None, Some, Bool}
use Rattle.std.specs.Option.{option_map_or, option_map}
use Rattle.std.specs.List.{All, Contains, fold}
use Rattle.mt_kinds.specs.declared.mem_type.MemType.{MemType}
use Rattle.mt_regs.specs.RegisterFile.{RegisterFile}
use Rattle.mt_cache.specs.declared.line.CacheLine.{CacheLine}
use Rattle.mt_cache.specs.Lines.{is_dirty}
use Rattle.mt_machine.specs.declared.op.Op.{Op}
use Rattle.mt_machine.specs.declared.op.Op.TheVariants.{Load, Store, Fence}
use Rattle.mt_machine.specs.declared.done.Done.{Done}
use Rattle.mt_machine.specs.declared.done.Done.TheVariants.{Value, Stored, Fenced}
use Rattle.mt_machine.specs.declared.control.Control.{Control}
use Rattle.mt_machine.specs.declared.control.Control.TheVariants.{Map}
use Rattle.mt_machine.specs.declared.ruled.Ruled.{Ruled}
use Rattle.mt_machine.specs.declared.ruled.Ruled.TheVariants.{Okay}
use Rattle.mt_machine.specs.declared.event.Event.TheVariants.{Take}
use Rattle.mt_machine.specs.Memory.{Window, word_at}
use Rattle.mt_machine.specs.System.{System, IsSound, buffers_of, now}
use Rattle.mt_machine.specs.Access.{access}
use Rattle.mt_machine.specs.Control.{control}
use Rattle.mt_machine.specs.Machine.{Machine, MachineEvent, Order, Accesses, Calls, Controls, Steps, IsEnabled, AreEnabled, next, run}
use Rattle.mt_machine.specs.Start.{IsQuiet, IsStart, start_with}
use Rattle.mt_machine.specs.Update.{physical_of, stored_words, updated}
use Rattle.mt_laws.specs.Counts.{IsEachOnce}
use Rattle.mt_laws.specs.Settled.{IsFirstRelease}
use Rattle.mt_flat.specs.Flat.{PendingLine, Flat, FlatEvent, Loads, Stores, Empties, empty_all, flat_start, flat_next, flat_answer}

-- ---- what the flat machine is given

-- an access that was answered with Value, Stored or Fenced
abbrev pub given_access : System → ℕ → Op → Done → Option FlatEvent
given_access s k (Load address) (Value value kind) = option_map (Loads k kind) (physical_of s k address)
given_access s k (Store address value) (Stored kind) = option_map (λ word. Stores k kind word value) (physical_of s k address)
given_access s k Fence Fenced = Some (Empties k)
given_access s k op other = None

-- each control instruction but Map empties
abbrev pub emptied_by : ℕ → Control → Option FlatEvent
emptied_by k (Map p) = None
emptied_by k other = Some (Empties k)

-- a control instruction that was answered Okay
abbrev pub given_control : ℕ → Control → Ruled → Option FlatEvent
given_control k c Okay = emptied_by k c
given_control k c other = None

-- Take empties too
abbrev pub given : Machine → MachineEvent → Option FlatEvent
given m (Accesses k op) = given_access m.system k op (access m.system k op).answer
given m (Controls k c) = given_control k c (control m.system k c).answer
given m (Steps k Take) = Some (Empties k)
given m other = None

abbrev pub flat_after : Machine → MachineEvent → Flat → Flat
flat_after m e f = option_map_or (flat_next f) (given m e) f

abbrev pub flat_run : Machine → List MachineEvent → Flat → Flat
flat_run m [] f = f
flat_run m (e ∷ es) f = flat_run (next m e) es (flat_after m e f)

-- ---- the relation

-- the written words of a buffer
abbrev pub written_of : CacheLine → PendingLine
written_of b = record { number = b.number; written = λ word. if is_dirty b word then Some (slice_index b.words word) else None }

-- each word's value is what it is now, and the pending lines are the buffers with their written words
pub record IsFlatOf (s : System) (f : Flat) : Type 0 where
  pub values : (address : ℕ) → address % 8 ≡ 0 → now s address ≡ f.values address
  pub pending : (k : ℕ) → f.pending k ≡ map written_of (buffers_of s k)

-- ---- laws

-- the flat machine is at its start beside a machine at its start
abbrev pub StartIsFlat : Type 0
StartIsFlat = (flags : List Bool) (files : List RegisterFile) (ws : List Window) → IsFlatOf (start_with flags files ws).system flat_start

-- and beside each system without buffers stands one with its words and nothing pending
abbrev pub NoBuffersIsFlat : Type 0
NoBuffersIsFlat =
    (s : System) → All (λ p. p.buffers ≡ []) s.processors → IsFlatOf s (record { values = now s; pending = λ k. [] })

-- each event keeps the relation
abbrev pub EventsKeepFlat : Type 0
EventsKeepFlat =
    (m : Machine) (e : MachineEvent) (f : Flat) → IsSound m.system → IsFlatOf m.system f → IsEnabled m e → IsFlatOf (next m e).system (flat_after m e f)

abbrev pub RunsKeepFlat : Type 0
RunsKeepFlat =
    (m : Machine) (es : List MachineEvent) (f : Flat) → IsSound m.system → IsFlatOf m.system f → AreEnabled m es → IsFlatOf (run m es).system (flat_run m es f)

-- what a load of processor k is answered is what the flat machine answers it
pub record IsFlatAnswer (m : Machine) (f : Flat) (k address : ℕ) (seen : ℕ × MemType) : Type 0 where
  pub word : ℕ
  pub physical : physical_of m.system k address ≡ Some word
  pub answer : seen.0 ≡ flat_answer f k seen.1 word

abbrev pub AnswersAreFlat : Type 0
AnswersAreFlat =
    (m : Machine) (f : Flat) (k address value : ℕ) (kind : MemType) → IsSound m.system → IsFlatOf m.system f
    → (access m.system k (Load address)).answer ≡ Value value kind → IsFlatAnswer m f k address (value, kind)

-- caches are never seen: after any list of enabled events each load is answered as by the flat machine that was given the same
abbrev pub CachesAreNeverSeen : Type 0
CachesAreNeverSeen =
    (s : Machine) (f : Flat) (es : List MachineEvent) (k address value : ℕ) (kind : MemType) → IsSound s.system → IsFlatOf s.system f → AreEnabled s es
    → (access (run s es).system k (Load address)).answer ≡ Value value kind → IsFlatAnswer (run s es) (flat_run s es f) k address (value, kind)

abbrev pub AreFew : List PendingLine → Type 0
AreFew ps = length ps ≤ 4

-- beside a sound system, over enabled events, no processor has more than four pending lines
abbrev pub PendingStaysFew : Type 0
PendingStaysFew =
    (s : Machine) (f : Flat) (es : List MachineEvent) (k : ℕ) → IsSound s.system → IsFlatOf s.system f → AreEnabled s es
    → AreFew ((flat_run s es f).pending k)

-- ---- updates

-- what was given until an update's first pass: then nothing is pending, and after its first release memory has each word that was not stored since
pub record IsHeldFlat (f : Flat) (r : Machine) (since : List MachineEvent) : Type 0 where
  pub nothing : (k : ℕ) → f.pending k ≡ []
  pub held : (address : ℕ) → address % 8 ≡ 0 → (Contains (stored_words r since) address → ⊥) → word_at (run r since).system.memory address ≡ f.values address

abbrev pub HeldIsFlat : Type 0
HeldIsFlat =
    (s r : Machine) (f : Flat) (es since : List MachineEvent) (o : Order) → IsStart s → IsFlatOf s.system f → AreEnabled s es
    → IsFirstRelease (run s es) r o → AreEnabled r since
    → IsHeldFlat (flat_run s es f) r since

-- of a whole update the flat machine is given the takes
abbrev pub flat_takes : List ℕ → Flat → Flat
flat_takes ks f = fold (λ g k. empty_all k g) f ks

abbrev pub UpdatedIsFlat : Type 0
UpdatedIsFlat =
    (s : Machine) (f : Flat) (goal : RegisterFile) (ks : List ℕ) → IsQuiet s → IsEnabled s (Calls goal) → IsEachOnce (length s.system.processors) ks
    → IsFlatOf s.system f → IsFlatOf (updated s.system ks goal).system (flat_takes ks f)
