-- An event of a processor that is due, and the table of types that it leaves.
use Rattle.std.proofs.Common.{◌≡◌, ◌≢◌, ◌∙◌, ap, sym, refl, subst, ℕ, zero, suc, ◌+◌, ◌<◌, ⊎_elim, Bool, true, false, List, [], ◌∷◌, length, Option, None, Some, slice_get, slice_set}
use Rattle.std.specs.Prelude.{if◌then◌else◌, nat_lt}
use Rattle.std.specs.Option.{option_map_or}
use Rattle.std.proofs.lemmas.List.{length-set}
use Rattle.mt_regs.specs.RegisterFile.{RegisterFile}
use Rattle.mt_regs.specs.Registers.{writable}
use Rattle.mt_types.specs.Tables.{IsTableOf, TypeTable}
use Rattle.mt_machine.specs.declared.phase.Phase.{Phase}
use Rattle.mt_machine.specs.declared.phase.Phase.TheVariants.{Writing}
use Rattle.mt_machine.specs.declared.event.Event.{Event}
use Rattle.mt_machine.specs.declared.event.Event.TheVariants.{Disable, Enable, FlushTlb, Take, Write, WriteBack}
use Rattle.mt_machine.specs.System.{Processor, System, change, is_writing}
use Rattle.mt_machine.specs.Machine.{Order, before_own, due, due_at, own_step, step}
use Rattle.mt_cpu.specs.Steps.{is_shift}
use Rattle.mt_laws.proofs.Clearing.Follows.{follows_drain}
use Rattle.mt_laws.proofs.Clearing.Renewed.{at_change}
use Rattle.mt_laws.proofs.Registers.Filed.{FiledAt, filed_steps, flush_file, is_done}
use Rattle.mt_bus.specs.Steps.{KeepsSystem, tables_after}
use Rattle.mt_bus.specs.Tables.{AreTablesOf}
use Rattle.mt_bus.proofs.Changed.{processor_of}
use Rattle.mt_core.specs.Arises.{IsCore}
use Rattle.mt_core.specs.Steps.{under_way}
use Rattle.mt_core.proofs.Stepping.{stands, step_sound}

-- ---- one processor

abbrev writes : Event → Bool
writes (Write i) = true
writes Enable = true
writes other = false

writes_one : (i : ℕ) (b : Bool) (e : Event) → Some (if b then Write i else Enable) ≡ Some e → writes e ≡ true
writes_one i true e is = let same : Write i ≡ e = cc in ap writes (sym same)
writes_one i false e is = let same : Enable ≡ e = cc in ap writes (sym same)

-- another event is due where no register is written
rests_before : (o : Order) (ps : List Processor) (p : Processor) (ph : Phase) (e : Event) → due o ps p ph ≡ Some e → writes e ≡ false → is_writing ph ≡ None
rests_before o ps p (Writing i) e is other = absurd (let w : writes e ≡ true = writes_one i (nat_lt (i + 1) (length (writable p.file))) e is in cc)
rests_before o ps p ph e is other = refl

-- ---- the tables

set_get : (ts : List TypeTable) (k : ℕ) (t x : TypeTable) → slice_get (slice_set ts k t) k ≡ Some x → t ≡ x
set_get [] k t x at = absurd (cc)
set_get (y ∷ ts) zero t x at = cc
set_get (y ∷ ts) (suc k) t x at = set_get ts k t x at

set_other : (ts : List TypeTable) (k j : ℕ) (t : TypeTable) → j ≢ k → slice_get (slice_set ts k t) j ≡ slice_get ts j
set_other [] k j t other = refl
set_other (y ∷ ts) zero zero t other = absurd (other refl)
set_other (y ∷ ts) zero (suc j) t other = refl
set_other (y ∷ ts) (suc k) zero t other = refl
set_other (y ∷ ts) (suc k) (suc j) t other = set_other ts k j t (λ same. other (ap suc same))

abbrev Has : Processor → TypeTable → Type 0
Has p t = is_writing p.phase ≡ None → IsTableOf p.file t

-- the processor has its table after its event, which stood before but for Enable
after_own : (goal : RegisterFile) (e : Event) (k : ℕ) (p : Processor) (ts : List TypeTable) (t x : TypeTable)
    → (writes e ≡ false → is_writing p.phase ≡ None) → (e ≡ Enable → (own_step goal e p).file ≡ goal) → (e ≡ Enable → IsTableOf goal t) → ((y : TypeTable) → slice_get ts k ≡ Some y → Has p y)
    → slice_get (tables_after e k t ts) k ≡ Some x → Has (own_step goal e p) x
after_own goal Enable k p ts t x rests is_goal new old at quiet =
    subst (λ (f : RegisterFile). IsTableOf f x) (sym (is_goal refl)) (subst (IsTableOf goal) (set_get ts k t x at) (new refl))
after_own goal Disable k p ts t x rests is_goal new old at quiet = absurd (cc)
after_own goal (Write i) k p ts t x rests is_goal new old at quiet = absurd (cc)
after_own goal FlushTlb k p ts t x rests is_goal new old at quiet = subst (λ (f : RegisterFile). IsTableOf f x) (sym (flush_file p.phase p)) (old x at (rests refl))
after_own goal e k p ts t x rests is_goal new old at quiet = old x at (rests refl)

others_stay : (e : Event) (k j : ℕ) (t : TypeTable) (ts : List TypeTable) → j ≢ k → slice_get (tables_after e k t ts) j ≡ slice_get ts j
others_stay Enable k j t ts other = set_other ts k j t other
others_stay e k j t ts other = refl

tables_length : (e : Event) (k : ℕ) (t : TypeTable) (ts : List TypeTable) → length (tables_after e k t ts) ≡ length ts
tables_length Enable k t ts = length-set ts k t
tables_length e k t ts = refl

-- ---- a step

phase_before : (e : Event) (k : ℕ) (s : System) (y : Processor) → slice_get (before_own e k s).processors k ≡ Some y → (p : Processor) × (slice_get s.processors k ≡ Some p) × (y.phase ≡ p.phase)
phase_before Take k s y at = let from = follows_drain k s k y at in (from.0, from.1, from.2.phase)
phase_before (WriteBack a v) k s y at = (y, at, refl)
phase_before e k s y at = (y, at, refl)

due_in : (o : Order) (s : System) (k : ℕ) (p : Processor) (e : Event) → due_at (under_way o s) k ≡ Some e → slice_get s.processors k ≡ Some p → due o s.processors p p.phase ≡ Some e
due_in o s k p e is at = ap (λ (x : Option Processor). option_map_or (λ q. due o s.processors q q.phase) x None) (sym at) ∙ is

change_length : (f : Processor → Processor) (k : ℕ) (s : System) → length (change f k s).processors ≡ length s.processors
change_length f k s = one (slice_get s.processors k)
  where
    one : (o : Option Processor) → length (option_map_or (λ p. record s { processors = slice_set s.processors k (f p) }) o s).processors ≡ length s.processors
    one None = refl
    one (Some p) = length-set s.processors k (f p)

enabled : (goal : RegisterFile) (e : Event) (y q : Processor) → own_step goal e y ≡ q → e ≡ Enable → is_done q.phase ≡ true
enabled goal e y q same enable = ap (λ (r : Processor). is_done r.phase) (sym same) ∙ ap (λ (v : Event). is_done (own_step goal v y).phase) enable

-- the state in which the event begins has these tables
pub tables_stepped : (o : Order) (s : System) → IsCore (under_way o s) → (k : ℕ) (e : Event) → due_at (under_way o s) k ≡ Some e
    → (t : TypeTable) (ts : List TypeTable) → (e ≡ Enable → IsTableOf o.goal t) → AreTablesOf (before_own e k s).processors ts → AreTablesOf (step o.goal e k s).processors (tables_after e k t ts)
tables_stepped o s core k e is t ts new h = record {
  count = tables_length e k t ts ∙ h.count ∙ sym (change_length (own_step o.goal e) k (before_own e k s));
  each = λ j q x at there. ⊎_elim
      (λ (m : (j ≡ k) × (y : Processor) × (slice_get (before_own e k s).processors k ≡ Some y) × (own_step o.goal e y ≡ q)).
      subst (λ (r : Processor). Has r x) m.3
      (after_own o.goal e k m.1 ts t x
      (rests m.1 m.2)
      (λ enable. ap (λ (r : Processor). r.file) m.3 ∙ (filed m.1 m.2 j q at).done (enabled o.goal e m.1 q m.3 enable))
      new
      (λ z z_at. h.each k m.1 z m.2 z_at)
      (subst (λ i. slice_get (tables_after e k t ts) i ≡ Some x) m.0 there)))
      (λ (m : (j ≢ k) × (slice_get (before_own e k s).processors j ≡ Some q)). h.each j q x m.1 (sym (others_stay e k j t ts m.0) ∙ there))
      (at_change (own_step o.goal e) k (before_own e k s) j q at);
}
  where
    rests : (y : Processor) → slice_get (before_own e k s).processors k ≡ Some y → writes e ≡ false → is_writing y.phase ≡ None
    rests y y_at other =
        let from = phase_before e k s y y_at in
        ap is_writing from.2 ∙ rests_before o s.processors from.0 from.0.phase e (due_in o s k from.0 e is from.1) other

    filed : (y : Processor) → slice_get (before_own e k s).processors k ≡ Some y → (j : ℕ) (q : Processor) → slice_get (step o.goal e k s).processors j ≡ Some q → FiledAt o q
    filed y y_at j q at =
        let from = phase_before e k s y y_at in
        let st = (stands core.arises).1 in
        (filed_steps o e k s from.0 from.1 (due_in o s k from.0 e is from.1) st.kept.0 st.filed).1 j q at

shift_enables_not : (e : Event) (ph : Phase) → is_shift e ph ≡ true → e ≢ Enable
shift_enables_not Enable ph h = absurd (cc)
shift_enables_not e ph h = λ same. absurd (let w : is_shift Enable ph ≡ true = ap (λ (v : Event). is_shift v ph) (sym same) ∙ h in cc)

-- an event of the barriers leaves the tables, and Enable puts the goal's table there
pub kept_local : (o : Order) (s : System) → IsCore (under_way o s) → (k : ℕ) (e : Event) → due_at (under_way o s) k ≡ Some e → (t : TypeTable) → IsTableOf o.goal t → KeepsSystem o.goal e k s t
kept_local o s core k e is t new = record { sound = step_sound o s core k e is; tables = λ ts h. tables_stepped o s core k e is t ts (λ _. new) h }

pub kept_shifted : (o : Order) (s : System) → IsCore (under_way o s) → (k : ℕ) (e : Event) → due_at (under_way o s) k ≡ Some e → k < length s.processors
    → ((p : Processor) → slice_get s.processors k ≡ Some p → is_shift e p.phase ≡ true) → (t : TypeTable) → KeepsSystem o.goal e k s t
kept_shifted o s core k e is within shift t =
    let here = processor_of s.processors k within in record {
      sound = step_sound o s core k e is;
      tables = λ ts h. tables_stepped o s core k e is t ts (λ same. absurd (shift_enables_not e here.0.phase (shift here.0 here.1) same)) h;
    }
