-- Each processor keeps its table while its file stays, and translates by it where it runs.
use Rattle.std.proofs.Common.{◌≡◌, ◌∙◌, ◌⊎◌, ap, sym, refl, subst, arith, inl, inr, ℕ, zero, suc, ◌+◌, ◌<◌, List, [], ◌∷◌, ◌++◌, length, take, get_or, None, Some, slice_get, slice_index_or, true, ⊎_elim}
use Rattle.std.specs.Prelude.{map}
use Rattle.mt_laws.proofs.Invariant.Snooping.{from}
use Rattle.std.proofs.lemmas.List.{length-append, length-map, map-append, take_more}
use Rattle.std.proofs.lemmas.Option.{slice_get-get_or, slice_get_within}
use Rattle.mt_regs.specs.RegisterFile.{RegisterFile}
use Rattle.mt_types.specs.Tables.{IsTableOf, TypeTable}
use Rattle.mt_machine.specs.declared.op.Op.{Op}
use Rattle.mt_machine.specs.declared.control.Control.{Control}
use Rattle.mt_machine.specs.declared.event.Event.{Event}
use Rattle.mt_machine.specs.declared.event.Event.TheVariants.{Take, WriteBack}
use Rattle.mt_machine.specs.Machine.{before_own}
use Rattle.mt_machine.specs.declared.phase.Phase.{Phase}
use Rattle.mt_machine.specs.declared.phase.Phase.TheVariants.{Running}
use Rattle.mt_machine.specs.System.{IsProcessor, IsSound, Processor, System, is_writing, start_processor, snooping, with_self_snoop}
use Rattle.mt_machine.specs.Bus.{drain}
use Rattle.mt_machine.specs.Access.{access, is_running}
use Rattle.mt_machine.specs.Control.{control}
use Rattle.mt_laws.proofs.Barrier.Claims.{all_get}
use Rattle.mt_laws.proofs.Barrier.Stages.{access_stages, control_stages, drain_stages, stage_of, stages, change_stages}
use Rattle.mt_laws.proofs.Clearing.Follows.{Follows, follows_access, follows_control, follows_drain}
use Rattle.mt_bus.specs.Tables.{AreTablesOf, IsTranslatedBy}

pub same_length : (s t : System) → stages t ≡ stages s → length t.processors ≡ length s.processors
same_length s t same = sym (length-map t.processors stage_of) ∙ ap length same ∙ length-map s.processors stage_of

-- no file and no phase changes
pub tables_follow : (k : ℕ) (s t : System) (ts : List TypeTable) → stages t ≡ stages s → Follows k s t → AreTablesOf s.processors ts → AreTablesOf t.processors ts
tables_follow k s t ts same follows h = record {
  count = h.count ∙ sym (same_length s t same);
  each = λ j q x at there rests.
      let from = follows j q at in
      subst (λ (f : RegisterFile). IsTableOf f x) (sym from.2.file)
      (h.each j from.0 x from.1 there (ap is_writing (sym from.2.phase) ∙ rests));
}

pub tables_accessed : (s : System) (k : ℕ) (op : Op) (ts : List TypeTable) → AreTablesOf s.processors ts → AreTablesOf (access s k op).after.processors ts
tables_accessed s k op ts h = tables_follow k s (access s k op).after ts (access_stages s k op) (follows_access s k op) h

pub tables_controlled : (s : System) (k : ℕ) (c : Control) (ts : List TypeTable) → AreTablesOf s.processors ts → AreTablesOf (control s k c).after.processors ts
tables_controlled s k c ts h = tables_follow k s (control s k c).after ts (control_stages s k c) (follows_control s k c) h

pub tables_drained : (k : ℕ) (s : System) (ts : List TypeTable) → AreTablesOf s.processors ts → AreTablesOf (drain k s).processors ts
tables_drained k s ts h = tables_follow k s (drain k s) ts (drain_stages k s) (follows_drain k s) h

pub tables_before : (e : Event) (k : ℕ) (s : System) (ts : List TypeTable) → AreTablesOf s.processors ts → AreTablesOf (before_own e k s).processors ts
tables_before Take k s ts h = tables_drained k s ts h
tables_before (WriteBack address value) k s ts h = h
tables_before e k s ts h = h

pub tables_snooping : (k : ℕ) (s : System) (ts : List TypeTable) → AreTablesOf s.processors ts → AreTablesOf (with_self_snoop k s).processors ts
tables_snooping k s ts h = record {
  count = h.count ∙ sym (same_length s (with_self_snoop k s) (change_stages snooping (λ p. refl) k s));
  each = λ j q x at there rests.
      let f = from k s j q at in
      let same : (f.0.file ≡ q.file) × (f.0.phase ≡ q.phase) =
      ⊎_elim (λ (e : f.0 ≡ q). (ap (λ (p : Processor). p.file) e, ap (λ (p : Processor). p.phase) e)) (λ (e : snooping f.0 ≡ q). (ap (λ (p : Processor). p.file) e, ap (λ (p : Processor). p.phase) e)) f.2 in
      subst (λ (g : RegisterFile). IsTableOf g x) same.0 (h.each j f.0 x f.1 there (ap is_writing same.1 ∙ rests));
}

-- ---- at the start

-- an element of a list with one more is of the list, or the new one
pub pushed_at : {X : Type 0} (xs : List X) (x y : X) (k : ℕ) → slice_get (xs ++ x ∷ []) k ≡ Some y → (slice_get xs k ≡ Some y) ⊎ ((k ≡ length xs) × (x ≡ y))
pushed_at [] x y zero at = inr (refl, cc)
pushed_at [] x y (suc k) at = absurd (cc)
pushed_at (z ∷ zs) x y zero at = inl at
pushed_at (z ∷ zs) x y (suc k) at = ⊎_elim (λ (old : slice_get zs k ≡ Some y). inl old) (λ (new : (k ≡ length zs) × (x ≡ y)). inr (omega (arith, new.0), new.1)) (pushed_at zs x y k at)

tables_push : (ps : List Processor) (ts : List TypeTable) (p : Processor) (t : TypeTable) → IsTableOf p.file t → AreTablesOf ps ts → AreTablesOf (ps ++ p ∷ []) (ts ++ t ∷ [])
tables_push ps ts p t table h = record {
  count =
      let more = length-append ts (t ∷ []) in
      let longer = length-append ps (p ∷ []) in
      let same = h.count in
      omega arith;
  each = λ k q x at there rests.
      ⊎_elim
      (λ (old : slice_get ps k ≡ Some q).
      ⊎_elim (λ (known : slice_get ts k ≡ Some x). h.each k q x old known rests)
      (λ (new : (k ≡ length ts) × (t ≡ x)). absurd (omega (arith, slice_get_within ps k q old, new.0, h.count)))
      (pushed_at ts t x k there))
      (λ (last : (k ≡ length ps) × (p ≡ q)).
      ⊎_elim (λ (known : slice_get ts k ≡ Some x). absurd (omega (arith, slice_get_within ts k x known, last.0, h.count)))
      (λ (new : (k ≡ length ts) × (t ≡ x)). subst (λ (z : Processor). IsTableOf z.file x) last.1 (subst (λ (y : TypeTable). IsTableOf p.file y) new.1 table))
      (pushed_at ts t x k there))
      (pushed_at ps p q k at);
}

-- one more file of a list, and its table
pub tables_more : (files : List RegisterFile) (i : ℕ) (d : RegisterFile) (ts : List TypeTable) (t : TypeTable) → i < length files → IsTableOf (get_or files i d) t
    → AreTablesOf (map start_processor (take i files)) ts → AreTablesOf (map start_processor (take (i + 1) files)) (ts ++ t ∷ [])
tables_more files i d ts t within table h =
    subst (λ (ps : List Processor). AreTablesOf ps (ts ++ t ∷ []))
    (sym (ap (map start_processor) (take_more files i d within) ∙ map-append start_processor (take i files) (get_or files i d ∷ [])))
    (tables_push (map start_processor (take i files)) ts (start_processor (get_or files i d)) t table h)

-- ---- a processor that runs

running_rests : (ph : Phase) → is_running ph ≡ true → is_writing ph ≡ None
running_rests Running h = refl
running_rests other h = absurd (cc)

table_of : (ts : List TypeTable) (k : ℕ) (d : TypeTable) → k < length ts → slice_get ts k ≡ Some (slice_index_or ts k d)
table_of ts k d within = slice_get-get_or ts k d within

translated_at : (s : System) (ts : List TypeTable) → IsSound s → AreTablesOf s.processors ts → (k : ℕ) (d : TypeTable) → k < length s.processors
    → (p : Processor) → slice_get s.processors k ≡ Some p → is_running p.phase ≡ true → IsTranslatedBy p (slice_index_or ts k d)
translated_at s ts sound h k d within p at runs = record {
  table = h.each k p (slice_index_or ts k d) at (table_of ts k d (subst (λ n. k < n) (sym h.count) within)) (running_rests p.phase runs);
  pages = let whole : IsProcessor p = all_get IsProcessor s.processors sound.each k p at in whole.mapped_pages;
}

-- the table is lent out of the list
pub translated_by : (s : System) (ts shown : List TypeTable) (t : TypeTable) → IsSound s → AreTablesOf s.processors ts → (k : ℕ) → k < length s.processors
    → shown ≡ ts → t ≡ slice_index_or shown k t
    → (p : Processor) → slice_get s.processors k ≡ Some p → is_running p.phase ≡ true → IsTranslatedBy p t
translated_by s ts shown t sound h k within seen is p at runs =
    subst (IsTranslatedBy p) (sym (is ∙ ap (λ (xs : List TypeTable). slice_index_or xs k t) seen))
    (translated_at s ts sound h k t within p at runs)
