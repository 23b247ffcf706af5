-- Accesses, control instructions and the update's events, beside what the flat machine is given.
use Rattle.std.proofs.Common.{◌≡◌, ℕ, ◌/◌, List, [], Some, None, Option, Bool, true, false, refl, sym, ap, subst, ◌∙◌}
use Rattle.std.specs.Prelude.{slice_get, if◌then◌else◌, map, is_some}
use Rattle.std.specs.Option.{option_map_or, option_map}
use Rattle.mt_kinds.specs.declared.mem_type.MemType.{MemType}
use Rattle.mt_regs.specs.RegisterFile.{RegisterFile}
use Rattle.mt_tlb.specs.declared.entry.Entry.{Entry}
use Rattle.mt_tlb.specs.Entries.{is_full_for, set_mapping}
use Rattle.mt_machine.specs.declared.phase.Phase.{Phase}
use Rattle.mt_machine.specs.declared.phase.Phase.TheVariants.{Flushed2}
use Rattle.mt_machine.specs.declared.op.Op.{Op}
use Rattle.mt_machine.specs.declared.op.Op.TheVariants.{Load, Store, Fence}
use Rattle.mt_machine.specs.declared.done.Done.{Done}
use Rattle.mt_machine.specs.declared.done.Done.TheVariants.{Value, Stored, NoRam, Unmapped, Busy}
use Rattle.mt_machine.specs.declared.control.Control.{Control}
use Rattle.mt_machine.specs.declared.control.Control.TheVariants.{Map, Invlpg, Cr3, Pge, Cd}
use Rattle.mt_machine.specs.declared.ruled.Ruled.TheVariants.{Okay, Full, Busy as RuledBusy}
use Rattle.mt_machine.specs.declared.event.Event.{Event}
use Rattle.mt_machine.specs.declared.event.Event.TheVariants.{Take, WriteBack, FlushTlb}
use Rattle.mt_machine.specs.Memory.{Window, place}
use Rattle.mt_machine.specs.System.{Processor, System, change}
use Rattle.mt_machine.specs.Bus.{drain}
use Rattle.mt_machine.specs.Access.{Answered, access, access_at, entry_of, is_running, keep_entry, load, physical, store, translated}
use Rattle.mt_machine.specs.Control.{control, control_at, drop_page, reload_cr3, set_page_global, RuledAfter}
use Rattle.mt_machine.specs.Machine.{Machine, Order, MachineEvent, Accesses, Controls, Calls, Goes, Cancels, Steps, IsEnabled, due, flush_tlb, next, own_step, step}
use Rattle.mt_machine.specs.Update.{physical_of}
use Rattle.mt_laws.proofs.Words.MemoryLaws.{AllAligned}
use Rattle.mt_laws.proofs.Clearing.Renewed.{is_take}
use Rattle.mt_laws.proofs.Words.AccessLaws.{line_placed}
use Rattle.mt_laws.proofs.Words.StoreLaws.{Has}
use Rattle.mt_laws.proofs.Words.WordLaws.{entry_lines, entry_has, quiet_stands, quiet_word}
use Rattle.mt_laws.proofs.Words.ControlLaws.{paged}
use Rattle.mt_laws.proofs.Words.Agreement.{stands_next, step_keeps_word}
use Rattle.mt_flat.specs.Flat.{Flat, FlatEvent, Loads, Stores, empty_all, flat_answer, flat_next}
use Rattle.mt_flat.specs.Seen.{flat_after, given_access, given_control, written_of}
use Rattle.mt_flat.proofs.Emptying.{Same, same_drain}
use Rattle.mt_flat.proofs.Storing.{KeepsBuffers, buffers_kept, change_keeps, same_load, same_store, value_of_load}

abbrev after_given : Flat → Option FlatEvent → Flat
after_given f g = option_map_or (flat_next f) g f

abbrev unmapped : System → Answered
unmapped s = record { answer = Unmapped; after = s }

abbrev pick : {X : Type 0} → Bool → X → X → X
pick b x y = if b then x else y

abbrev busy : System → Answered
busy s = record { answer = Busy; after = s }

abbrev no_ram : System → Answered
no_ram s = record { answer = NoRam; after = s }

abbrev loaded : System → ℕ → Entry → ℕ → Answered
loaded s k e address = record { answer = Value (load e.kind k (physical e address) s).0 e.kind; after = (load e.kind k (physical e address) s).1 }

abbrev stored : System → ℕ → Entry → ℕ → ℕ → Answered
stored s k e address value = record { answer = Stored e.kind; after = store e.kind k (physical e address) value s }

-- what an access is answered where its page has this entry
abbrev found : System → ℕ → Op → Option Entry → Answered
found s k op o = option_map_or (λ e. translated (change (keep_entry e) k s) k e op) o (unmapped s)

module _ (ws : List Window) (aligned : AllAligned ws) where
  -- a change of the processor that leaves its lines and buffers
  same_quiet : (h : Processor → Processor) (k : ℕ) (s : System) (f : Flat) → ((p : Processor) → ((h p).lines ≡ p.lines) × ((h p).buffers ≡ p.buffers)) → Same ws s f → Same ws (change h k s) f
  same_quiet h k s f same r = record {
    stands = quiet_stands ws aligned h k s same r.stands;
    values = λ a whole. quiet_word ws aligned h k s true a (f.values a) same (r.values a whole);
    pending = λ j. r.pending j ∙ ap (map written_of) (sym (buffers_kept s (change h k s) j (change_keeps h k s (λ p. (same p).1))));
  }

  -- ---- accesses

  module _ (s : System) (k : ℕ) (f : Flat) (p : Processor) (at : slice_get s.processors k ≡ Some p) (r : Same ws s f) where
    physical_is : (address : ℕ) → physical_of s k address ≡ option_map (λ e. physical e address) (entry_of p (address / 4096))
    physical_is address = ap (λ (o : Option Processor). option_map_or (λ q. option_map (λ e. physical e address) (entry_of q (address / 4096))) o None) at

    kept : (e : Entry) → Same ws (change (keep_entry e) k s) f
    kept e = same_quiet (keep_entry e) k s f (entry_lines ws aligned e) r

    kept_has : (e : Entry) → Has k (change (keep_entry e) k s)
    kept_has e = entry_has ws aligned e k s p at

    load_same : (address : ℕ) (o : Option Entry) → physical_of s k address ≡ option_map (λ e. physical e address) o → Same ws (found s k (Load address) o).after (after_given f (given_access s k (Load address) (found s k (Load address) o).answer))
    load_same address None is = r
    load_same address (Some e) is = one (is_some (place (change (keep_entry e) k s).memory (physical e address))) refl
      where
        one : (b : Bool) → is_some (place (change (keep_entry e) k s).memory (physical e address)) ≡ b
            → Same ws (pick b (loaded (change (keep_entry e) k s) k e address) (no_ram (change (keep_entry e) k s))).after (after_given f (given_access s k (Load address) (pick b (loaded (change (keep_entry e) k s) k e address) (no_ram (change (keep_entry e) k s))).answer))
        one false there = kept e
        one true there =
            let w = line_placed ws (change (keep_entry e) k s).memory (physical e address) aligned (kept e).stands.memory there in
            subst (λ (q : Option ℕ). Same ws (load e.kind k (physical e address) (change (keep_entry e) k s)).1 (after_given f (option_map (Loads k e.kind) q))) (sym is)
            (same_load ws aligned k (physical e address) w.0 w.1 e.kind (change (keep_entry e) k s) f (kept_has e) (kept e))

    load_answer : (address value : ℕ) (kind : MemType) (o : Option Entry) → physical_of s k address ≡ option_map (λ e. physical e address) o → (found s k (Load address) o).answer ≡ Value value kind
        → (w : ℕ) × (physical_of s k address ≡ Some w) × (value ≡ flat_answer f k kind w)
    load_answer address value kind None is h = absurd (cc)
    load_answer address value kind (Some e) is h = one (is_some (place (change (keep_entry e) k s).memory (physical e address))) refl h
      where
        one : (b : Bool) → is_some (place (change (keep_entry e) k s).memory (physical e address)) ≡ b → (pick b (loaded (change (keep_entry e) k s) k e address) (no_ram (change (keep_entry e) k s))).answer ≡ Value value kind
            → (w : ℕ) × (physical_of s k address ≡ Some w) × (value ≡ flat_answer f k kind w)
        one false there g = absurd (cc)
        one true there g =
            let w = line_placed ws (change (keep_entry e) k s).memory (physical e address) aligned (kept e).stands.memory there in
            let v : (load e.kind k (physical e address) (change (keep_entry e) k s)).0 ≡ value = ap value_in g in
            let t : e.kind ≡ kind = ap kind_in g in (
              physical e address,
              is,
              sym v ∙ value_of_load ws aligned k (physical e address) w.0 w.1 e.kind (change (keep_entry e) k s) f (kept_has e) (kept e) ∙ ap (λ u. flat_answer f k u (physical e address)) t,
            )
          where
            value_in : Done → ℕ
            value_in (Value v t) = v
            value_in other = 0

            kind_in : Done → MemType
            kind_in (Value v t) = t
            kind_in other = e.kind

    store_same : (address value : ℕ) (o : Option Entry) → physical_of s k address ≡ option_map (λ e. physical e address) o → Same ws (found s k (Store address value) o).after (after_given f (given_access s k (Store address value) (found s k (Store address value) o).answer))
    store_same address value None is = r
    store_same address value (Some e) is = one (is_some (place (change (keep_entry e) k s).memory (physical e address))) refl
      where
        one : (b : Bool) → is_some (place (change (keep_entry e) k s).memory (physical e address)) ≡ b
            → Same ws (pick b (stored (change (keep_entry e) k s) k e address value) (no_ram (change (keep_entry e) k s))).after (after_given f (given_access s k (Store address value) (pick b (stored (change (keep_entry e) k s) k e address value) (no_ram (change (keep_entry e) k s))).answer))
        one false there = kept e
        one true there =
            let w = line_placed ws (change (keep_entry e) k s).memory (physical e address) aligned (kept e).stands.memory there in
            subst (λ (q : Option ℕ). Same ws (store e.kind k (physical e address) value (change (keep_entry e) k s)) (after_given f (option_map (λ word. Stores k e.kind word value) q))) (sym is)
            (same_store ws aligned k (physical e address) w.0 w.1 e.kind value (change (keep_entry e) k s) f (kept_has e) (kept e))

    at_same : (op : Op) → Same ws (access_at s k p op).after (after_given f (given_access s k op (access_at s k p op).answer))
    at_same (Load address) = load_same address (entry_of p (address / 4096)) (physical_is address)
    at_same (Store address value) = store_same address value (entry_of p (address / 4096)) (physical_is address)
    at_same Fence = same_drain ws aligned k s f (p, at) r

  access_is : (s : System) (k : ℕ) (op : Op) (p : Processor) → slice_get s.processors k ≡ Some p → is_running p.phase ≡ true → access s k op ≡ access_at s k p op
  access_is s k op p at runs =
      ap (λ (o : Option Processor). option_map_or {U = Answered} (λ q. if is_running q.phase then access_at s k q op else busy s) o (busy s)) at
      ∙ ap (λ b. pick b (access_at s k p op) (busy s)) runs

  -- the processor that runs
  running_at : (s : System) (k : ℕ) → option_map_or (λ p. is_running p.phase) (slice_get s.processors k) false ≡ true → (p : Processor) × (slice_get s.processors k ≡ Some p) × (is_running p.phase ≡ true)
  running_at s k h = one (slice_get s.processors k) refl h
    where
      one : (o : Option Processor) → slice_get s.processors k ≡ o → option_map_or (λ p. is_running p.phase) o false ≡ true → (p : Processor) × (slice_get s.processors k ≡ Some p) × (is_running p.phase ≡ true)
      one None is g = absurd (cc)
      one (Some p) is g = (p, is, g)

  access_same : (s : System) (k : ℕ) (op : Op) (f : Flat) → option_map_or (λ p. is_running p.phase) (slice_get s.processors k) false ≡ true → Same ws s f → Same ws (access s k op).after (after_given f (given_access s k op (access s k op).answer))
  access_same s k op f h r =
      let p = running_at s k h in
      subst (λ (x : Answered). Same ws x.after (after_given f (given_access s k op x.answer))) (sym (access_is s k op p.0 p.1 p.2)) (at_same s k f p.0 p.1 r op)

  -- a load that was answered with a value
  pub answer_same : (s : System) (k address value : ℕ) (kind : MemType) (f : Flat) → (access s k (Load address)).answer ≡ Value value kind → Same ws s f → (w : ℕ) × (physical_of s k address ≡ Some w) × (value ≡ flat_answer f k kind w)
  answer_same s k address value kind f h r = one (slice_get s.processors k) refl h
    where
      two : (p : Processor) → slice_get s.processors k ≡ Some p → (b : Bool) → (pick b (access_at s k p (Load address)) (busy s)).answer ≡ Value value kind → (w : ℕ) × (physical_of s k address ≡ Some w) × (value ≡ flat_answer f k kind w)
      two p at false g = absurd (cc)
      two p at true g = load_answer s k f p at r address value kind (entry_of p (address / 4096)) (physical_is s k f p at r address) g

      one : (o : Option Processor) → slice_get s.processors k ≡ o → (option_map_or {U = Answered} (λ q. if is_running q.phase then access_at s k q (Load address) else busy s) o (busy s)).answer ≡ Value value kind → (w : ℕ) × (physical_of s k address ≡ Some w) × (value ≡ flat_answer f k kind w)
      one None at g = absurd (cc)
      one (Some p) at g = two p at (is_running p.phase) g

  -- ---- control instructions

  control_at_same : (s : System) (k : ℕ) (p : Processor) (c : Control) (f : Flat) → slice_get s.processors k ≡ Some p → Same ws s f → Same ws (control_at s k p c).after (after_given f (given_control k c (control_at s k p c).answer))
  control_at_same s k p (Map m) f at r = one (is_full_for m p.mappings)
    where
      picked : Bool → RuledAfter
      picked b = pick b (record { answer = Full; after = s }) (record { answer = Okay; after = change (λ q. record q { mappings = set_mapping m q.mappings }) k s })

      one : (b : Bool) → Same ws (picked b).after (after_given f (given_control k (Map m) (picked b).answer))
      one true = r
      one false = same_quiet (λ q. record q { mappings = set_mapping m q.mappings }) k s f (λ q. (refl, refl)) r
  control_at_same s k p (Invlpg address) f at r = same_quiet (drop_page (address / 4096)) k (drain k s) (empty_all k f) (λ q. (refl, refl)) (same_drain ws aligned k s f (p, at) r)
  control_at_same s k p Cr3 f at r = same_quiet reload_cr3 k (drain k s) (empty_all k f) (λ q. (refl, refl)) (same_drain ws aligned k s f (p, at) r)
  control_at_same s k p (Pge on) f at r = same_quiet (set_page_global on) k (drain k s) (empty_all k f) (paged on) (same_drain ws aligned k s f (p, at) r)
  control_at_same s k p (Cd on) f at r = same_quiet (λ q. record q { cache_disabled = on }) k (drain k s) (empty_all k f) (λ q. (refl, refl)) (same_drain ws aligned k s f (p, at) r)

  control_same : (s : System) (k : ℕ) (c : Control) (f : Flat) → option_map_or (λ p. is_running p.phase) (slice_get s.processors k) false ≡ true → Same ws s f → Same ws (control s k c).after (after_given f (given_control k c (control s k c).answer))
  control_same s k c f h r =
      let p = running_at s k h in
      let is : control s k c ≡ control_at s k p.0 c =
      ap (λ (q : Option Processor). option_map_or {U = RuledAfter} (λ x. if is_running x.phase then control_at s k x c else record { answer = RuledBusy; after = s }) q (record { answer = RuledBusy; after = s })) p.1
      ∙ ap (λ b. pick {X = RuledAfter} b (control_at s k p.0 c) (record { answer = RuledBusy; after = s })) p.2 in
      subst (λ (x : RuledAfter). Same ws x.after (after_given f (given_control k c x.answer))) (sym is) (control_at_same s k p.0 c f p.1 r)

  -- ---- the update's events

  flush_buffers : (ph : Phase) (p : Processor) → (flush_tlb ph p).buffers ≡ p.buffers
  flush_buffers Flushed2 p = refl
  flush_buffers other p = one p.page_global
    where
      one : (b : Bool) → (if b then record p { remembered_global = true; page_global = false; entries = [] } else record (reload_cr3 p) { remembered_global = false }).buffers ≡ p.buffers
      one true = refl
      one false = refl

  own_buffers : (goal : RegisterFile) (e : Event) (p : Processor) → (own_step goal e p).buffers ≡ p.buffers
  own_buffers goal FlushTlb p = flush_buffers p.phase p
  own_buffers goal other p = refl

  step_buffers : (goal : RegisterFile) (e : Event) (k : ℕ) (s : System) → is_take e ≡ false → KeepsBuffers s (step goal e k s)
  unfolding is_take
  step_buffers goal Take k s h = absurd (cc)
  step_buffers goal (WriteBack address value) k s h = change_keeps (own_step goal (WriteBack address value)) k _ (own_buffers goal (WriteBack address value))
  step_buffers goal other k s h = change_keeps (own_step goal other) k s (own_buffers goal other)

  step_same : (s : System) (o : Option Order) (k : ℕ) (e : Event) (f : Flat) → IsEnabled (record { system = s; order = o }) (Steps k e) → is_take e ≡ false → Same ws s f → Same ws (next (record { system = s; order = o }) (Steps k e)).system f
  step_same s o k e f enabled quiet r =
      let m : Machine = record { system = s; order = o } in
      record {
        stands = stands_next ws aligned m (Steps k e) enabled r.stands;
        values = λ a whole. step_keeps_word ws aligned m k e enabled quiet r.stands true a (f.values a) whole (r.values a whole);
        pending = λ j. r.pending j ∙ ap (map written_of) (sym (buffers_kept s (next m (Steps k e)).system j (keeps o)));
      }
    where
      keeps : (o : Option Order) → KeepsBuffers s (next (record { system = s; order = o }) (Steps k e)).system
      keeps None = refl
      keeps (Some o) = step_buffers o.goal e k s quiet

  take_same : (s : System) (o : Option Order) (k : ℕ) (f : Flat) → IsEnabled (record { system = s; order = o }) (Steps k Take) → Same ws s f → Same ws (next (record { system = s; order = o }) (Steps k Take)).system (empty_all k f)
  take_same s None k f enabled r = absurd (cc)
  take_same s (Some o) k f enabled r = one (slice_get s.processors k) refl enabled
    where
      one : (q : Option Processor) → slice_get s.processors k ≡ q → option_map_or (λ p. due o s.processors p p.phase) q None ≡ Some Take → Same ws (step o.goal Take k s) (empty_all k f)
      one None at h = absurd (cc)
      one (Some p) at h = same_quiet (own_step o.goal Take) k (drain k s) (empty_all k f) (λ q. (refl, refl)) (same_drain ws aligned k s f (p, at) r)

  steps_same : (s : System) (o : Option Order) (k : ℕ) (e : Event) (f : Flat) → IsEnabled (record { system = s; order = o }) (Steps k e) → Same ws s f → Same ws (next (record { system = s; order = o }) (Steps k e)).system (flat_after (record { system = s; order = o }) (Steps k e) f)
  unfolding is_take
  steps_same s o k Take f enabled r = take_same s o k f enabled r
  steps_same s o k other f enabled r = step_same s o k other f enabled refl r

  -- ---- each event

  event_same : (e : MachineEvent) (s : System) (o : Option Order) (f : Flat) → IsEnabled (record { system = s; order = o }) e → Same ws s f → Same ws (next (record { system = s; order = o }) e).system (flat_after (record { system = s; order = o }) e f)
  event_same (Accesses k op) s o f enabled r = access_same s k op f enabled.0 r
  event_same (Controls k c) s o f enabled r = control_same s k c f enabled.0 r
  event_same (Calls goal) s o f enabled r = r
  event_same Goes s None f enabled r = r
  event_same Goes s (Some o) f enabled r = r
  event_same Cancels s None f enabled r = r
  event_same Cancels s (Some o) f enabled r = r
  event_same (Steps k e) s o f enabled r = steps_same s o k e f enabled r

  pub next_same : (m : Machine) (e : MachineEvent) (f : Flat) → IsEnabled m e → Same ws m.system f → Same ws (next m e).system (flat_after m e f)
  next_same m e f enabled r = event_same e m.system m.order f enabled r
