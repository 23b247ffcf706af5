-- Controls and the update's steps keep mappings and entries tidy.
use Rattle.std.proofs.Common.{◌≡◌, ℕ, ◌-◌, ◌/◌, ◌^◌, ◌<◌, ◌==◌, List, [], ◌∷◌, ◌++◌, Some, None, Option, Bool, true, false, refl, sym, ap, subst, ◌∙◌, eq-eqb, length, ◌≤◌, arith}
use Rattle.std.specs.Prelude.{slice_get, slice_index_or, if◌then◌else◌, nat_lt, not, ◌&&◌, ◌||◌, map, is_some}
use Rattle.std.specs.List.{list_all, list_any, filter, find}
use Rattle.std.specs.Option.{option_map_or}
use Rattle.std.proofs.lemmas.Bool.{eqb-true, lt-ltb, eqb-false}
use Rattle.mt_regs.specs.RegisterFile.{RegisterFile}
use Rattle.mt_regs.specs.declared.registers.Register.{Register}
use Rattle.mt_regs.specs.declared.registers.Register.TheVariants.{PhysBase, PhysMask, FixedRange, Pat, DefaultType}
use Rattle.mt_regs.specs.Registers.{writable}
use Rattle.mt_tlb.specs.declared.entry.Entry.{Entry}
use Rattle.mt_tlb.specs.declared.mapping.Mapping.{Mapping}
use Rattle.mt_machine.specs.declared.event.Event.{Event}
use Rattle.mt_machine.specs.declared.event.Event.TheVariants.{Take, WriteBack, FlushTlb, Write}
use Rattle.mt_machine.specs.declared.phase.Phase.{Phase}
use Rattle.mt_machine.specs.declared.phase.Phase.TheVariants.{Flushed2}
use Rattle.mt_machine.specs.declared.control.Control.{Control}
use Rattle.mt_machine.specs.declared.control.Control.TheVariants.{Map, Invlpg, Cr3, Pge, Cd}
use Rattle.mt_machine.specs.declared.ruled.Ruled.TheVariants.{Okay, Full, Busy}
use Rattle.mt_machine.specs.System.{Processor, System, change}
use Rattle.mt_machine.specs.Bus.{drain}
use Rattle.mt_machine.specs.Access.{is_running}
use Rattle.mt_machine.specs.Control.{control, control_at, set_page_global, same_bool, drop_page, reload_cr3, RuledAfter}
use Rattle.mt_tlb.specs.Entries.{is_full_for, is_mapped, set_mapping}
use Rattle.mt_machine.specs.Machine.{Machine, Order, MachineEvent, Accesses, Controls, Calls, Goes, Cancels, Steps, IsEnabled, FitsControl, next, own_step, step, flush_tlb, with_goal}
use Rattle.mt_laws.proofs.Barrier.Ranks.{and_left, and_right}
use Rattle.mt_laws.proofs.Clearing.Follows.{all_append, all_filter}
use Rattle.mt_laws.proofs.Translations.Tidy.{outer, Tidy, AllTidy, tidy_change, tidy_drain, tidy_access}
use Rattle.mt_lists.proofs.Keys.{Apart, any_find, apart_change, apart_filter, apart_push}
use Rattle.mt_laws.proofs.Words.Lengths.{add_length, filter_length}
use Rattle.std.proofs.lemmas.List.{length-map}

and_true : (a b : Bool) → a ≡ true → b ≡ true → (a && b) ≡ true
and_true true b h g = g
and_true false b h g = absurd (cc)

-- fewer entries
tidy_filter : (p : Processor) (test : Entry → Bool) → Tidy (outer p) → Tidy (p.file.width, p.mappings, filter test p.entries)
tidy_filter p test t = record {
  mapped = all_filter (λ e. list_any (λ m. m.vpage == e.vpage) p.mappings) test p.entries t.mapped;
  indexes = t.indexes;
  mapped_pages = t.mapped_pages;
  entry_pages = all_filter (λ e. nat_lt e.ppage (2 ^ (p.file.width - 12))) test p.entries t.entry_pages;
  few_mappings = t.few_mappings;
  mappings_apart = t.mappings_apart;
  few_entries = (let b = filter_length test p.entries in let c = t.few_entries in omega arith);
  entries_apart = apart_filter (λ (e : Entry). e.vpage) test p.entries t.entries_apart;
}

tidy_none : (p : Processor) → Tidy (outer p) → Tidy (p.file.width, p.mappings, [])
tidy_none p t = record {
  mapped = refl;
  indexes = t.indexes;
  mapped_pages = t.mapped_pages;
  entry_pages = refl;
  few_mappings = t.few_mappings;
  mappings_apart = t.mappings_apart;
  few_entries = omega arith;
  entries_apart = tt;
}

-- ---- a mapping that is set

mapping_any : (m : Mapping) (page : ℕ) (ms : List Mapping) → list_any (λ (x : Mapping). x.vpage == page) ms ≡ true → list_any (λ (x : Mapping). x.vpage == page) (map (λ x. if x.vpage == m.vpage then m else x) ms) ≡ true
mapping_any m page [] h = absurd (cc)
mapping_any m page (x ∷ ms) h = one (x.vpage == m.vpage) (x.vpage == page) refl refl h (λ g. mapping_any m page ms g)
  where
    or_true : (b : Bool) → (b || true) ≡ true
    or_true true = refl
    or_true false = refl

    one : (b c : Bool) → (x.vpage == m.vpage) ≡ b → (x.vpage == page) ≡ c → (c || list_any (λ (y : Mapping). y.vpage == page) ms) ≡ true
        → (list_any (λ (y : Mapping). y.vpage == page) ms ≡ true → list_any (λ (y : Mapping). y.vpage == page) (map (λ y. if y.vpage == m.vpage then m else y) ms) ≡ true)
        → (((if b then m else x).vpage == page) || list_any (λ (y : Mapping). y.vpage == page) (map (λ y. if y.vpage == m.vpage then m else y) ms)) ≡ true
    one true true is_b is_c g rest =
        let here : (m.vpage == page) ≡ true = eq-eqb m.vpage page (sym (eqb-true x.vpage m.vpage is_b) ∙ eqb-true x.vpage page is_c) in
        ap (λ b. b || list_any (λ (y : Mapping). y.vpage == page) (map (λ y. if y.vpage == m.vpage then m else y) ms)) here
    one false true is_b is_c g rest = ap (λ b. b || list_any (λ (y : Mapping). y.vpage == page) (map (λ y. if y.vpage == m.vpage then m else y) ms)) is_c
    one b false is_b is_c g rest = ap (λ r. ((if b then m else x).vpage == page) || r) (rest g) ∙ or_true ((if b then m else x).vpage == page)

any_more : (test : Mapping → Bool) (ms : List Mapping) (m : Mapping) → list_any test ms ≡ true → list_any test (ms ++ m ∷ []) ≡ true
any_more test [] m h = absurd (cc)
any_more test (x ∷ ms) m h = one (test x) h (λ g. any_more test ms m g)
  where
    one : (b : Bool) → (b || list_any test ms) ≡ true → (list_any test ms ≡ true → list_any test (ms ++ m ∷ []) ≡ true) → (b || list_any test (ms ++ m ∷ [])) ≡ true
    one true g rest = refl
    one false g rest = rest g

set_any : (m : Mapping) (ms : List Mapping) (page : ℕ) → list_any (λ (x : Mapping). x.vpage == page) ms ≡ true → list_any (λ (x : Mapping). x.vpage == page) (set_mapping m ms) ≡ true
set_any m ms page h = one (is_mapped m.vpage ms)
  where
    one : (b : Bool) → list_any (λ (x : Mapping). x.vpage == page) (if b then map (λ x. if x.vpage == m.vpage then m else x) ms else ms ++ m ∷ []) ≡ true
    one true = mapping_any m page ms h
    one false = any_more (λ (x : Mapping). x.vpage == page) ms m h

set_all : (test : Mapping → Bool) (m : Mapping) (ms : List Mapping) → test m ≡ true → list_all test ms ≡ true → list_all test (set_mapping m ms) ≡ true
set_all test m ms own h = one (is_mapped m.vpage ms)
  where
    replaced : (ms : List Mapping) → list_all test ms ≡ true → list_all test (map (λ x. if x.vpage == m.vpage then m else x) ms) ≡ true
    replaced [] h = h
    replaced (x ∷ ms) h = and_true _ _ (two (x.vpage == m.vpage)) (replaced ms (and_right (test x) _ h))
      where
        two : (b : Bool) → test (if b then m else x) ≡ true
        two true = own
        two false = and_left _ _ h

    one : (b : Bool) → list_all test (if b then map (λ x. if x.vpage == m.vpage then m else x) ms else ms ++ m ∷ []) ≡ true
    one true = replaced ms h
    one false = all_append test ms (m ∷ []) h (and_true (test m) true own refl)

entries_kept : (m : Mapping) (ms : List Mapping) (es : List Entry) → list_all (λ (e : Entry). list_any (λ (x : Mapping). x.vpage == e.vpage) ms) es ≡ true → list_all (λ (e : Entry). list_any (λ (x : Mapping). x.vpage == e.vpage) (set_mapping m ms)) es ≡ true
entries_kept m ms [] h = h
entries_kept m ms (e ∷ es) h = and_true _ _ (set_any m ms e.vpage (and_left _ _ h)) (entries_kept m ms es (and_right (list_any (λ (x : Mapping). x.vpage == e.vpage) ms) _ h))

-- the mappings are no more than 64, and have distinct pages
set_few : (m : Mapping) (ms : List Mapping) → is_full_for m ms ≡ false → length ms ≤ 64 → length (set_mapping m ms) ≤ 64
set_few m ms roomy few = one (is_mapped m.vpage ms) roomy
  where
    two : (c : Bool) → (length ms == 64) ≡ c → c ≡ false → length (ms ++ m ∷ []) ≤ 64
    two c is off = let apart = eqb-false (length ms) 64 (is ∙ off) in let long = add_length ms m in omega arith

    one : (b : Bool) → (not b && (length ms == 64)) ≡ false → length (if b then map (λ x. if x.vpage == m.vpage then m else x) ms else ms ++ m ∷ []) ≤ 64
    one true g = let long = length-map ms (λ (x : Mapping). if x.vpage == m.vpage then m else x) in omega arith
    one false g = two (length ms == 64) refl g

set_apart : (m : Mapping) (ms : List Mapping) → Apart (λ (x : Mapping). x.vpage) ms → Apart (λ (x : Mapping). x.vpage) (set_mapping m ms)
set_apart m ms h = one (find (λ (x : Mapping). x.vpage == m.vpage) ms) refl (any_find (λ (x : Mapping). x.vpage == m.vpage) ms)
  where
    one : (o : Option Mapping) → find (λ (x : Mapping). x.vpage == m.vpage) ms ≡ o → is_mapped m.vpage ms ≡ is_some (find (λ (x : Mapping). x.vpage == m.vpage) ms) → Apart (λ (x : Mapping). x.vpage) (set_mapping m ms)
    one (Some x) is any = subst (λ b. Apart (λ (x : Mapping). x.vpage) (if b then map (λ x. if x.vpage == m.vpage then m else x) ms else ms ++ m ∷ [])) (sym (any ∙ ap is_some is))
        (apart_change (λ (x : Mapping). x.vpage) m.vpage (λ _. m) (λ x e. sym e) ms h)
    one None is any = subst (λ b. Apart (λ (x : Mapping). x.vpage) (if b then map (λ x. if x.vpage == m.vpage then m else x) ms else ms ++ m ∷ [])) (sym (any ∙ ap is_some is))
        (apart_push (λ (x : Mapping). x.vpage) ms m h is)

tidy_mapping : (m : Mapping) (p : Processor) → is_full_for m p.mappings ≡ false → (m.index < 8) × (m.ppage < 2 ^ (p.file.width - 12)) × (m.vpage < 2 ^ 36) → Tidy (outer p) → Tidy (p.file.width, set_mapping m p.mappings, p.entries)
tidy_mapping m p roomy fits t = record {
  mapped = entries_kept m p.mappings p.entries t.mapped;
  indexes = set_all (λ m. nat_lt m.index 8) m p.mappings (lt-ltb m.index 8 fits.0) t.indexes;
  mapped_pages = set_all (λ m. nat_lt m.ppage (2 ^ (p.file.width - 12))) m p.mappings (lt-ltb m.ppage (2 ^ (p.file.width - 12)) fits.1) t.mapped_pages;
  entry_pages = t.entry_pages;
  few_mappings = set_few m p.mappings roomy t.few_mappings;
  mappings_apart = set_apart m p.mappings t.mappings_apart;
  few_entries = t.few_entries;
  entries_apart = t.entries_apart;
}

-- ---- controls

abbrev ruled : Bool → RuledAfter → RuledAfter → RuledAfter
ruled b x y = if b then x else y

paged_tidy : (on : Bool) (p : Processor) → Tidy (outer p) → Tidy (outer (set_page_global on p))
paged_tidy on p t = one (same_bool on p.page_global)
  where
    one : (b : Bool) → Tidy (outer (if b then p else record p { page_global = on; entries = [] }))
    one true = t
    one false = tidy_none p t

control_at_tidy : (s : System) (k : ℕ) (p : Processor) (c : Control) → slice_get s.processors k ≡ Some p → FitsControl p c → AllTidy s.processors → AllTidy (control_at s k p c).after.processors
control_at_tidy s k p (Map m) at fits all = one (is_full_for m p.mappings) refl
  where
    one : (b : Bool) → is_full_for m p.mappings ≡ b → AllTidy (ruled b (record { answer = Full; after = s }) (record { answer = Okay; after = change (λ q. record q { mappings = set_mapping m q.mappings }) k s })).after.processors
    one true is = all
    one false is = tidy_change (λ q. record q { mappings = set_mapping m q.mappings }) k s
        (λ q at_q t. let same : Some p ≡ Some q = sym at ∙ at_q in
        let e : p ≡ q = cc in
        tidy_mapping m q (ap (λ (r : Processor). is_full_for m r.mappings) (sym e) ∙ is) (subst (λ (r : Processor). FitsControl r (Map m)) e fits) t)
        all
control_at_tidy s k p (Invlpg address) at fits all = tidy_change (drop_page (address / 4096)) k (drain k s) (λ q at_q t. tidy_filter q (λ e. not (e.vpage == address / 4096)) t) (tidy_drain k s all)
control_at_tidy s k p Cr3 at fits all = tidy_change reload_cr3 k (drain k s) (λ q at_q t. tidy_filter q (λ e. e.global) t) (tidy_drain k s all)
control_at_tidy s k p (Pge on) at fits all = tidy_change (set_page_global on) k (drain k s) (λ q at_q t. paged_tidy on q t) (tidy_drain k s all)
control_at_tidy s k p (Cd on) at fits all = tidy_change (λ q. record q { cache_disabled = on }) k (drain k s) (λ q at_q t. t) (tidy_drain k s all)

pub tidy_control : (s : System) (k : ℕ) (c : Control) → ((p : Processor) → slice_get s.processors k ≡ Some p → FitsControl p c) → AllTidy s.processors → AllTidy (control s k c).after.processors
tidy_control s k c fits all = one (slice_get s.processors k) refl
  where
    two : (p : Processor) (b : Bool) → slice_get s.processors k ≡ Some p → AllTidy (ruled b (control_at s k p c) (record { answer = Busy; after = s })).after.processors
    two p true at = control_at_tidy s k p c at (fits p at) all
    two p false at = all

    one : (o : Option Processor) → slice_get s.processors k ≡ o → AllTidy (option_map_or {U = RuledAfter} (λ p. if is_running p.phase then control_at s k p c else record { answer = Busy; after = s }) o (record { answer = Busy; after = s })).after.processors
    one None is = all
    one (Some p) is = two p (is_running p.phase) is

-- ---- steps

with_width : (goal : RegisterFile) (r : Register) (f : RegisterFile) → (with_goal goal r f).width ≡ f.width
with_width goal (PhysBase n) f = refl
with_width goal (PhysMask n) f = refl
with_width goal (FixedRange i) f = refl
with_width goal Pat f = refl
with_width goal DefaultType f = refl

same_width : (p : Processor) (width : ℕ) → width ≡ p.file.width → Tidy (outer p) → Tidy (width, p.mappings, p.entries)
same_width p width same t = subst (λ (w : ℕ). Tidy (w, p.mappings, p.entries)) (sym same) t

flush_tidy : (ph : Phase) (p : Processor) → Tidy (outer p) → Tidy (outer (flush_tlb ph p))
flush_tidy Flushed2 p t = tidy_filter p (λ e. e.global) t
flush_tidy other p t = one p.page_global
  where
    one : (b : Bool) → Tidy (outer (if b then record p { remembered_global = true; page_global = false; entries = [] } else record (reload_cr3 p) { remembered_global = false }))
    one true = tidy_none p t
    one false = tidy_filter p (λ e. e.global) t

own_tidy : (goal : RegisterFile) (e : Event) (p : Processor) → Tidy (outer p) → Tidy (outer (own_step goal e p))
own_tidy goal FlushTlb p t = flush_tidy p.phase p t
own_tidy goal (Write i) p t = same_width p _ (with_width goal (slice_index_or (writable goal) i DefaultType) p.file) t
own_tidy goal other p t = t

tidy_step : (goal : RegisterFile) (e : Event) (k : ℕ) (s : System) → AllTidy s.processors → AllTidy (step goal e k s).processors
tidy_step goal Take k s all = tidy_change (own_step goal Take) k (drain k s) (λ p at t. t) (tidy_drain k s all)
tidy_step goal (WriteBack address value) k s all = tidy_change (own_step goal (WriteBack address value)) k (record s { memory = _ }) (λ p at t. t) all
tidy_step goal other k s all = tidy_change (own_step goal other) k s (λ p at t. own_tidy goal other p t) all

tidy_in : (e : MachineEvent) (s : System) (o : Option Order) → IsEnabled (record { system = s; order = o }) e → AllTidy s.processors → AllTidy (next (record { system = s; order = o }) e).system.processors
tidy_in (Accesses k op) s o enabled all = tidy_access s k op all
tidy_in (Controls k c) s o enabled all = tidy_control s k c enabled.1 all
tidy_in (Calls goal) s o enabled all = all
tidy_in Goes s None enabled all = all
tidy_in Goes s (Some o) enabled all = all
tidy_in Cancels s None enabled all = all
tidy_in Cancels s (Some o) enabled all = all
tidy_in (Steps k e) s None enabled all = all
tidy_in (Steps k e) s (Some o) enabled all = tidy_step o.goal e k s all

pub tidy_next : (m : Machine) (e : MachineEvent) → IsEnabled m e → AllTidy m.system.processors → AllTidy (next m e).system.processors
tidy_next m e enabled all = tidy_in e m.system m.order enabled all
