-- What each processor keeps of its mappings, entries and file.
use Rattle.std.proofs.Common.{◌≡◌, ◌≢◌, ℕ, zero, suc, ◌-◌, ◌/◌, ◌^◌, ◌==◌, List, [], ◌∷◌, length, drop, Some, None, Option, Bool, true, false, refl, sym, ap, subst, ◌∙◌, ⊎_elim, eq-eqb, ◌≤◌, arith}
use Rattle.std.specs.Prelude.{slice_get, if◌then◌else◌, nat_lt, ◌&&◌, ◌||◌, map, is_some}
use Rattle.std.specs.List.{list_all, list_any, find}
use Rattle.std.specs.Option.{option_map_or, option_map}
use Rattle.mt_tlb.specs.declared.entry.Entry.{Entry}
use Rattle.mt_tlb.specs.declared.mapping.Mapping.{Mapping}
use Rattle.mt_machine.specs.declared.op.Op.{Op}
use Rattle.mt_machine.specs.declared.op.Op.TheVariants.{Load, Store, Fence}
use Rattle.mt_machine.specs.declared.done.Done.TheVariants.{Unmapped, Busy}
use Rattle.mt_machine.specs.System.{Processor, System, change}
use Rattle.mt_machine.specs.Bus.{drain}
use Rattle.mt_machine.specs.Access.{keep_entry, entry_of, new_entry, translated, access_at, access, is_running, Answered}
use Rattle.mt_tlb.specs.Entries.{add_entry}
use Rattle.mt_laws.proofs.Clearing.Follows.{all_append, all_drop}
use Rattle.mt_laws.proofs.Clearing.Renewed.{at_change}
use Rattle.mt_laws.proofs.Words.StepLaws.{find_within}
use Rattle.mt_laws.proofs.Translations.Views.{drain_views, translated_views}
use Rattle.mt_lists.proofs.Keys.{Apart, apart_add, from_apart, to_apart}
use Rattle.mt_laws.proofs.Words.Lengths.{drop_length}

-- what is neither line nor buffer
abbrev pub Outer : Type 0
Outer = ℕ × List Mapping × List Entry

abbrev pub outer : Processor → Outer
outer p = (p.file.width, p.mappings, p.entries)

pub record Tidy (x : Outer) : Type 0 where
  pub mapped : list_all (λ e. list_any (λ m. m.vpage == e.vpage) x.1) x.2 ≡ true
  pub indexes : list_all (λ m. nat_lt m.index 8) x.1 ≡ true
  pub mapped_pages : list_all (λ m. nat_lt m.ppage (2 ^ (x.0 - 12))) x.1 ≡ true
  pub entry_pages : list_all (λ e. nat_lt e.ppage (2 ^ (x.0 - 12))) x.2 ≡ true
  pub few_mappings : length x.1 ≤ 64
  pub mappings_apart : Apart (λ (m : Mapping). m.vpage) x.1
  pub few_entries : length x.2 ≤ 64
  pub entries_apart : Apart (λ (e : Entry). e.vpage) x.2

abbrev pub AllTidy : List Processor → Type 0
AllTidy ps = (i : ℕ) (p : Processor) → slice_get ps i ≡ Some p → Tidy (outer p)

view_at : (ps : List Processor) (j : ℕ) (x : Outer) → slice_get (map outer ps) j ≡ Some x → (p : Processor) × (slice_get ps j ≡ Some p) × (outer p ≡ x)
view_at [] j x at = absurd (cc)
view_at (p ∷ ps) zero x at = (p, refl, cc)
view_at (p ∷ ps) (suc j) x at = view_at ps j x at

at_view : (ps : List Processor) (j : ℕ) (p : Processor) → slice_get ps j ≡ Some p → slice_get (map outer ps) j ≡ Some (outer p)
at_view [] j p at = absurd (cc)
at_view (q ∷ ps) zero p at = let e : q ≡ p = cc in ap (λ (r : Processor). Some (outer r)) e
at_view (q ∷ ps) (suc j) p at = at_view ps j p at

tidy_same : (ps qs : List Processor) → map outer qs ≡ map outer ps → AllTidy ps → AllTidy qs
tidy_same ps qs same all j q at =
    let found = view_at ps j (outer q) (ap (λ xs. slice_get xs j) (sym same) ∙ at_view qs j q at) in
    subst Tidy found.2 (all j found.0 found.1)

pub tidy_change : (f : Processor → Processor) (k : ℕ) (s : System) → ((p : Processor) → slice_get s.processors k ≡ Some p → Tidy (outer p) → Tidy (outer (f p))) → AllTidy s.processors → AllTidy (change f k s).processors
tidy_change f k s keeps all j q at =
    ⊎_elim
    (λ (e : (j ≡ k) × (x : Processor) × (slice_get s.processors k ≡ Some x) × (f x ≡ q)). subst (λ (r : Processor). Tidy (outer r)) e.3 (keeps e.1 e.2 (all k e.1 e.2)))
    (λ (e : (j ≢ k) × (slice_get s.processors j ≡ Some q)). all j q e.1)
    (at_change f k s j q at)

pub tidy_drain : (k : ℕ) (s : System) → AllTidy s.processors → AllTidy (drain k s).processors
tidy_drain k s all = tidy_same s.processors (drain k s).processors (drain_views Outer outer (λ f p. refl) (λ f p. refl) k s) all

-- ---- entries

any_found : (page : ℕ) (ms : List Mapping) (m : Mapping) → find (λ (x : Mapping). x.vpage == page) ms ≡ Some m → list_any (λ (x : Mapping). x.vpage == m.vpage) ms ≡ true
any_found page [] m h = absurd (cc)
any_found page (x ∷ ms) m h = one (x.vpage == page) h (λ g. any_found page ms m g)
  where
    or_true : (b : Bool) → (b || true) ≡ true
    or_true true = refl
    or_true false = refl

    one : (b : Bool) → (if b then Some x else find (λ (y : Mapping). y.vpage == page) ms) ≡ Some m → (find (λ (y : Mapping). y.vpage == page) ms ≡ Some m → list_any (λ (y : Mapping). y.vpage == m.vpage) ms ≡ true) → ((x.vpage == m.vpage) || list_any (λ (y : Mapping). y.vpage == m.vpage) ms) ≡ true
    one true g rest = let e : x ≡ m = cc in ap (λ b. b || list_any (λ (y : Mapping). y.vpage == m.vpage) ms) (eq-eqb x.vpage m.vpage (ap (λ (y : Mapping). y.vpage) e))
    one false g rest = ap (λ b. (x.vpage == m.vpage) || b) (rest g) ∙ or_true (x.vpage == m.vpage)

entry_tidy : (p : Processor) (page : ℕ) (e : Entry) → Tidy (outer p) → entry_of p page ≡ Some e → (list_any (λ m. m.vpage == e.vpage) p.mappings ≡ true) × (nat_lt e.ppage (2 ^ (p.file.width - 12)) ≡ true)
entry_tidy p page e t h = one (find (λ (x : Entry). x.vpage == page) p.entries) refl h
  where
    mapped : (o : Option Mapping) → find (λ (x : Mapping). x.vpage == page) p.mappings ≡ o → option_map (new_entry p) o ≡ Some e → (list_any (λ m. m.vpage == e.vpage) p.mappings ≡ true) × (nat_lt e.ppage (2 ^ (p.file.width - 12)) ≡ true)
    mapped None is g = absurd (cc)
    mapped (Some m) is g =
        let same : new_entry p m ≡ e = cc in
        subst (λ (x : Entry). (list_any (λ m. m.vpage == x.vpage) p.mappings ≡ true) × (nat_lt x.ppage (2 ^ (p.file.width - 12)) ≡ true)) same
        (any_found page p.mappings m is, find_within (λ (x : Mapping). x.vpage == page) (λ m. nat_lt m.ppage (2 ^ (p.file.width - 12))) p.mappings m t.mapped_pages is)

    one : (o : Option Entry) → find (λ (x : Entry). x.vpage == page) p.entries ≡ o → option_map_or Some o (option_map (new_entry p) (find (λ (m : Mapping). m.vpage == page) p.mappings)) ≡ Some e → (list_any (λ m. m.vpage == e.vpage) p.mappings ≡ true) × (nat_lt e.ppage (2 ^ (p.file.width - 12)) ≡ true)
    one None is g = mapped (find (λ (m : Mapping). m.vpage == page) p.mappings) refl g
    one (Some x) is g =
        let same : x ≡ e = cc in
        let found : find (λ (y : Entry). y.vpage == page) p.entries ≡ Some e = is ∙ ap (λ (y : Entry). Some y) same in (
          find_within (λ (y : Entry). y.vpage == page) (λ e. list_any (λ m. m.vpage == e.vpage) p.mappings) p.entries e t.mapped found,
          find_within (λ (y : Entry). y.vpage == page) (λ e. nat_lt e.ppage (2 ^ (p.file.width - 12))) p.entries e t.entry_pages found,
        )

added : (test : Entry → Bool) (e : Entry) (es : List Entry) → test e ≡ true → list_all test es ≡ true → list_all test (add_entry e es) ≡ true
added test e es own h = all_append test (if length es == 64 then drop 1 es else es) (e ∷ []) (one (length es == 64)) (both (test e) own)
  where
    both : (b : Bool) → b ≡ true → (b && true) ≡ true
    both true g = refl
    both false g = absurd (cc)

    one : (b : Bool) → list_all test (if b then drop 1 es else es) ≡ true
    one true = all_drop test es h
    one false = h

keep_tidy : (p : Processor) (page : ℕ) (e : Entry) → Tidy (outer p) → entry_of p page ≡ Some e → Tidy (outer (keep_entry e p))
keep_tidy p page e t h = one (find (λ (x : Entry). x.vpage == e.vpage) p.entries) refl
  where
    one : (o : Option Entry) → find (λ (x : Entry). x.vpage == e.vpage) p.entries ≡ o → Tidy (outer (if is_some o then p else record p { entries = add_entry e p.entries }))
    one (Some x) is = t
    one None is = record {
      mapped = added (λ e. list_any (λ m. m.vpage == e.vpage) p.mappings) e p.entries (entry_tidy p page e t h).0 t.mapped;
      indexes = t.indexes;
      mapped_pages = t.mapped_pages;
      entry_pages = added (λ e. nat_lt e.ppage (2 ^ (p.file.width - 12))) e p.entries (entry_tidy p page e t h).1 t.entry_pages;
      few_mappings = t.few_mappings;
      mappings_apart = t.mappings_apart;
      few_entries = drop_length 64 p.entries e (omega arith) t.few_entries;
      entries_apart = to_apart (λ (e : Entry). e.vpage) (add_entry e p.entries) (apart_add (λ (e : Entry). e.vpage) (length p.entries == 64) p.entries e (from_apart (λ (e : Entry). e.vpage) p.entries t.entries_apart) is);
    }

-- ---- accesses

abbrev picked : Bool → Answered → Answered → Answered
picked b x y = if b then x else y

entry_access : (s : System) (k : ℕ) (p : Processor) (page : ℕ) (op : Op) → slice_get s.processors k ≡ Some p → AllTidy s.processors → (o : Option Entry) → entry_of p page ≡ o → AllTidy (option_map_or {U = Answered} (λ e. translated (change (keep_entry e) k s) k e op) o (record { answer = Unmapped; after = s })).after.processors
entry_access s k p page op at all None is = all
entry_access s k p page op at all (Some e) is =
    tidy_same (change (keep_entry e) k s).processors _ (translated_views Outer outer (λ f p. refl) (λ f p. refl) (change (keep_entry e) k s) k e op)
    (tidy_change (keep_entry e) k s
    (λ q at_q t. let same : Some q ≡ Some p = sym at_q ∙ at in
    let e' : q ≡ p = cc in
    keep_tidy q page e t (ap (λ (r : Processor). entry_of r page) e' ∙ is))
    all)

pub tidy_access : (s : System) (k : ℕ) (op : Op) → AllTidy s.processors → AllTidy (access s k op).after.processors
tidy_access s k op all = one (slice_get s.processors k) refl
  where
    at_processor : (op : Op) (p : Processor) → slice_get s.processors k ≡ Some p → AllTidy (access_at s k p op).after.processors
    at_processor Fence p at = tidy_drain k s all
    at_processor (Load address) p at = entry_access s k p (address / 4096) (Load address) at all (entry_of p (address / 4096)) refl
    at_processor (Store address value) p at = entry_access s k p (address / 4096) (Store address value) at all (entry_of p (address / 4096)) refl

    two : (p : Processor) (b : Bool) → slice_get s.processors k ≡ Some p → AllTidy (picked b (access_at s k p op) (record { answer = Busy; after = s })).after.processors
    two p true at = at_processor op p at
    two p false at = all

    one : (o : Option Processor) → slice_get s.processors k ≡ o → AllTidy (option_map_or {U = Answered} (λ p. if is_running p.phase then access_at s k p op else record { answer = Busy; after = s }) o (record { answer = Busy; after = s })).after.processors
    one None is = all
    one (Some p) is = two p (is_running p.phase) is
