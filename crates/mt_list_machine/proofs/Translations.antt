-- The entry by which a processor translates, and the processor once it has that entry.
use Rattle.std.proofs.Common.{◌≡◌, ◌∙◌, ap, sym, refl, subst, ℕ, ◌/◌, List, Option, Some, None, slice_get, slice_set, if◌then◌else◌}
use Rattle.std.specs.Prelude.{Bool, true, false, is_some}
use Rattle.std.specs.Option.{option_map, option_map_or, unwrap_or}
use Rattle.mt_lists.proofs.Keys.{found_key}
use Rattle.mt_tlb.specs.declared.entry.Entry.{Entry}
use Rattle.mt_tlb.specs.declared.mapping.Mapping.{Mapping}
use Rattle.mt_tlb.specs.Entries.{add_entry, find_entry, find_mapping, is_full_for}
use Rattle.mt_machine.specs.Memory.{Memory}
use Rattle.mt_machine.specs.System.{Processor, System, change}
use Rattle.mt_machine.specs.Access.{entry_of, keep_entry, new_entry}
use Rattle.mt_laws.proofs.Items.{set_same}
use Rattle.mt_laws.specs.Parts.{entry_in, system}
use Rattle.mt_list_machine.specs.Parts.{with_entry_in}
use Rattle.mt_list_machine.specs.Calls.{IsMapped, after_map, with_mapping}

-- the processor with the entry of a page, where there is one
abbrev pub entered : Processor → ℕ → Processor
entered p page = option_map_or (λ e. keep_entry e p) (entry_of p page) p

kept_if : (p : Processor) (e : Entry) (o : Option Entry) → find_entry e.vpage p.entries ≡ o → keep_entry e p ≡ (if is_some o then p else record p { entries = add_entry e p.entries })
kept_if p e o is = ap (λ (x : Option Entry). if is_some x then p else record p { entries = add_entry e p.entries }) is

of_found : (p : Processor) (page : ℕ) (e : Entry) → find_entry page p.entries ≡ Some e → entry_of p page ≡ Some e
of_found p page e is = ap (λ (o : Option Entry). option_map_or Some o (option_map (new_entry p) (find_mapping page p.mappings))) is

of_made : (p : Processor) (page : ℕ) → find_entry page p.entries ≡ None → entry_of p page ≡ option_map (new_entry p) (find_mapping page p.mappings)
of_made p page none = ap (λ (o : Option Entry). option_map_or Some o (option_map (new_entry p) (find_mapping page p.mappings))) none

-- an entry stands
pub stands : (p : Processor) (page : ℕ) (e : Entry) → find_entry page p.entries ≡ Some e → (Some e ≡ entry_of p page) × (p ≡ entered p page)
stands p page e is = (
  sym (of_found p page e is),
  sym
      (ap (λ (o : Option Entry). option_map_or (λ x. keep_entry x p) o p) (of_found p page e is)
      ∙ kept_if p e (Some e) (ap (λ n. find_entry n p.entries) (found_key (λ (x : Entry). x.vpage) page p.entries e is) ∙ is)),
)

-- the page of the entry that a page's mapping makes is that page
made_page : (p : Processor) (page : ℕ) (e : Entry) (o : Option Mapping) → find_mapping page p.mappings ≡ o → option_map (new_entry p) o ≡ Some e → e.vpage ≡ page
made_page p page e None is made = absurd (cc)
made_page p page e (Some m) is made =
    sym (ap (λ (x : Option Entry). option_map_or (λ (y : Entry). y.vpage) x 0) made) ∙ found_key (λ (y : Mapping). y.vpage) page p.mappings m is

-- none stands, and the mapping makes one
pub fills : (p : Processor) (page : ℕ) (e : Entry) → find_entry page p.entries ≡ None → option_map (new_entry p) (find_mapping page p.mappings) ≡ Some e
    → (Some e ≡ entry_of p page) × (record p { entries = add_entry e p.entries } ≡ entered p page)
fills p page e none made =
    let is = of_made p page none ∙ made in (
      sym is,
      sym
          (ap (λ (o : Option Entry). option_map_or (λ x. keep_entry x p) o p) is
          ∙ kept_if p e None (ap (λ n. find_entry n p.entries) (made_page p page e (find_mapping page p.mappings) refl made) ∙ none)),
    )

-- none stands, and there is no mapping
pub lacks : (p : Processor) (page : ℕ) → find_entry page p.entries ≡ None → option_map (new_entry p) (find_mapping page p.mappings) ≡ None → (None ≡ entry_of p page) × (p ≡ entered p page)
lacks p page none made =
    let is = of_made p page none ∙ made in
    (sym is, sym (ap (λ (o : Option Entry). option_map_or (λ x. keep_entry x p) o p) is))

-- ---- a processor of a list

-- the system whose processor k is q in place of p
pub changed_to : (ps : List Processor) (m : Memory) (s : System) (k : ℕ) (p q : Processor) (f : Processor → Processor) → system ps m ≡ s → slice_get ps k ≡ Some p → q ≡ f p
    → system (slice_set ps k q) m ≡ change f k s
changed_to ps m s k p q f is at made =
    ap (λ x. system (slice_set ps k x) m) made
    ∙ sym (ap (λ o. option_map_or (λ y. system (slice_set ps k (f y)) m) o (system ps m)) at)
    ∙ ap (change f k) is

pub entered_in : (ps : List Processor) (m : Memory) (s : System) (k va : ℕ) (p q : Processor) (o : Option Entry) → system ps m ≡ s → slice_get ps k ≡ Some p
    → (o ≡ entry_of p (va / 4096)) × (q ≡ entered p (va / 4096)) → (o ≡ entry_in k va s.processors) × (system (slice_set ps k q) m ≡ with_entry_in o k s)
entered_in ps m s k va p q o is at made =
    let own : entry_of p (va / 4096) ≡ entry_in k va ps = sym (ap (λ x. option_map_or (λ (y : Processor). entry_of y (va / 4096)) x None) at) in
    subst (λ (t : System). (o ≡ entry_in k va t.processors) × (system (slice_set ps k q) m ≡ with_entry_in o k t)) is (
      made.0 ∙ own,
      ap (λ x. system (slice_set ps k x) m) made.1 ∙ one (entry_of p (va / 4096)) ∙ ap (λ x. with_entry_in x k (system ps m)) (sym made.0),
    )
  where
    one : (x : Option Entry) → system (slice_set ps k (option_map_or (λ e. keep_entry e p) x p)) m ≡ with_entry_in x k (system ps m)
    one None = ap (λ qs. system qs m) (set_same ps k p at)
    one (Some e) = changed_to ps m (system ps m) k p (keep_entry e p) (keep_entry e) refl at refl

changed_if : (b : Bool) (f : Processor → Processor) (ps : List Processor) (m : Memory) (s : System) (k : ℕ) (p q : Processor) → system ps m ≡ s → slice_get ps k ≡ Some p
    → q ≡ (if b then p else f p) → system (slice_set ps k q) m ≡ (if b then s else change f k s)
changed_if true f ps m s k p q same at is = ap (λ x. system (slice_set ps k x) m) is ∙ ap (λ qs. system qs m) (set_same ps k p at) ∙ same
changed_if false f ps m s k p q same at is = changed_to ps m s k p q f same at is

pub mapped_in : (x : Mapping) (ps : List Processor) (m : Memory) (s : System) (k : ℕ) (q r : Processor) → system ps m ≡ s → slice_get ps k ≡ Some q → r ≡ after_map x q
    → IsMapped x k s (system (slice_set ps k r) m)
mapped_in x ps m s k q r same here is = λ p at.
    let e : q ≡ p = ap (λ (o : Option Processor). unwrap_or o q) (sym here ∙ ap (λ (t : System). slice_get t.processors k) same ∙ at) in
    changed_if (is_full_for x p.mappings) (with_mapping x) ps m s k p r same (here ∙ ap Some e) (is ∙ ap (after_map x) e)
