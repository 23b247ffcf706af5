-- Where an access is refused.
use Rattle.std.proofs.Common.{◌≡◌, ◌⊎◌, ◌∙◌, ap, sym, refl, subst, inl, inr, ℕ, ◌/◌, Bool, true, false, if◌then◌else◌, IsTrue, List, [], ◌∷◌, Option, None, Some, is_some, slice_get, slice_set}
use Rattle.std.proofs.lemmas.Option.{slice_get_within, get_or_from_slice_get}
use Rattle.std.proofs.lemmas.List.Elements.{All-head, All-tail}
use Rattle.std.specs.List.{All, find}
use Rattle.std.specs.Option.{option_map, option_map_or}
use Rattle.mt_lists.proofs.Keys.{any_find, found_key}
use Rattle.mt_tlb.specs.declared.entry.Entry.{Entry}
use Rattle.mt_tlb.specs.declared.mapping.Mapping.{Mapping}
use Rattle.mt_tlb.specs.Entries.{find_entry, find_mapping, is_mapped, maps_page}
use Rattle.mt_machine.specs.declared.op.Op.{Op}
use Rattle.mt_machine.specs.declared.op.Op.TheVariants.{Load, Store, Fence}
use Rattle.mt_machine.specs.declared.done.Done.{Done}
use Rattle.mt_machine.specs.declared.done.Done.TheVariants.{Busy, NoRam, Stored, Unmapped}
use Rattle.mt_machine.specs.Memory.{place}
use Rattle.mt_machine.specs.System.{IsProcessor, IsSound, Processor, System, change}
use Rattle.mt_machine.specs.Access.{Answered, access, access_at, address_of, entry_of, is_running, keep_entry, load, new_entry, physical, store, translated, value_answer}
use Rattle.mt_laws.specs.Parts.{answered}
use Rattle.mt_bus.specs.Refusals.{RefusesInOrder, has_address}

memory_kept : (f : Processor → Processor) (k : ℕ) (s : System) → (change f k s).memory ≡ s.memory
memory_kept f k s = one (slice_get s.processors k)
  where
    one : (o : Option Processor) → (option_map_or (λ p. let t : System = record s { processors = slice_set s.processors k (f p) } in t) o s).memory ≡ s.memory
    one None = refl
    one (Some p) = refl

found_at : {X : Type 0} (test : X → Bool) (P : X → Type 0) (xs : List X) (x : X) → All P xs → find test xs ≡ Some x → P x
found_at test P [] x all at = absurd (cc)
found_at {X} test P (y ∷ ys) x all at = one (test y) at (found_at test P ys x (All-tail P y ys all))
  where
    one : (b : Bool) → (if b then Some y else find test ys) ≡ Some x → (find test ys ≡ Some x → P x) → P x
    one true e later = subst P (let same : y ≡ x = cc in same) (All-head P y ys all)
    one false e later = later e

-- a page has an entry or can have one exactly where it has a mapping
none_found : (p : Processor) (page : ℕ) → IsProcessor p → find_mapping page p.mappings ≡ None → entry_of p page ≡ None
none_found p page own none = one (find_entry page p.entries) refl
  where
    one : (o : Option Entry) → find_entry page p.entries ≡ o → option_map_or (λ (e : Entry). Some e) o (option_map (new_entry p) (find_mapping page p.mappings)) ≡ None
    one None at = ap (option_map (new_entry p)) none
    one (Some e) at =
        let has : is_mapped e.vpage p.mappings ≡ true = found_at _ (λ (x : Entry). IsTrue (is_mapped x.vpage p.mappings)) p.entries e own.mapped at in
        let page_is : e.vpage ≡ page = found_key (λ (x : Entry). x.vpage) page p.entries e at in
        absurd (let no : true ≡ false = sym has ∙ ap (λ n. is_mapped n p.mappings) page_is ∙ any_find (maps_page page) p.mappings ∙ ap (λ (o : Option Mapping). is_some o) none in cc)

no_mapping : (p : Processor) (page : ℕ) → entry_of p page ≡ None → find_mapping page p.mappings ≡ None
no_mapping p page none = one (find_entry page p.entries) (find_mapping page p.mappings) none
  where
    one : (o : Option Entry) (m : Option Mapping) → option_map_or (λ (e : Entry). Some e) o (option_map (new_entry p) m) ≡ None → m ≡ None
    one o None e = refl
    one None (Some m) e = absurd (cc)
    one (Some x) (Some m) e = absurd (cc)

record Served (d : Done) : Type 0 where
  running : d ≡ Busy → ⊥
  mapped : d ≡ Unmapped → ⊥
  present : d ≡ NoRam → ⊥

-- what comes of an entry: the word has a place and the access is served, or it has none
Outcome : System → ℕ → Op → Entry → Answered → Type 0
Outcome s k op e r =
    ((i : ℕ) × (place s.memory (physical e (address_of op)) ≡ Some i) × Served r.answer)
    ⊎ ((place s.memory (physical e (address_of op)) ≡ None) × (r ≡ answered NoRam (change (keep_entry e) k s)))

load_outcome : (s : System) (k a : ℕ) (e : Entry) → Outcome s k (Load a) e (translated (change (keep_entry e) k s) k e (Load a))
unfolding Outcome
load_outcome s k a e = one (place (change (keep_entry e) k s).memory (physical e a)) refl
  where
    same : place s.memory (physical e a) ≡ place (change (keep_entry e) k s).memory (physical e a)
    same = ap (λ m. place m (physical e a)) (sym (memory_kept (keep_entry e) k s))

    one : (o : Option ℕ) → place (change (keep_entry e) k s).memory (physical e a) ≡ o
        → ((i : ℕ) × (place s.memory (physical e a) ≡ Some i) × Served (if is_some o then value_answer e.kind (load e.kind k (physical e a) (change (keep_entry e) k s)) else answered NoRam (change (keep_entry e) k s)).answer)
        ⊎ ((place s.memory (physical e a) ≡ None) × ((if is_some o then value_answer e.kind (load e.kind k (physical e a) (change (keep_entry e) k s)) else answered NoRam (change (keep_entry e) k s)) ≡ answered NoRam (change (keep_entry e) k s)))
    one (Some i) at = inl (i, same ∙ at, record { running = λ h. cc; mapped = λ h. cc; present = λ h. cc })
    one None at = inr (same ∙ at, refl)

store_outcome : (s : System) (k a v : ℕ) (e : Entry) → Outcome s k (Store a v) e (translated (change (keep_entry e) k s) k e (Store a v))
unfolding Outcome
store_outcome s k a v e = one (place (change (keep_entry e) k s).memory (physical e a)) refl
  where
    same : place s.memory (physical e a) ≡ place (change (keep_entry e) k s).memory (physical e a)
    same = ap (λ m. place m (physical e a)) (sym (memory_kept (keep_entry e) k s))

    one : (o : Option ℕ) → place (change (keep_entry e) k s).memory (physical e a) ≡ o
        → ((i : ℕ) × (place s.memory (physical e a) ≡ Some i) × Served (if is_some o then answered (Stored e.kind) (store e.kind k (physical e a) v (change (keep_entry e) k s)) else answered NoRam (change (keep_entry e) k s)).answer)
        ⊎ ((place s.memory (physical e a) ≡ None) × ((if is_some o then answered (Stored e.kind) (store e.kind k (physical e a) v (change (keep_entry e) k s)) else answered NoRam (change (keep_entry e) k s)) ≡ answered NoRam (change (keep_entry e) k s)))
    one (Some i) at = inl (i, same ∙ at, record { running = λ h. cc; mapped = λ h. cc; present = λ h. cc })
    one None at = inr (same ∙ at, refl)

module _ (s : System) (k : ℕ) (p : Processor) (op : Op) (own : IsProcessor p) (runs : is_running p.phase ≡ true) (addressed : has_address op ≡ true) where
  absent_entry : entry_of p (address_of op / 4096) ≡ None → RefusesInOrder s k p op (answered Unmapped s)
  absent_entry at = record {
    busy = (λ h. absurd (cc), λ off. absurd (cc));
    unmapped = (λ h. (runs, addressed, no_mapping p (address_of op / 4096) at), λ h. refl);
    no_memory = (λ h. absurd (cc), λ h. let there = h.2.1 in absurd (cc));
    busy_keeps = λ h. refl;
    unmapped_keeps = λ h. refl;
    no_memory_keeps = λ e is h. absurd (cc);
  }

  served_entry : (e : Entry) (r : Answered) (i : ℕ) → entry_of p (address_of op / 4096) ≡ Some e → place s.memory (physical e (address_of op)) ≡ Some i → Served r.answer → RefusesInOrder s k p op r
  served_entry e r i at word served = record {
    busy = (λ h. absurd (served.running h), λ off. absurd (cc));
    unmapped = (λ h. absurd (served.mapped h), λ h. let none = none_found p (address_of op / 4096) own h.2 in absurd (cc));
    no_memory = (
      λ h. absurd (served.present h),
      λ h. let same : h.2.0 ≡ e = let there = h.2.1 in cc in let none = sym (ap (λ x. place s.memory (physical x (address_of op))) same) ∙ h.2.2 in absurd (cc),
    );
    busy_keeps = λ h. absurd (served.running h);
    unmapped_keeps = λ h. absurd (served.mapped h);
    no_memory_keeps = λ x is h. absurd (served.present h);
  }

  wordless_entry : (e : Entry) → entry_of p (address_of op / 4096) ≡ Some e → place s.memory (physical e (address_of op)) ≡ None → RefusesInOrder s k p op (answered NoRam (change (keep_entry e) k s))
  wordless_entry e at none = record {
    busy = (λ h. absurd (cc), λ off. absurd (cc));
    unmapped = (λ h. absurd (cc), λ h. let gone = none_found p (address_of op / 4096) own h.2 in absurd (cc));
    no_memory = (λ h. (runs, addressed, (e, at, none)), λ h. refl);
    busy_keeps = λ h. absurd (cc);
    unmapped_keeps = λ h. absurd (cc);
    no_memory_keeps = λ x is h. ap (λ y. change (keep_entry y) k s) (let same : e ≡ x = cc in same);
  }

  by_entry : (after : Entry → Answered) → ((e : Entry) → Outcome s k op e (after e)) → RefusesInOrder s k p op (option_map_or after (entry_of p (address_of op / 4096)) (answered Unmapped s))
  unfolding Outcome
  by_entry after outcome = one (entry_of p (address_of op / 4096)) refl
    where
      two : (e : Entry) → entry_of p (address_of op / 4096) ≡ Some e
          → ((i : ℕ) × (place s.memory (physical e (address_of op)) ≡ Some i) × Served (after e).answer) ⊎ ((place s.memory (physical e (address_of op)) ≡ None) × (after e ≡ answered NoRam (change (keep_entry e) k s)))
          → RefusesInOrder s k p op (after e)
      two e at (inl h) = served_entry e (after e) h.0 at h.1 h.2
      two e at (inr h) = subst (λ (r : Answered). RefusesInOrder s k p op r) (sym h.1) (wordless_entry e at h.0)

      one : (o : Option Entry) → entry_of p (address_of op / 4096) ≡ o → RefusesInOrder s k p op (option_map_or after o (answered Unmapped s))
      one None at = absent_entry at
      one (Some e) at = two e at (outcome e)

running_case : (s : System) (k : ℕ) (p : Processor) (op : Op) → IsProcessor p → is_running p.phase ≡ true → RefusesInOrder s k p op (access_at s k p op)
running_case s k p (Load a) own runs = by_entry s k p (Load a) own runs refl (λ e. translated (change (keep_entry e) k s) k e (Load a)) (load_outcome s k a)
running_case s k p (Store a v) own runs = by_entry s k p (Store a v) own runs refl (λ e. translated (change (keep_entry e) k s) k e (Store a v)) (store_outcome s k a v)
running_case s k p Fence own runs = record {
  busy = (λ h. absurd (cc), λ off. absurd (cc));
  unmapped = (λ h. absurd (cc), λ h. let off = h.1 in absurd (cc));
  no_memory = (λ h. absurd (cc), λ h. let off = h.1 in absurd (cc));
  busy_keeps = λ h. absurd (cc);
  unmapped_keeps = λ h. absurd (cc);
  no_memory_keeps = λ e is h. absurd (cc);
}

pub refuses : (s : System) (k : ℕ) (p : Processor) (op : Op) → IsSound s → slice_get s.processors k ≡ Some p → RefusesInOrder s k p op (access s k op)
refuses s k p op sound at =
    subst (λ (o : Option Processor). RefusesInOrder s k p op (option_map_or (λ q. if is_running q.phase then access_at s k q op else answered Busy s) o (answered Busy s))) (sym at)
    (one (is_running p.phase) refl)
  where
    own : IsProcessor p
    own = subst IsProcessor (get_or_from_slice_get s.processors k p p at) (sound.each k p (slice_get_within s.processors k p at))

    one : (b : Bool) → is_running p.phase ≡ b → RefusesInOrder s k p op (if b then access_at s k p op else answered Busy s)
    one true is = running_case s k p op own is
    one false is = record {
      busy = (λ h. is, λ off. refl);
      unmapped = (λ h. absurd (cc), λ h. let on = h.0 in absurd (cc));
      no_memory = (λ h. absurd (cc), λ h. let on = h.0 in absurd (cc));
      busy_keeps = λ h. refl;
      unmapped_keeps = λ h. refl;
      no_memory_keeps = λ e there h. absurd (cc);
    }
