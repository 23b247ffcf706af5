-- The entry of a page: the one that stands, and the one that a mapping makes.
use Rattle.std.proofs.Common.{◌≡◌, ℕ, ◌<◌, List, [], ◌∷◌, length, get_or, Some, None, Option, Bool, true, false, refl, sym, ap, subst, ◌∙◌, IsTrue, IfSome, IfNone}
use Rattle.std.specs.Prelude.{if◌then◌else◌, ◌&&◌, slice_get, is_some}
use Rattle.std.specs.Option.{option_map, option_map_or}
use Rattle.std.specs.List.{All, find}
use Rattle.std.proofs.lemmas.List.Elements.{All-head, All-tail}
use Rattle.std.proofs.lemmas.Option.{slice_get-get_or}
use Rattle.mt_lists.proofs.Keys.{any_find, found_key}
use Rattle.mt_kinds.specs.declared.mem_type.MemType.{MemType}
use Rattle.mt_kinds.specs.declared.mem_type.MemType.TheVariants.{UC}
use Rattle.mt_kinds.specs.EffectiveType.{effective_type}
use Rattle.mt_kinds.specs.Pat.{pat_entry}
use Rattle.mt_regs.specs.RegisterFile.{page_count}
use Rattle.mt_tlb.specs.declared.entry.Entry.{Entry}
use Rattle.mt_tlb.specs.declared.mapping.Mapping.{Mapping}
use Rattle.mt_tlb.specs.Entries.{add_entry, find_entry, find_mapping, is_mapped, maps_page}
use Rattle.mt_machine.specs.System.{Processor}
use Rattle.mt_machine.specs.Access.{entry_of, keep_entry, new_entry}
use Rattle.mt_cpu.specs.Facts.{KeepsFacts}
use Rattle.mt_cpu.specs.Kinds.{AgreesWith, entry_by, new_entry_by}

abbrev pub page_of_entry : Entry → ℕ
page_of_entry e = e.vpage

abbrev pub page_of_mapping : Mapping → ℕ
page_of_mapping m = m.vpage

is_mapped_by : (page : ℕ) (ms : List Mapping) (o : Option Mapping) → find_mapping page ms ≡ o → is_mapped page ms ≡ is_some o
is_mapped_by page ms o at = any_find (maps_page page) ms ∙ ap (λ (x : Option Mapping). is_some x) at

and_false : (a b : Bool) → b ≡ false → (a && b) ≡ false
and_false true b h = h
and_false false b h = refl

-- what a list's element is past the end of the list
abbrev no_entry : Entry
no_entry = record { vpage = 0; ppage = 0; kind = UC; global = false; era = 0 }

-- with the types of a table
module _ (kinds : ℕ → MemType) where
  -- ---- an entry is made

  pub record Made (p : Processor) (page : ℕ) (e : Entry) : Type 0 where
    pub is : Some e ≡ option_map (new_entry_by kinds p) (find_mapping page p.mappings)
    pub page_is : e.vpage ≡ page
    pub local : p.page_global ≡ false → e.global ≡ false
    pub mapped : IsTrue (is_mapped e.vpage p.mappings)
    pub physical : e.ppage < page_count p.file

  pub made : (p : Processor) (page i : ℕ) (d : Mapping) (shown : List Mapping) (e : Entry) → KeepsFacts p → i < length p.mappings → slice_get p.mappings i ≡ find_mapping page p.mappings → shown ≡ p.mappings → e ≡ new_entry_by kinds p (get_or shown i d) → Made p page e
  made p page i d shown e facts within at same is = record {
    is = ap (λ (x : Entry). Some x) made_of ∙ sym (ap (option_map (new_entry_by kinds p)) found);
    page_is = page_is;
    local = λ off. ap (λ (x : Entry). x.global) made_of ∙ and_false m.global p.page_global off;
    mapped = ap (λ n. is_mapped n p.mappings) page_is ∙ is_mapped_by page p.mappings (Some m) found;
    physical = subst (λ (x : Entry). x.ppage < page_count p.file) (sym made_of) (facts.mapped_pages i d within);
  }
    where
      m : Mapping
      m = get_or p.mappings i d

      found : find_mapping page p.mappings ≡ Some m
      found = sym at ∙ slice_get-get_or p.mappings i d within

      made_of : e ≡ new_entry_by kinds p m
      made_of = is ∙ ap (λ (ms : List Mapping). new_entry_by kinds p (get_or ms i d)) same

      page_is : e.vpage ≡ page
      page_is = ap (λ (x : Entry). x.vpage) made_of ∙ found_key page_of_mapping page p.mappings m found

  -- now is what p is seen as
  pub made_now : (p now : Processor) (page i : ℕ) (d : Mapping) (shown : List Mapping) (e : Entry) → p ≡ now → KeepsFacts p → i < length p.mappings → slice_get p.mappings i ≡ find_mapping page p.mappings → shown ≡ p.mappings → e ≡ new_entry_by kinds now (get_or shown i d) → Made p page e
  made_now p now page i d shown e seen facts within at same is =
      made p page i d shown e facts within at same (subst (λ (q : Processor). e ≡ new_entry_by kinds q (get_or shown i d)) (sym seen) is)

  -- ---- the page has an entry

  pub record Stands (p : Processor) (page : ℕ) (e : Entry) : Type 0 where
    pub is : Some e ≡ entry_by kinds p page
    pub after : p ≡ option_map_or (λ (x : Entry). keep_entry x p) (entry_by kinds p page) p
    pub mapped : find_mapping page p.mappings ≡ None → ⊥
    pub physical : e.ppage < page_count p.file

  pub stands : (p : Processor) (page i : ℕ) → KeepsFacts p → i < length p.entries → slice_get p.entries i ≡ find_entry page p.entries → Stands p page (get_or p.entries i no_entry)
  stands p page i facts within at = record {
    is = there;
    after = sym (ap (λ (o : Option Entry). option_map_or (λ (x : Entry). keep_entry x p) o p) (sym there)
        ∙ ap (λ (o : Option Entry). if is_some o then p else record p { entries = add_entry e p.entries }) (ap (λ n. find_entry n p.entries) page_is ∙ found));
    mapped = λ none. clash (sym (is_mapped_by page p.mappings None none) ∙ mapped_page);
    physical = facts.entry_pages i no_entry within;
  }
    where
      e : Entry
      e = get_or p.entries i no_entry

      clash : false ≡ true → ⊥
      clash h = absurd (cc)

      found : find_entry page p.entries ≡ Some e
      found = sym at ∙ slice_get-get_or p.entries i no_entry within

      page_is : e.vpage ≡ page
      page_is = found_key page_of_entry page p.entries e found

      there : Some e ≡ entry_by kinds p page
      there = sym (ap (λ (o : Option Entry). option_map_or Some o (option_map (new_entry_by kinds p) (find_mapping page p.mappings))) found)

      mapped_page : is_mapped page p.mappings ≡ true
      mapped_page = ap (λ n. is_mapped n p.mappings) (sym page_is) ∙ facts.mapped i no_entry within

  -- ---- the page has none

  pub entry_made : (p : Processor) (page : ℕ) → find_entry page p.entries ≡ None → option_map (new_entry_by kinds p) (find_mapping page p.mappings) ≡ entry_by kinds p page
  entry_made p page none = sym (ap (λ (o : Option Entry). option_map_or Some o (option_map (new_entry_by kinds p) (find_mapping page p.mappings))) none)

  made_page : (p : Processor) (page : ℕ) (e : Entry) (o : Option Mapping) → find_mapping page p.mappings ≡ o → option_map (new_entry_by kinds p) o ≡ Some e → e.vpage ≡ page
  made_page p page e None at is = absurd (cc)
  made_page p page e (Some m) at is =
      let s : new_entry_by kinds p m ≡ e = cc in
      ap (λ (x : Entry). x.vpage) (sym s) ∙ found_key page_of_mapping page p.mappings m at

  pub kept_made : (p after : Processor) (page : ℕ) (o : Option Entry) → find_entry page p.entries ≡ None → o ≡ option_map (new_entry_by kinds p) (find_mapping page p.mappings) → IfSome o (λ e. after ≡ record p { entries = add_entry e p.entries }) → IfNone o (after ≡ p) → after ≡ option_map_or (λ (x : Entry). keep_entry x p) (entry_by kinds p page) p
  kept_made p after page (Some e) none is filled kept =
      filled
      ∙ sym (ap (λ (o : Option Entry). option_map_or (λ (x : Entry). keep_entry x p) o p) (sym (is ∙ entry_made p page none))
      ∙ ap (λ (o : Option Entry). if is_some o then p else record p { entries = add_entry e p.entries }) (ap (λ n. find_entry n p.entries) (made_page p page e _ refl (sym is)) ∙ none))
  kept_made p after page None none is filled kept =
      kept ∙ sym (ap (λ (o : Option Entry). option_map_or (λ (x : Entry). keep_entry x p) o p) (sym (is ∙ entry_made p page none)))

-- ---- a table that agrees with the file

found_all : {X : Type 0} (P : X → Type 0) (test : X → Bool) (xs : List X) (x : X) → All P xs → find test xs ≡ Some x → P x
found_all P test [] x all at = absurd (cc)
found_all {X} P test (y ∷ ys) x all at = one (test y) at (found_all P test ys x (All-tail P y ys all))
  where
    one : (b : Bool) → (if b then Some y else find test ys) ≡ Some x → (find test ys ≡ Some x → P x) → P x
    one true e later = subst P (let same : y ≡ x = cc in same) (All-head P y ys all)
    one false e later = later e

made_same : (kinds : ℕ → MemType) (p : Processor) (m : Mapping) → AgreesWith kinds p.file → m.ppage < page_count p.file → new_entry_by kinds p m ≡ new_entry p m
made_same kinds p m agrees within =
    ap (λ (t : MemType). record { vpage = m.vpage; ppage = m.ppage; kind = effective_type t (pat_entry p.file.pat m.index); global = m.global && p.page_global; era = p.era }) (agrees m.ppage within)

-- the entry is the machine's
pub entry_same : (kinds : ℕ → MemType) (p : Processor) (page : ℕ) → AgreesWith kinds p.file → All (λ m. m.ppage < page_count p.file) p.mappings → entry_by kinds p page ≡ entry_of p page
entry_same kinds p page agrees pages = ap (λ (o : Option Entry). option_map_or Some (find_entry page p.entries) o) (one (find_mapping page p.mappings) refl)
  where
    one : (o : Option Mapping) → find_mapping page p.mappings ≡ o → option_map (new_entry_by kinds p) o ≡ option_map (new_entry p) o
    one None at = refl
    one (Some m) at = ap (λ (e : Entry). Some e) (made_same kinds p m agrees (found_all (λ (x : Mapping). x.ppage < page_count p.file) (maps_page page) p.mappings m pages at))
