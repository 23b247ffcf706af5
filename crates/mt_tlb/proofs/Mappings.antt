-- What setting a mapping makes of a list of mappings.
use Rattle.std.proofs.Common.{◌≡◌, ◌≢◌, ℕ, ◌==◌, ◌&&◌, not, List, [], ◌∷◌, ◌++◌, length, set, map, Some, None, Option, true, false, sym, ap, subst, ◌∙◌}
use Rattle.std.specs.Prelude.{if◌then◌else◌, is_some}
use Rattle.std.specs.List.{position, refill}
use Rattle.std.proofs.lemmas.Bool.{eq-eqb, ne_eqb}
use Rattle.mt_tlb.specs.declared.mapping.Mapping.{Mapping}
use Rattle.mt_tlb.specs.Entries.{is_mapped, set_mapping, is_full_for}
use Rattle.mt_lists.proofs.Keys.{to_apart, from_apart, apart_change, apart_push, changed, found_key, any_find, at_position, some_at, after_write}
use Rattle.mt_tlb.specs.Entries.{maps_page, find_mapping, AreMappingsApart}

abbrev pub page_of : Mapping → ℕ
page_of m = m.vpage

unmapped : (page : ℕ) (ms : List Mapping) → find_mapping page ms ≡ None → is_mapped page ms ≡ false
unmapped page ms none = any_find (maps_page page) ms ∙ ap (λ (o : Option Mapping). is_some o) none

-- ---- the page has no mapping

pub full_for : (m : Mapping) (ms : List Mapping) → find_mapping m.vpage ms ≡ None → length ms ≡ 64 → true ≡ is_full_for m ms
full_for m ms none full = sym (ap (λ b. not b && (length ms == 64)) (unmapped m.vpage ms none) ∙ eq-eqb (length ms) 64 full)

pub room_for : (m : Mapping) (ms : List Mapping) → find_mapping m.vpage ms ≡ None → length ms ≢ 64 → false ≡ is_full_for m ms
room_for m ms none free = sym (ap (λ b. not b && (length ms == 64)) (unmapped m.vpage ms none) ∙ ne_eqb (length ms) 64 free)

pub added : (m : Mapping) (ms : List Mapping) → find_mapping m.vpage ms ≡ None → ms ++ m ∷ [] ≡ set_mapping m ms
added m ms none = sym (ap (λ b. if b then map (λ (x : Mapping). if x.vpage == m.vpage then m else x) ms else ms ++ m ∷ []) (unmapped m.vpage ms none))

pub added_apart : (m : Mapping) (ms : List Mapping) → find_mapping m.vpage ms ≡ None → AreMappingsApart ms → AreMappingsApart (ms ++ m ∷ [])
added_apart m ms none apart = from_apart page_of (ms ++ m ∷ []) (apart_push page_of ms m (to_apart page_of ms apart) none)

-- ---- the page has a mapping

mapped_at : (page : ℕ) (ms : List Mapping) (i : ℕ) → position (maps_page page) ms ≡ Some i → is_mapped page ms ≡ true
mapped_at page ms i at =
    let there = some_at (maps_page page) ms i at in
    any_find (maps_page page) ms ∙ ap (λ (o : Option Mapping). is_some o) (sym (at_position (maps_page page) ms i at) ∙ there.1)

pub never_full : (m : Mapping) (ms : List Mapping) (i : ℕ) → position (maps_page m.vpage) ms ≡ Some i → false ≡ is_full_for m ms
never_full m ms i at = sym (ap (λ b. not b && (length ms == 64)) (mapped_at m.vpage ms i at))

replaced_by : (m : Mapping) (ms : List Mapping) (i : ℕ) → position (maps_page m.vpage) ms ≡ Some i → AreMappingsApart ms → set ms i m ≡ map (λ (x : Mapping). if x.vpage == m.vpage then m else x) ms
replaced_by m ms i at apart =
    let there = some_at (maps_page m.vpage) ms i at in
    let page : (there.0).vpage ≡ m.vpage = found_key page_of m.vpage ms there.0 (sym (at_position (maps_page m.vpage) ms i at) ∙ there.1) in
    changed page_of (λ _. m) ms i there.0 (to_apart page_of ms apart) there.1
    ∙ ap (λ page. map (λ (x : Mapping). if x.vpage == page then m else x) ms) page

pub replaced : (m : Mapping) (ms shown : List Mapping) (i : ℕ) → shown ≡ ms → position (maps_page m.vpage) ms ≡ Some i → AreMappingsApart ms → refill (length ms) ms (set shown i m) ≡ set_mapping m ms
replaced m ms shown i same at apart =
    after_write ms shown i m same ∙ replaced_by m ms i at apart
    ∙ sym (ap (λ b. if b then map (λ (x : Mapping). if x.vpage == m.vpage then m else x) ms else ms ++ m ∷ []) (mapped_at m.vpage ms i at))

pub set_apart : (m : Mapping) (ms : List Mapping) (i : ℕ) → position (maps_page m.vpage) ms ≡ Some i → AreMappingsApart ms → AreMappingsApart (set_mapping m ms)
set_apart m ms i at apart =
    let whole : set_mapping m ms ≡ map (λ (x : Mapping). if x.vpage == m.vpage then m else x) ms =
    ap (λ b. if b then map (λ (x : Mapping). if x.vpage == m.vpage then m else x) ms else ms ++ m ∷ []) (mapped_at m.vpage ms i at) in
    subst AreMappingsApart (sym whole)
    (from_apart page_of (map (λ (x : Mapping). if x.vpage == m.vpage then m else x) ms) (apart_change page_of m.vpage (λ _. m) (λ x at. sym at) ms (to_apart page_of ms apart)))
