-- Lists of TLB entries, the oldest first, and of mappings, in the order in which their pages were first mapped (own).
use Rattle.std.specs.Prelude.{◌≢◌, ℕ, ◌==◌, Bool, not, ◌&&◌, List, [], ◌∷◌, ◌++◌, map, length, drop, if◌then◌else◌, Option}
use Rattle.std.specs.List.{AllPairs, filter, find, list_any}
use Rattle.mt_tlb.specs.declared.entry.Entry.{Entry}
use Rattle.mt_tlb.specs.declared.mapping.Mapping.{Mapping}

abbrev pub has_page : ℕ → Entry → Bool
has_page page e = e.vpage == page

abbrev pub maps_page : ℕ → Mapping → Bool
maps_page page m = m.vpage == page

abbrev pub find_entry : ℕ → List Entry → Option Entry
find_entry page es = find (has_page page) es

abbrev pub find_mapping : ℕ → List Mapping → Option Mapping
find_mapping page ms = find (maps_page page) ms

-- no two entries, and no two mappings, have one page
abbrev pub AreEntriesApart : List Entry → Type 0
AreEntriesApart es = AllPairs (λ a b. a.vpage ≢ b.vpage) es

abbrev pub AreMappingsApart : List Mapping → Type 0
AreMappingsApart ms = AllPairs (λ a b. a.vpage ≢ b.vpage) ms

-- where 64 entries stand the oldest is dropped
abbrev pub add_entry : Entry → List Entry → List Entry
add_entry e es = (if length es == 64 then drop 1 es else es) ++ e ∷ []

abbrev pub without_page : ℕ → List Entry → List Entry
without_page page es = filter (λ e. not (has_page page e)) es

abbrev pub global_entries : List Entry → List Entry
global_entries es = filter (λ e. e.global) es

abbrev pub is_mapped : ℕ → List Mapping → Bool
is_mapped page ms = list_any (maps_page page) ms

-- the mapping of that page is replaced in its place, or added at the end
abbrev pub set_mapping : Mapping → List Mapping → List Mapping
set_mapping m ms = if is_mapped m.vpage ms then map (λ x. if maps_page m.vpage x then m else x) ms else ms ++ m ∷ []

-- the page has no mapping, and 64 others stand
abbrev pub is_full_for : Mapping → List Mapping → Bool
is_full_for m ms = not (is_mapped m.vpage ms) && (length ms == 64)
