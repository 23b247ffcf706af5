-- What accesses leave right, and what a processor does by itself: lines and buffers of the pages that their entries translate to, and these entries.
use Rattle.std.proofs.Common.{◌≡◌, ◌∙◌, ap, refl, sym, subst, arith, ℕ, zero, suc, ◌+◌, ◌*◌, ◌/◌, ◌%◌, Bool, true, false, List, [], ◌∷◌, ◌++◌, drop, length, Option, None, Some}
use Rattle.std.specs.Prelude.{◌==◌, not, ◌&&◌, ◌||◌, if◌then◌else◌, is_some, map, slice_get, slice_index, slice_set}
use Rattle.std.specs.List.{find, fold, list_all, list_any}
use Rattle.std.specs.Option.{option_map, option_map_or}
use Rattle.std.proofs.lemmas.Bool.{eq-eqb, eqb-true}
use Rattle.mt_kinds.specs.Sizes.{page_bytes}
use Rattle.mt_kinds.specs.declared.mem_type.MemType.{MemType}
use Rattle.mt_kinds.specs.declared.mem_type.MemType.TheVariants.{UC, WC, WT, WP, WB}
use Rattle.mt_kinds.specs.Types.{byte_of_type}
use Rattle.mt_regs.specs.PageTypes.{is_type}
use Rattle.mt_cache.specs.declared.line.CacheLine.{CacheLine}
use Rattle.mt_cache.specs.Lines.{change_line, clean_line, combined_with, find_line, has_number, oldest_of_full, set_bit, without_line, write_clean, write_dirty}
use Rattle.mt_tlb.specs.Entries.{add_entry, find_entry, find_mapping, maps_page}
use Rattle.mt_tlb.specs.declared.entry.Entry.{Entry}
use Rattle.mt_tlb.specs.declared.mapping.Mapping.{Mapping}
use Rattle.mt_machine.specs.declared.phase.Phase.{Phase}
use Rattle.mt_machine.specs.declared.phase.Phase.TheVariants.{Running}
use Rattle.mt_machine.specs.declared.done.Done.TheVariants.{NoRam, Stored, Unmapped}
use Rattle.mt_machine.specs.declared.op.Op.{Op}
use Rattle.mt_machine.specs.declared.op.Op.TheVariants.{Fence, Load, Store}
use Rattle.mt_machine.specs.Access.{Answered, access_at, cache_disabled_of, entry_of, first_of_load, is_running, first_of_store, hit_of, is_cached, keep_entry, load, load_after, new_entry, physical, store, store_after, store_filling, store_hit, store_past, translated, value_answer}
use Rattle.mt_machine.specs.Bus.{bus_read, combine, drain, drain_line, empty_buffer, fill_line, invalidate, invalidate_others, make_buffer_room, make_room, others_from, with_buffers, with_lines, write_back_others}
use Rattle.mt_machine.specs.Memory.{Memory, fresh_line, line_of, place, word_at, word_of}
use Rattle.mt_machine.specs.System.{Processor, System, buffers_of, change, lines_of}
use Rattle.mt_laws.proofs.Barrier.Ranks.{and_left, and_right}
use Rattle.mt_laws.proofs.Barrier.Stages.{stage_of, stages_of}
use Rattle.mt_laws.proofs.Clearing.Follows.{all_append, all_drop, all_filter}
use Rattle.mt_procedure.specs.declared.moves.Outcome.TheVariants.{Accessed}
use Rattle.mt_procedure.specs.declared.step.ProcedureStep.TheVariants.{Access}
use Rattle.mt_search.specs.declared.wrong.Fault.TheVariants.{OldType}
use Rattle.mt_search.specs.declared.wrong.Kept.{Kept}
use Rattle.mt_search.specs.declared.wrong.Kept.TheVariants.{Buffer, CleanLine, DirtyLine}
use Rattle.mt_procedure.specs.Speculation.{filled, may_fill, physical_line, with_fetch, with_translation}
use Rattle.mt_search.specs.Wrongs.{allows, fault_with, made_entry, old_type, page_of}
use Rattle.mt_judge_laws.proofs.Held.{AreRight, HoldsRight, allows_held, bare, both, clean_held, cleaned_is_held, cleared_is_held, has_old_entries, has_old_lines, is_flushed, is_made, kind_by, may_hold, or_last, re_right, right_buffer, right_entry, right_line, view}

-- ---- what a processor holds, held against another one's registers

-- what the entries pass that a processor's registers make
abbrev pub AllMade : Processor → (Entry → Bool) → Type 0
AllMade v test = (page : ℕ) (m : Mapping) → find_mapping page v.mappings ≡ Some m → test (new_entry v m) ≡ true

-- an entry is one that the processor has or one that its registers make, so it passes what these pass
abbrev pub IsFrom : Processor → Entry → Type 0
IsFrom v e = (test : Entry → Bool) → AllMade v test → list_all test v.entries ≡ true → test e ≡ true

abbrev pub AreFrom : Processor → List Entry → Type 0
AreFrom v es = (test : Entry → Bool) → AllMade v test → list_all test v.entries ≡ true → list_all test es ≡ true

-- all but what it holds is the same, and what it holds is right
pub record Keeps (v q : Processor) : Type 0 where
  pub same : bare q ≡ bare v
  pub right : AreRight (view v) q.lines q.buffers q.entries
  pub from : AreFrom v q.entries

abbrev pub AllKeep : List Processor → List Processor → Type 0
AllKeep [] [] = Unit {0}
AllKeep (v ∷ vs) (p ∷ ps) = Keeps v p × AllKeep vs ps
AllKeep vs ps = ⊥

pub kept_at : (vs ps : List Processor) (j : ℕ) (q : Processor) → AllKeep vs ps → slice_get ps j ≡ Some q → (v : Processor) × (slice_get vs j ≡ Some v) × Keeps v q
kept_at [] [] j q all at = absurd (cc)
kept_at [] (p ∷ ps) j q all at = absurd all
kept_at (v ∷ vs) [] j q all at = absurd all
kept_at (v ∷ vs) (p ∷ ps) zero q all at = (v, refl, subst (Keeps v) (let e : p ≡ q = cc in e) all.0)
kept_at (v ∷ vs) (p ∷ ps) (suc j) q all at = kept_at vs ps j q all.1 at

pub kept_stages : (vs ps : List Processor) → AllKeep vs ps → stages_of ps ≡ stages_of vs
kept_stages [] [] all = refl
kept_stages [] (p ∷ ps) all = absurd all
kept_stages (v ∷ vs) [] all = absurd all
kept_stages (v ∷ vs) (p ∷ ps) all = λ i. stage_of (all.0.same i) ∷ kept_stages vs ps all.1 i

pub keep_each : (ps : List Processor) → ((j : ℕ) (p : Processor) → slice_get ps j ≡ Some p → HoldsRight p) → AllKeep ps ps
keep_each [] right = tt
keep_each (p ∷ ps) right = (record { same = refl; right = right 0 p refl; from = λ test each old. old }, keep_each ps (λ j q at. right (suc j) q at))

abbrev KeptBy : (Processor → Processor) → Type 0
KeptBy f = (v p : Processor) → Keeps v p → Keeps v (f p)

keep_map : (f : Processor → Processor) → KeptBy f → (vs ps : List Processor) → AllKeep vs ps → AllKeep vs (map f ps)
keep_map f kept [] [] all = all
keep_map f kept [] (p ∷ ps) all = absurd all
keep_map f kept (v ∷ vs) [] all = absurd all
keep_map f kept (v ∷ vs) (p ∷ ps) all = (kept v p all.0, keep_map f kept vs ps all.1)

keep_but : (f : Processor → Processor) → KeptBy f → (n k : ℕ) (vs ps : List Processor) → AllKeep vs ps → AllKeep vs (others_from n k f ps)
keep_but f kept n k [] [] all = all
keep_but f kept n k [] (p ∷ ps) all = absurd all
keep_but f kept n k (v ∷ vs) [] all = absurd all
keep_but f kept n k (v ∷ vs) (p ∷ ps) all = (one (n == k), keep_but f kept (n + 1) k vs ps all.1)
  where
    one : (b : Bool) → Keeps v (if b then p else f p)
    one true = all.0
    one false = kept v p all.0

-- the processor at k is held against this one
module _ (own : Processor) (f : Processor → Processor) (kept : (p : Processor) → Keeps own p → Keeps own (f p)) where
  keep_put : (vs ps : List Processor) (k : ℕ) (p : Processor) → slice_get vs k ≡ Some own → slice_get ps k ≡ Some p → AllKeep vs ps → AllKeep vs (slice_set ps k (f p))
  keep_put [] [] k p own_at at all = absurd (cc)
  keep_put [] (x ∷ ps) k p own_at at all = absurd all
  keep_put (v ∷ vs) [] k p own_at at all = absurd all
  keep_put (v ∷ vs) (x ∷ ps) zero p own_at at all =
      let same : own ≡ v = cc in
      let is : x ≡ p = cc in
      (subst (λ (w : Processor). Keeps w (f p)) same (kept p (subst (Keeps own) is (subst (λ (w : Processor). Keeps w x) (sym same) all.0))), all.1)
  keep_put (v ∷ vs) (x ∷ ps) (suc k) p own_at at all = (all.0, keep_put vs ps k p own_at at all.1)

module _ (vs : List Processor) (k : ℕ) (own : Processor) (at_own : slice_get vs k ≡ Some own) where
  keep_change : (f : Processor → Processor) → ((p : Processor) → Keeps own p → Keeps own (f p)) → (s : System) → AllKeep vs s.processors → AllKeep vs (change f k s).processors
  keep_change f kept s all = one (slice_get s.processors k) refl
    where
      one : (x : Option Processor) → slice_get s.processors k ≡ x → AllKeep vs (option_map_or (λ p. record s { processors = slice_set s.processors k (f p) }) x s).processors
      one None at = all
      one (Some p) at = keep_put own f kept vs s.processors k p at_own at all

-- ---- lines and buffers

abbrev LinesRight : Processor → List CacheLine → Type 0
LinesRight v ls = list_all (right_line (view v)) ls ≡ true

with_right_lines : (v p : Processor) (f : List CacheLine → List CacheLine) → (LinesRight v p.lines → LinesRight v (f p.lines)) → Keeps v p → Keeps v (with_lines f p)
with_right_lines v p f kept h = record { same = h.same; right = record { right_lines = kept h.right.right_lines; right_buffers = h.right.right_buffers; right_entries = h.right.right_entries }; from = h.from }

with_right_buffers : (v p : Processor) (f : List CacheLine → List CacheLine) → (list_all (right_buffer (view v)) p.buffers ≡ true → list_all (right_buffer (view v)) (f p.buffers) ≡ true) → Keeps v p → Keeps v (with_buffers f p)
with_right_buffers v p f kept h = record { same = h.same; right = record { right_lines = h.right.right_lines; right_buffers = kept h.right.right_buffers; right_entries = h.right.right_entries }; from = h.from }

pub all_changed : (test : CacheLine → Bool) (n : ℕ) (f : CacheLine → CacheLine) → ((l : CacheLine) → l.number ≡ n → test l ≡ true → test (f l) ≡ true) → (ls : List CacheLine) → list_all test ls ≡ true → list_all test (change_line n f ls) ≡ true
all_changed test n f kept [] h = h
all_changed test n f kept (l ∷ ls) h = both _ _ (one (has_number n l) refl) (all_changed test n f kept ls (and_right (test l) _ h))
  where
    one : (b : Bool) → has_number n l ≡ b → test (if b then f l else l) ≡ true
    one true is = kept l (eqb-true l.number n is) (and_left _ _ h)
    one false is = and_left _ _ h

cleaned : (n : ℕ) → KeptBy (with_lines (change_line n clean_line))
cleaned n v p = with_right_lines v p (change_line n clean_line) (all_changed (right_line (view v)) n clean_line (λ l is h. cleaned_is_held (view v) l.dirty (page_of l) h) p.lines)

dropped : (n : ℕ) → KeptBy (with_lines (without_line n))
dropped n v p = with_right_lines v p (without_line n) (all_filter (right_line (view v)) (λ l. not (has_number n l)) p.lines)

module _ (vs : List Processor) where
  keep_read : (n : ℕ) (s : System) → AllKeep vs s.processors → AllKeep vs (bus_read n s).processors
  keep_read n s all = keep_map (with_lines (change_line n clean_line)) (cleaned n) vs s.processors all

  keep_invalidate : (n : ℕ) (s : System) → AllKeep vs s.processors → AllKeep vs (invalidate n s).processors
  keep_invalidate n s all = keep_map (with_lines (without_line n)) (dropped n) vs s.processors all

  keep_others : (k n : ℕ) (s : System) → AllKeep vs s.processors → AllKeep vs (invalidate_others k n s).processors
  keep_others k n s all = keep_but (with_lines (without_line n)) (dropped n) 0 k vs s.processors all

  keep_empty : (s : System) (b : CacheLine) → AllKeep vs s.processors → AllKeep vs (empty_buffer s b).processors
  keep_empty s b all = keep_invalidate b.number (bus_read b.number s) (keep_read b.number s all)

  keep_empty_all : (bs : List CacheLine) (s : System) → AllKeep vs s.processors → AllKeep vs (fold empty_buffer s bs).processors
  keep_empty_all [] s all = all
  keep_empty_all (b ∷ bs) s all = keep_empty_all bs (empty_buffer s b) (keep_empty s b all)

-- ---- one processor's operations

abbrev KeepsAll : List Processor → System → System → Type 0
KeepsAll vs s t = AllKeep vs s.processors → AllKeep vs t.processors

module _ (vs : List Processor) (k : ℕ) (own : Processor) (at_own : slice_get vs k ≡ Some own) where
  abbrev Kept' : System → System → Type 0
  Kept' s t = KeepsAll vs s t

  keep_option : {X : Type 0} → (x : Option X) (f : X → System) (s d : System) → Kept' s d → ((y : X) → Kept' s (f y)) → Kept' s (option_map_or f x d)
  keep_option None f s d none some = none
  keep_option (Some y) f s d none some = some y

  keep_if : (b : Bool) (s x y : System) → Kept' s x → Kept' s y → Kept' s (if b then x else y)
  keep_if true s x y a c = a
  keep_if false s x y a c = c

  without_buffer : (n : ℕ) (s : System) → Kept' s (change (with_buffers (without_line n)) k s)
  without_buffer n s =
      keep_change vs k own at_own (with_buffers (without_line n)) (λ p. with_right_buffers own p (without_line n) (all_filter (right_buffer (view own)) (λ l. not (has_number n l)) p.buffers)) s

  pub keep_drain : (s : System) → Kept' s (drain k s)
  keep_drain s all =
      keep_change vs k own at_own (with_buffers (λ _. [])) (λ p. with_right_buffers own p (λ _. []) (λ h. refl)) (fold empty_buffer s (buffers_of s k))
      (keep_empty_all vs (buffers_of s k) s all)

  keep_drain_line : (n : ℕ) (s : System) → Kept' s (drain_line k n s)
  keep_drain_line n s = keep_option (find_line n (buffers_of s k)) _ s s (λ all. all) (λ b all. without_buffer n (empty_buffer s b) (keep_empty vs s b all))

  keep_room : (s : System) → Kept' s (make_room k s)
  keep_room s =
      keep_option (oldest_of_full 64 (lines_of s k)) _ s s (λ all. all)
      (λ l. keep_change vs k own at_own (with_lines (without_line l.number)) (λ p. dropped l.number own p) (record s { memory = _ }))

  keep_buffer_room : (n : ℕ) (s : System) → Kept' s (make_buffer_room k n s)
  keep_buffer_room n s =
      keep_if (is_some (find_line n (buffers_of s k))) s s _ (λ all. all)
      (keep_option (oldest_of_full 4 (buffers_of s k)) _ s s (λ all. all) (λ b all. without_buffer b.number (empty_buffer s b) (keep_empty vs s b all)))

  -- a line of this number may be clean, dirty, or a buffer's
  abbrev May : Kept → ℕ → Type 0
  May what n = may_hold (view own) what (n / 64) ≡ true

  keep_fill : (n : ℕ) (s : System) → May CleanLine n → Kept' s (fill_line k n s)
  keep_fill n s may all =
      keep_change vs k own at_own (λ p. record p { lines = p.lines ++ fresh_line (make_room k s).memory n p.era ∷ [] })
      (λ p. with_right_lines own p (λ ls. ls ++ fresh_line (make_room k s).memory n p.era ∷ []) (λ h. all_append (right_line (view own)) p.lines _ h (both (may_hold (view own) CleanLine (n / 64)) true may refl)))
      (make_room k s) (keep_room s all)

  combined : is_running own.phase ≡ true → (n word value era : ℕ) (bs : List CacheLine) → May Buffer n → list_all (right_buffer (view own)) bs ≡ true → list_all (right_buffer (view own)) (combined_with n word value era bs) ≡ true
  combined runs n word value era bs may h = one (is_some (find_line n bs))
    where
      one : (b : Bool)
          → list_all (right_buffer (view own))
          (if b then change_line n (write_dirty word value) bs else bs ++ write_dirty word value (record { number = n; words = 0 ∷ 0 ∷ 0 ∷ 0 ∷ 0 ∷ 0 ∷ 0 ∷ 0 ∷ []; dirty = 0; era = era }) ∷ [])
          ≡ true
      one true = all_changed (right_buffer (view own)) n (write_dirty word value) (λ l is g. g) bs h
      one false = all_append (right_buffer (view own)) bs _ h (both (is_running own.phase && may_hold (view own) Buffer (n / 64)) true (both (is_running own.phase) _ runs may) refl)

  keep_combine : is_running own.phase ≡ true → (n word value : ℕ) (s : System) → May Buffer n → Kept' s (combine k n word value s)
  keep_combine runs n word value s may all =
      let joined : System = change (λ p. record p { buffers = combined_with n word value p.era p.buffers }) k (make_buffer_room k n s) in
      let joins : AllKeep vs joined.processors =
      keep_change vs k own at_own (λ p. record p { buffers = combined_with n word value p.era p.buffers })
      (λ p. with_right_buffers own p (combined_with n word value p.era) (combined runs n word value p.era p.buffers may))
      (make_buffer_room k n s) (keep_buffer_room n s all) in
      keep_option (find_line n (buffers_of joined k)) _ joined joined (λ h. h)
      (λ b. keep_if (b.dirty == 0xff) joined (drain_line k n joined) joined (keep_drain_line n joined) (λ h. h)) joins

  written_dirty : (n word value : ℕ) → May DirtyLine n → (l : CacheLine) → l.number ≡ n → right_line (view own) (write_dirty word value l) ≡ true
  written_dirty n word value may l is = one (set_bit l.dirty word == 0)
    where
      here : may_hold (view own) DirtyLine (page_of l) ≡ true
      here = ap (λ m. may_hold (view own) DirtyLine (m / 64)) is ∙ may

      one : (b : Bool) → may_hold (view own) (if b then CleanLine else DirtyLine) (page_of l) ≡ true
      one true = clean_held (view own) (page_of l) here
      one false = here

  keep_dirty : (n word value : ℕ) (s : System) → May DirtyLine n → Kept' s (change (with_lines (change_line n (write_dirty word value))) k s)
  keep_dirty n word value s may =
      keep_change vs k own at_own (with_lines (change_line n (write_dirty word value)))
      (λ p. with_right_lines own p (change_line n (write_dirty word value)) (all_changed (right_line (view own)) n (write_dirty word value) (λ l is h. written_dirty n word value may l is) p.lines)) s

  keep_clean : (n word value : ℕ) (s : System) → Kept' s (change (with_lines (change_line n (write_clean word value))) k s)
  keep_clean n word value s =
      keep_change vs k own at_own (with_lines (change_line n (write_clean word value)))
      (λ p. with_right_lines own p (change_line n (write_clean word value)) (all_changed (right_line (view own)) n (write_clean word value) (λ l is h. cleared_is_held (view own) word l.dirty (page_of l) h) p.lines)) s

  -- ---- loads and stores of a page to which the registers give this type

  abbrev loaded : ℕ → System → ℕ → System → Option CacheLine → ℕ × System
  loaded address s value missed x = option_map_or (λ l. (slice_index l.words (word_of address), s)) x (value, missed)

  abbrev pub Gives : MemType → ℕ → Type 0
  Gives t n = (what : Kept) → allows what t ≡ true → May what n

  keep_first_load : (t : MemType) (n : ℕ) (s : System) → Kept' s (first_of_load t k n s)
  keep_first_load UC n s = keep_drain s
  keep_first_load WC n s = keep_drain_line n s
  keep_first_load WT n s = keep_drain_line n s
  keep_first_load WP n s = keep_drain_line n s
  keep_first_load WB n s = keep_drain_line n s

  keep_first_store : (t : MemType) (n : ℕ) (s : System) → Kept' s (first_of_store t k n s)
  keep_first_store UC n s = keep_drain s
  keep_first_store WC n s = λ all. all
  keep_first_store WT n s = keep_drain_line n s
  keep_first_store WP n s = keep_drain_line n s
  keep_first_store WB n s = keep_drain_line n s

  keep_load_after : (t : MemType) (address : ℕ) (s : System) → Gives t (line_of address) → Kept' s (load_after t k address s).1
  keep_load_after t address s gives = hit (hit_of t k (line_of address) s)
    where
      fills : (c d : Bool) → is_cached t ≡ c → Kept' s (if c && d then fill_line k (line_of address) (bus_read (line_of address) s) else bus_read (line_of address) s)
      fills true true is all = keep_fill (line_of address) (bus_read (line_of address) s) (gives CleanLine is) (keep_read vs (line_of address) s all)
      fills true false is all = keep_read vs (line_of address) s all
      fills false d is all = keep_read vs (line_of address) s all

      hit : (x : Option CacheLine) → Kept' s (loaded address s (word_at (bus_read (line_of address) s).memory address) (if is_cached t && not (cache_disabled_of s k) then fill_line k (line_of address) (bus_read (line_of address) s) else bus_read (line_of address) s) x).1
      hit None = fills (is_cached t) (not (cache_disabled_of s k)) refl
      hit (Some l) = λ all. all

  keep_load : (t : MemType) (address : ℕ) (s : System) → Gives t (line_of address) → Kept' s (load t k address s).1
  keep_load t address s gives all =
      keep_load_after t address (first_of_load t k (line_of address) s) gives (keep_first_load t (line_of address) s all)

  keep_past : (address value : ℕ) (s : System) → Kept' s (store_past k address value s)
  keep_past address value s all = keep_others vs k (line_of address) (bus_read (line_of address) s) (keep_read vs (line_of address) s all)

  keep_uncached : (address value : ℕ) (s : System) → Kept' s (invalidate (line_of address) (bus_read (line_of address) s))
  keep_uncached address value s all = keep_invalidate vs (line_of address) (bus_read (line_of address) s) (keep_read vs (line_of address) s all)

  keep_store_after : is_running own.phase ≡ true → (t : MemType) (address value : ℕ) (s : System) → Gives t (line_of address) → Kept' s (store_after t k address value s)
  keep_store_after runs UC address value s gives = keep_uncached address value s
  keep_store_after runs WC address value s gives = keep_combine runs (line_of address) (word_of address) value s (gives Buffer refl)
  keep_store_after runs WT address value s gives =
      λ all. keep_clean (line_of address) (word_of address) value (store_past k address value s) (keep_past address value s all)
  keep_store_after runs WP address value s gives = keep_uncached address value s
  keep_store_after runs WB address value s gives =
      let n = line_of address in
      keep_if (is_some (find_line n (lines_of s k))) s (store_hit k address value s) _
      (λ all. keep_dirty n (word_of address) value (invalidate_others k n (write_back_others k n s)) (gives DirtyLine refl) (keep_others vs k n (write_back_others k n s) all))
      (keep_if (cache_disabled_of s k) s (store_past k address value s) (store_filling k address value s)
      (keep_past address value s)
      (λ all. keep_dirty n (word_of address) value (fill_line k n (invalidate_others k n (bus_read n s))) (gives DirtyLine refl)
      (keep_fill n (invalidate_others k n (bus_read n s)) (gives CleanLine refl) (keep_others vs k n (bus_read n s) (keep_read vs n s all)))))

  keep_store : is_running own.phase ≡ true → (t : MemType) (address value : ℕ) (s : System) → Gives t (line_of address) → Kept' s (store t k address value s)
  keep_store runs t address value s gives all =
      keep_store_after runs t address value (first_of_store t k (line_of address) s) gives (keep_first_store t (line_of address) s all)

-- ---- entries

find_all : {X : Type 0} → (test chosen : X → Bool) (xs : List X) (x : X) → list_all test xs ≡ true → find chosen xs ≡ Some x → test x ≡ true
find_all test chosen [] x all h = absurd (cc)
find_all test chosen (y ∷ ys) x all h = one (chosen y) h (λ g. find_all test chosen ys x (and_right (test y) _ all) g)
  where
    one : (b : Bool) → (if b then Some y else find chosen ys) ≡ Some x → (find chosen ys ≡ Some x → test x ≡ true) → test x ≡ true
    one true g rest = let e : y ≡ x = cc in ap test (sym e) ∙ and_left _ _ all
    one false g rest = rest g

pub find_any : {X : Type 0} → (test chosen : X → Bool) (xs : List X) (x : X) → find chosen xs ≡ Some x → test x ≡ true → list_any test xs ≡ true
find_any test chosen [] x h passes = absurd (cc)
find_any test chosen (y ∷ ys) x h passes = one (chosen y) h (λ g. find_any test chosen ys x g passes)
  where
    or_true : (a b : Bool) → b ≡ true → (a || b) ≡ true
    or_true true b g = refl
    or_true false b g = g

    first : (a b : Bool) → a ≡ true → (a || b) ≡ true
    first true b g = refl
    first false b g = absurd (cc)

    one : (b : Bool) → (if b then Some y else find chosen ys) ≡ Some x → (find chosen ys ≡ Some x → list_any test ys ≡ true) → list_any test (y ∷ ys) ≡ true
    one true g rest = let e : y ≡ x = cc in first (test y) _ (ap test e ∙ passes)
    one false g rest = or_true (test y) _ (rest g)

pub find_chosen : {X : Type 0} → (chosen : X → Bool) (xs : List X) (x : X) → find chosen xs ≡ Some x → chosen x ≡ true
find_chosen chosen [] x h = absurd (cc)
find_chosen chosen (y ∷ ys) x h = one (chosen y) refl h (find_chosen chosen ys x)
  where
    one : (b : Bool) → chosen y ≡ b → (if b then Some y else find chosen ys) ≡ Some x → (find chosen ys ≡ Some x → chosen x ≡ true) → chosen x ≡ true
    one true is g rest = let e : y ≡ x = cc in ap chosen (sym e) ∙ is
    one false is g rest = rest g

same_kind : (t u : MemType) → is_type t u ≡ true → t ≡ u
same_kind UC UC h = refl
same_kind UC other h = absurd (cc)
same_kind WC WC h = refl
same_kind WC other h = absurd (cc)
same_kind WT WT h = refl
same_kind WT other h = absurd (cc)
same_kind WP WP h = refl
same_kind WP other h = absurd (cc)
same_kind WB WB h = refl
same_kind WB other h = absurd (cc)

pub type_is_own : (t : MemType) → is_type t t ≡ true
type_is_own t = eq-eqb (byte_of_type t) (byte_of_type t) refl

-- the mapping by which an entry is right
pub record MadeBy (v : Processor) (e : Entry) : Type 0 where
  pub mapping : Mapping
  pub is : find_mapping e.vpage v.mappings ≡ Some mapping
  pub page : mapping.ppage ≡ e.ppage
  pub kind : kind_by (view v) mapping ≡ e.kind

pub made_by : (v : Processor) (e : Entry) → is_made (view v) e ≡ true → MadeBy v e
made_by v e h = one (find_mapping e.vpage v.mappings) refl h
  where
    one : (x : Option Mapping) → find_mapping e.vpage v.mappings ≡ x → option_map_or (λ m. (e.ppage == m.ppage) && is_type e.kind (kind_by (view v) m)) x false ≡ true → MadeBy v e
    one None is g = absurd (cc)
    one (Some m) is g = record {
      mapping = m;
      is = is;
      page = sym (eqb-true e.ppage m.ppage (and_left _ _ g));
      kind = sym (same_kind e.kind (kind_by (view v) m) (and_right (e.ppage == m.ppage) _ g));
    }

-- by the registers as they are, once the TLB is flushed
pub made_now : (v : Processor) (e : Entry) → has_old_entries v.phase ≡ false → right_entry (view v) e ≡ true → is_made (view v) e ≡ true
made_now v e new h = ap (λ b. b || is_made (view v) e) (sym new) ∙ and_left _ _ h

-- the registers give the entry's page its type
entry_gives : (v : Processor) (e : Entry) (n : ℕ) → n / 64 ≡ e.ppage → is_flushed v.phase ≡ false → is_made (view v) e ≡ true → (what : Kept) → allows what e.kind ≡ true → may_hold (view v) what (n / 64) ≡ true
entry_gives v e n page unflushed h what may =
    let m = made_by v e h in
    both (not (is_flushed v.phase && not v.self_snoop)) _ (ap (λ b. not (b && not v.self_snoop)) unflushed)
    (find_any (allows_held (view v) what (n / 64)) (maps_page e.vpage) v.mappings m.mapping m.is
    (both (m.mapping.ppage == n / 64) _
    (eq-eqb m.mapping.ppage (n / 64) (m.page ∙ sym page))
    (or_last (has_old_lines v.phase) _ (ap (allows what) m.kind ∙ may))))

page_is : (n address : ℕ) → (4096 * n + address % 4096) / 64 / 64 ≡ n
page_is n address = omega arith

line_page : (n line : ℕ) → (64 * n + line % 64) / 64 ≡ n
line_page n line = omega arith

pub runs_new : (ph : Phase) → is_running ph ≡ true → has_old_entries ph ≡ false
runs_new Running runs = refl
runs_new other runs = absurd (cc)

runs_unflushed : (ph : Phase) → is_running ph ≡ true → is_flushed ph ≡ false
runs_unflushed Running runs = refl
runs_unflushed other runs = absurd (cc)

local_if : (global on : Bool) → (on || not (global && on)) ≡ true
local_if global true = refl
local_if true false = refl
local_if false false = refl

abbrev IsOf : ℕ → Entry → Type 0
IsOf page e = e.vpage ≡ page

-- the entry by which an address is translated is right
pub translation : (p : Processor) (page : ℕ) (e : Entry) → HoldsRight p → entry_of p page ≡ Some e → (right_entry (view p) e ≡ true) × IsOf page e
translation p page e r h = one (find_entry page p.entries) refl h
  where
    mapped : (x : Option Mapping) → find_mapping page p.mappings ≡ x → option_map (new_entry p) x ≡ Some e → (right_entry (view p) e ≡ true) × IsOf page e
    mapped None is g = absurd (cc)
    mapped (Some m) is g =
        let same : new_entry p m ≡ e = cc in
        let key : m.vpage ≡ page = eqb-true m.vpage page (find_chosen (maps_page page) p.mappings m is) in
        let found : find_mapping m.vpage p.mappings ≡ Some m = ap (λ (n : ℕ). find_mapping n p.mappings) key ∙ is in
        let made : is_made (view p) (new_entry p m) ≡ true =
        ap (λ (x : Option Mapping). option_map_or (λ r. (m.ppage == r.ppage) && is_type (new_entry p m).kind (kind_by (view p) r)) x false) found
        ∙ both (m.ppage == m.ppage) _ (eq-eqb m.ppage m.ppage refl) (type_is_own (new_entry p m).kind) in
        let right : right_entry (view p) (new_entry p m) ≡ true =
        both (has_old_entries p.phase || is_made (view p) (new_entry p m)) _ (or_last (has_old_entries p.phase) _ made) (local_if m.global p.page_global) in
        (subst (λ (x : Entry). right_entry (view p) x ≡ true) same right, ap (λ (x : Entry). x.vpage) (sym same) ∙ key)

    one : (x : Option Entry) → find_entry page p.entries ≡ x → option_map_or Some x (option_map (new_entry p) (find_mapping page p.mappings)) ≡ Some e → (right_entry (view p) e ≡ true) × IsOf page e
    one None is g = mapped (find_mapping page p.mappings) refl g
    one (Some x) is g =
        let same : x ≡ e = cc in
        let found : find_entry page p.entries ≡ Some e = is ∙ ap Some same in
        (find_all (right_entry (view p)) (λ y. y.vpage == page) p.entries e r.right_entries found, eqb-true e.vpage page (find_chosen (λ (y : Entry). y.vpage == page) p.entries e found))

-- by the entry that a processor has of a page, or makes of it
from_own : (own q : Processor) (page : ℕ) (e : Entry) → bare q ≡ bare own → AreFrom own q.entries → entry_of q page ≡ Some e → IsFrom own e
from_own own q page e same from h test each old = one (find_entry page q.entries) refl h
  where
    mapped : (x : Option Mapping) → find_mapping page q.mappings ≡ x → option_map (new_entry q) x ≡ Some e → test e ≡ true
    mapped None is g = absurd (cc)
    mapped (Some m) is g =
        let made : new_entry q m ≡ e = cc in
        let there : find_mapping page own.mappings ≡ Some m = ap (λ (x : Processor). find_mapping page x.mappings) (sym same) ∙ is in
        ap test (sym made) ∙ ap (λ (x : Processor). test (new_entry x m)) same ∙ each page m there

    one : (x : Option Entry) → find_entry page q.entries ≡ x → option_map_or Some x (option_map (new_entry q) (find_mapping page q.mappings)) ≡ Some e → test e ≡ true
    one None is g = mapped (find_mapping page q.mappings) refl g
    one (Some x) is g = let there : x ≡ e = cc in find_all test (λ y. y.vpage == page) q.entries e (from test each old) (is ∙ ap Some there)

kept_entry : (own p : Processor) (e : Entry) → right_entry (view own) e ≡ true → IsFrom own e → Keeps own p → Keeps own (keep_entry e p)
kept_entry own p e right made h = one (is_some (find_entry e.vpage p.entries))
  where
    added : (test : Entry → Bool) → test e ≡ true → list_all test p.entries ≡ true → list_all test (add_entry e p.entries) ≡ true
    added test passes old = all_append test _ (e ∷ []) (room (length p.entries == 64)) (both (test e) true passes refl)
      where
        room : (b : Bool) → list_all test (if b then drop 1 p.entries else p.entries) ≡ true
        room true = all_drop test p.entries old
        room false = old

    one : (b : Bool) → Keeps own (if b then p else record p { entries = add_entry e p.entries })
    one true = h
    one false = record {
      same = h.same;
      right = record { right_lines = h.right.right_lines; right_buffers = h.right.right_buffers; right_entries = added (right_entry (view own)) right h.right.right_entries };
      from = λ test each old. added test (made test each old) (h.from test each old);
    }

kept_translation : (own q : Processor) (page : ℕ) → Keeps own q → Keeps own (with_translation page q)
kept_translation own q page h = one (entry_of q page) refl
  where
    one : (x : Option Entry) → entry_of q page ≡ x → Keeps own (option_map_or (λ e. keep_entry e q) x q)
    one None is = h
    one (Some e) is =
        let right : right_entry (view q) e ≡ true = (translation q page e (re_right own q q.lines q.buffers q.entries h.same h.right) is).0 in
        kept_entry own q e (ap (λ (x : Processor). right_entry (view x) e) (sym h.same) ∙ right) (from_own own q page e h.same h.from is) h

-- ---- an access

module _ (vs : List Processor) (k : ℕ) (own : Processor) (at_own : slice_get vs k ≡ Some own) where
  -- an entry that is right, and that the processor has or makes
  abbrev IsOwn : Entry → Type 0
  IsOwn e = (right_entry (view own) e ≡ true) × IsFrom own e

  keep_with_entry : (s : System) (e : Entry) → IsOwn e → KeepsAll vs s (change (keep_entry e) k s)
  keep_with_entry s e right = keep_change vs k own at_own (keep_entry e) (λ p h. kept_entry own p e right.0 right.1 h) s

  keep_answer : (b : Bool) (s : System) (x y : Answered) → KeepsAll vs s x.after → KeepsAll vs s y.after → KeepsAll vs s (if b then x else y).after
  keep_answer true s x y a c = a
  keep_answer false s x y a c = c

  keep_translated : is_running own.phase ≡ true → (s : System) (e : Entry) (op : Op) → is_made (view own) e ≡ true → KeepsAll vs s (translated s k e op).after
  keep_translated runs s e (Load address) made =
      keep_answer (is_some (place s.memory (physical e address))) s _ _
      (keep_load vs k own at_own e.kind (physical e address) s (entry_gives own e (line_of (physical e address)) (page_is e.ppage address) (runs_unflushed own.phase runs) made)) (λ all. all)
  keep_translated runs s e (Store address value) made =
      keep_answer (is_some (place s.memory (physical e address))) s _ _
      (keep_store vs k own at_own runs e.kind (physical e address) value s (entry_gives own e (line_of (physical e address)) (page_is e.ppage address) (runs_unflushed own.phase runs) made)) (λ all. all)
  keep_translated runs s e Fence made = λ all. all

  keep_by_entry : is_running own.phase ≡ true → (s : System) (op : Op) (x : Option Entry) → ((e : Entry) → x ≡ Some e → IsOwn e) → (other : Answered) → KeepsAll vs s other.after
      → KeepsAll vs s (option_map_or (λ e. translated (change (keep_entry e) k s) k e op) x other).after
  keep_by_entry runs s op None right other kept = kept
  keep_by_entry runs s op (Some e) right other kept = λ all.
      keep_translated runs (change (keep_entry e) k s) e op (made_now own e (runs_new own.phase runs) (right e refl).0) (keep_with_entry s e (right e refl) all)

  -- ---- what it does by itself

  keep_filled : (s : System) (line : ℕ) (e : Entry) → IsOwn e → is_flushed own.phase ≡ false → is_made (view own) e ≡ true → is_cached e.kind ≡ true → KeepsAll vs s (filled line k e s)
  keep_filled s line e right unflushed made cached all =
      let n = physical_line e line in
      let entered = keep_with_entry s e right all in
      let drained = keep_drain_line vs k own at_own n (change (keep_entry e) k s) entered in
      let read = keep_read vs n (drain_line k n (change (keep_entry e) k s)) drained in
      keep_fill vs k own at_own n (bus_read n (drain_line k n (change (keep_entry e) k s))) (entry_gives own e n (line_page e.ppage line) unflushed made CleanLine cached) read

own_right : (s : System) (k : ℕ) (p : Processor) → slice_get s.processors k ≡ Some p → AllKeep s.processors s.processors → HoldsRight p
own_right s k p at all =
    let h = kept_at s.processors s.processors k p all at in
    let same : h.0 ≡ p = let e : Some h.0 ≡ Some p = sym h.1 ∙ at in cc in
    subst (λ (v : Processor). AreRight (view v) p.lines p.buffers p.entries) same h.2.right

module _ (s : System) (k : ℕ) (p : Processor) (at : slice_get s.processors k ≡ Some p) (all : AllKeep s.processors s.processors) where
  right_at : (page : ℕ) (e : Entry) → entry_of p page ≡ Some e → (right_entry (view p) e ≡ true) × IsFrom p e
  right_at page e is = ((translation p page e (own_right s k p at all) is).0, from_own p p page e refl (λ test each old. old) is)

  -- an access keeps all right, and so does what a processor does by itself
  pub access_keeps : is_running p.phase ≡ true → (op : Op) → AllKeep s.processors (access_at s k p op).after.processors
  access_keeps runs Fence = keep_drain s.processors k p at s all
  access_keeps runs (Load address) = keep_by_entry s.processors k p at runs s (Load address) (entry_of p (address / page_bytes)) (right_at (address / page_bytes)) _ (λ h. h) all
  access_keeps runs (Store address value) = keep_by_entry s.processors k p at runs s (Store address value) (entry_of p (address / page_bytes)) (right_at (address / page_bytes)) _ (λ h. h) all

  pub translation_keeps : (page : ℕ) → AllKeep s.processors (change (with_translation page) k s).processors
  translation_keeps page = keep_change s.processors k p at (with_translation page) (λ q h. kept_translation p q page h) s all

  pub fetch_keeps : (m : Memory) (line : ℕ) → has_old_entries p.phase ≡ false → is_flushed p.phase ≡ false → option_map_or (may_fill m line p) (entry_of p (line / 64)) false ≡ true → AllKeep s.processors (with_fetch line k s).processors
  fetch_keeps m line new unflushed may =
      subst (λ (x : Option Processor). AllKeep s.processors (option_map_or (λ q. option_map_or (λ e. filled line k e s) (entry_of q (line / 64)) s) x s).processors) (sym at)
      (one (entry_of p (line / 64)) refl may)
    where
      one : (x : Option Entry) → entry_of p (line / 64) ≡ x → option_map_or (may_fill m line p) x false ≡ true → AllKeep s.processors (option_map_or (λ e. filled line k e s) x s).processors
      one None is h = all
      one (Some e) is h =
          let right = right_at (line / 64) e is in
          keep_filled s.processors k p at s line e right unflushed (made_now p e new right.0) (and_left (is_cached e.kind) _ (and_left _ _ h)) all

-- ---- its type is the one that the registers give

old_right : (k address : ℕ) (p : Processor) (e : Entry) → is_running p.phase ≡ true → is_made (view p) e ≡ true → IsOf (address / page_bytes) e → old_type k address e.kind p ≡ None
old_right k address p e runs is_right page =
    let m = made_by p e is_right in
    let made : made_entry p (address / page_bytes) ≡ Some (new_entry p m.mapping) =
    ap (λ (n : ℕ). option_map (new_entry p) (find_mapping n p.mappings)) (sym page) ∙ ap (option_map (new_entry p)) m.is in
    let same : is_type (new_entry p m.mapping).kind e.kind ≡ true = ap (λ (t : MemType). is_type t e.kind) m.kind ∙ type_is_own e.kind in
    ap (λ (b : Bool). if b || not p.cache_disabled then option_map_or (λ f. if is_type f.kind e.kind then None else Some (OldType k address e.kind f.kind)) (made_entry p (address / page_bytes)) None else None) runs
    ∙ ap (λ (x : Option Entry). option_map_or (λ f. if is_type f.kind e.kind then None else Some (OldType k address e.kind f.kind)) x None) made
    ∙ ap (λ (b : Bool). if b then None else Some (OldType k address e.kind (new_entry p m.mapping).kind)) same

abbrev pick : Bool → Answered → Answered → Answered
pick b x y = if b then x else y

module _ (j k : ℕ) (p : Processor) (r : HoldsRight p) (runs : is_running p.phase ≡ true) where
  load_right : (address : ℕ) (s : System) (e : Entry) → entry_of p (address / page_bytes) ≡ Some e → fault_with j (Access (Load address)) (Accessed (translated s k e (Load address)).answer) p ≡ None
  load_right address s e is = one (is_some (place s.memory (physical e address)))
    where
      t : (right_entry (view p) e ≡ true) × IsOf (address / page_bytes) e
      t = translation p (address / page_bytes) e r is

      one : (b : Bool) → fault_with j (Access (Load address)) (Accessed (pick b (value_answer e.kind (load e.kind k (physical e address) s)) (record { answer = NoRam; after = s })).answer) p ≡ None
      one true = old_right j address p e runs (made_now p e (runs_new p.phase runs) t.0) t.1
      one false = refl

  store_right : (address value : ℕ) (s : System) (e : Entry) → entry_of p (address / page_bytes) ≡ Some e → fault_with j (Access (Store address value)) (Accessed (translated s k e (Store address value)).answer) p ≡ None
  store_right address value s e is = one (is_some (place s.memory (physical e address)))
    where
      t : (right_entry (view p) e ≡ true) × IsOf (address / page_bytes) e
      t = translation p (address / page_bytes) e r is

      one : (b : Bool) → fault_with j (Access (Store address value)) (Accessed (pick b (record { answer = Stored e.kind; after = store e.kind k (physical e address) value s }) (record { answer = NoRam; after = s })).answer) p ≡ None
      one true = old_right j address p e runs (made_now p e (runs_new p.phase runs) t.0) t.1
      one false = refl

  pub access_right : (s : System) (op : Op) → fault_with j (Access op) (Accessed (access_at s k p op).answer) p ≡ None
  access_right s Fence = refl
  access_right s (Load address) = one (entry_of p (address / page_bytes)) refl
    where
      one : (x : Option Entry) → entry_of p (address / page_bytes) ≡ x
          → fault_with j (Access (Load address)) (Accessed (option_map_or (λ e. translated (change (keep_entry e) k s) k e (Load address)) x (record { answer = Unmapped; after = s })).answer) p ≡ None
      one None is = refl
      one (Some e) is = load_right address (change (keep_entry e) k s) e is
  access_right s (Store address value) = one (entry_of p (address / page_bytes)) refl
    where
      one : (x : Option Entry) → entry_of p (address / page_bytes) ≡ x
          → fault_with j (Access (Store address value)) (Accessed (option_map_or (λ e. translated (change (keep_entry e) k s) k e (Store address value)) x (record { answer = Unmapped; after = s })).answer) p ≡ None
      one None is = refl
      one (Some e) is = store_right address value (change (keep_entry e) k s) e is
