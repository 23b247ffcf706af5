-- What an access or a control may add to what a processor holds: nothing, but for the processor that does it, and with its own era.
use Rattle.std.proofs.Common.{◌≡◌, ◌⊎◌, ℕ, zero, suc, ◌+◌, ◌/◌, List, [], ◌∷◌, ◌++◌, length, drop, set, Some, None, Option, Bool, true, false, refl, sym, ap, subst, ◌∙◌, inl, inr, ⊎_elim, eq-eqb}
use Rattle.std.specs.Prelude.{slice_get, slice_set, map, if◌then◌else◌, is_some, ◌==◌, not, ◌&&◌}
use Rattle.std.specs.List.{fold, filter, find, list_all}
use Rattle.std.specs.Option.{option_map_or, option_map}
use Rattle.mt_kinds.specs.declared.mem_type.MemType.{MemType}
use Rattle.mt_kinds.specs.declared.mem_type.MemType.TheVariants.{UC, WC, WT, WP, WB}
use Rattle.mt_cache.specs.declared.line.CacheLine.{CacheLine}
use Rattle.mt_tlb.specs.declared.entry.Entry.{Entry}
use Rattle.mt_tlb.specs.declared.mapping.Mapping.{Mapping}
use Rattle.mt_machine.specs.declared.op.Op.{Op}
use Rattle.mt_machine.specs.declared.op.Op.TheVariants.{Load, Store, Fence}
use Rattle.mt_machine.specs.declared.control.Control.{Control}
use Rattle.mt_machine.specs.declared.control.Control.TheVariants.{Map, Invlpg, Cr3, Pge, Cd}
use Rattle.mt_machine.specs.Memory.{Memory, place, line_of, word_of}
use Rattle.mt_cache.specs.Lines.{find_line, has_number, without_line, change_line, clean_line, write_dirty, write_clean, combined_with, oldest_of_full}
use Rattle.mt_machine.specs.System.{Processor, System, change, buffers_of, lines_of}
use Rattle.mt_machine.specs.Bus.{with_lines, with_buffers, bus_read, invalidate, invalidate_others, write_back_others, others_from, empty_buffer, drain, drain_line, make_room, fill_line, combine, store_in_memory}
use Rattle.mt_machine.specs.Access.{keep_entry, new_entry, first_of_load, first_of_store, load, load_after, hit_of, is_cached, cache_disabled_of, store, store_after, store_hit, store_past, store_filling, translated, physical, access, access_at, entry_of, is_running, Answered}
use Rattle.mt_tlb.specs.Entries.{add_entry, is_full_for}
use Rattle.mt_machine.specs.Control.{control, control_at, drop_page, reload_cr3, set_page_global, same_bool, RuledAfter}
use Rattle.mt_laws.proofs.Barrier.Ranks.{and_left, and_right}

-- ---- lines whose eras pass a test

abbrev pub passes : (ℕ → Bool) → List CacheLine → Bool
passes test ls = list_all (λ (l : CacheLine). test l.era) ls

abbrev pub passes_entries : (ℕ → Bool) → List Entry → Bool
passes_entries test es = list_all (λ (e : Entry). test e.era) es

and_true : (a b : Bool) → a ≡ true → b ≡ true → (a && b) ≡ true
and_true true b h g = g
and_true false b h g = absurd (cc)

pub all_append : {X : Type 0} → (test : X → Bool) (xs ys : List X) → list_all test xs ≡ true → list_all test ys ≡ true → list_all test (xs ++ ys) ≡ true
all_append test [] ys h g = g
all_append test (x ∷ xs) ys h g = and_true (test x) _ (and_left _ _ h) (all_append test xs ys (and_right (test x) _ h) g)

pub all_drop : {X : Type 0} → (test : X → Bool) (xs : List X) → list_all test xs ≡ true → list_all test (drop 1 xs) ≡ true
all_drop test [] h = h
all_drop test (x ∷ xs) h = and_right (test x) _ h

pub all_filter : {X : Type 0} → (test keep : X → Bool) (xs : List X) → list_all test xs ≡ true → list_all test (filter keep xs) ≡ true
all_filter test keep [] h = h
all_filter test keep (x ∷ xs) h = one (keep x) (filter keep xs) (all_filter test keep xs (and_right (test x) _ h))
  where
    one : (b : Bool) (rest : List _) → list_all test rest ≡ true → list_all test (if b then x ∷ rest else rest) ≡ true
    one true rest g = and_true (test x) _ (and_left _ _ h) g
    one false rest g = g

-- a change of a line keeps its era
pub passes_change : (test : ℕ → Bool) (n : ℕ) (f : CacheLine → CacheLine) → ((l : CacheLine) → (f l).era ≡ l.era) → (ls : List CacheLine) → passes test ls ≡ true → passes test (change_line n f ls) ≡ true
passes_change test n f same [] h = h
passes_change test n f same (l ∷ ls) h =
    and_true _ _ (one (has_number n l)) (passes_change test n f same ls (and_right (test l.era) _ h))
  where
    one : (b : Bool) → test (if b then f l else l).era ≡ true
    one true = ap test (same l) ∙ and_left _ _ h
    one false = and_left _ _ h

-- ---- one processor

-- with PGE clear no entry is global
abbrev pub IsLocal : Processor → Type 0
IsLocal p = p.page_global ≡ false → list_all (λ (e : Entry). not e.global) p.entries ≡ true

-- q comes of p; only where mine holds may it hold something new, with p's era
pub record Grows (mine : Type 0) (p q : Processor) : Type 0 where
  pub file : q.file ≡ p.file
  pub phase : q.phase ≡ p.phase
  pub era : q.era ≡ p.era
  pub lines : (test : ℕ → Bool) → (mine → test p.era ≡ true) → passes test p.lines ≡ true → passes test q.lines ≡ true
  pub buffers : (test : ℕ → Bool) → (mine → test p.era ≡ true) → passes test p.buffers ≡ true → passes test q.buffers ≡ true
  pub entries : (test : ℕ → Bool) → (mine → test p.era ≡ true) → passes_entries test p.entries ≡ true → passes_entries test q.entries ≡ true
  pub local : IsLocal p → IsLocal q

grows_same : (mine : Type 0) (p : Processor) → Grows mine p p
grows_same mine p = record { file = refl; phase = refl; era = refl; lines = λ t m h. h; buffers = λ t m h. h; entries = λ t m h. h; local = λ h. h }

grows_then : (mine : Type 0) (p q r : Processor) → Grows mine p q → Grows mine q r → Grows mine p r
grows_then mine p q r a b = record {
  file = b.file ∙ a.file;
  phase = b.phase ∙ a.phase;
  era = b.era ∙ a.era;
  lines = λ t m h. b.lines t (λ x. ap t a.era ∙ m x) (a.lines t m h);
  buffers = λ t m h. b.buffers t (λ x. ap t a.era ∙ m x) (a.buffers t m h);
  entries = λ t m h. b.entries t (λ x. ap t a.era ∙ m x) (a.entries t m h);
  local = λ h. b.local (a.local h);
}

-- a change of lines that leaves no new one
abbrev pub IsLess : (List CacheLine → List CacheLine) → Type 0
IsLess f = (test : ℕ → Bool) (ls : List CacheLine) → passes test ls ≡ true → passes test (f ls) ≡ true

less_lines : (mine : Type 0) (f : List CacheLine → List CacheLine) → IsLess f → (p : Processor) → Grows mine p (with_lines f p)
less_lines mine f less p = record { file = refl; phase = refl; era = refl; lines = λ t m h. less t p.lines h; buffers = λ t m h. h; entries = λ t m h. h; local = λ h. h }

less_buffers : (mine : Type 0) (f : List CacheLine → List CacheLine) → IsLess f → (p : Processor) → Grows mine p (with_buffers f p)
less_buffers mine f less p = record { file = refl; phase = refl; era = refl; lines = λ t m h. h; buffers = λ t m h. less t p.buffers h; entries = λ t m h. h; local = λ h. h }

without_less : (n : ℕ) → IsLess (without_line n)
without_less n test ls h = all_filter _ (λ l. not (has_number n l)) ls h

change_less : (n : ℕ) (f : CacheLine → CacheLine) → ((l : CacheLine) → (f l).era ≡ l.era) → IsLess (change_line n f)
change_less n f same test ls h = passes_change test n f same ls h

none_less : IsLess (λ ls. [])
none_less test ls h = refl

-- ---- all processors

-- t comes of s by what processor k does
abbrev pub FollowsIn : ℕ → List Processor → List Processor → Type 0
FollowsIn k ps qs = (j : ℕ) (q : Processor) → slice_get qs j ≡ Some q → (p : Processor) × (slice_get ps j ≡ Some p) × Grows (j ≡ k) p q

abbrev pub Follows : ℕ → System → System → Type 0
Follows k s t = FollowsIn k s.processors t.processors

follows_same : (k : ℕ) (s : System) → Follows k s s
follows_same k s j q at = (q, at, grows_same (j ≡ k) q)

follows_then : (k : ℕ) (s t : System) (us : List Processor) → Follows k s t → FollowsIn k t.processors us → FollowsIn k s.processors us
follows_then k s t us a b j r at =
    let second = b j r at in
    let first = a j second.0 second.1 in
    (first.0, first.1, grows_then (j ≡ k) first.0 second.0 r first.2 second.2)

map_at : (f : Processor → Processor) (ps : List Processor) (j : ℕ) (q : Processor) → slice_get (map f ps) j ≡ Some q → (p : Processor) × (slice_get ps j ≡ Some p) × (f p ≡ q)
map_at f [] j q at = absurd (cc)
map_at f (p ∷ ps) zero q at = (p, refl, cc)
map_at f (p ∷ ps) (suc j) q at = map_at f ps j q at

follows_map : (k : ℕ) (s : System) (m : Memory) (f : Processor → Processor) → ((mine : Type 0) (p : Processor) → Grows mine p (f p)) → Follows k s (record { processors = map f s.processors; memory = m })
follows_map k s m f grows j q at =
    let found = map_at f s.processors j q at in
    (found.0, found.1, subst (Grows (j ≡ k) found.0) found.2 (grows (j ≡ k) found.0))

at_put : (ps : List Processor) (k j : ℕ) (p q r : Processor) → slice_get ps k ≡ Some p → slice_get (set ps k r) j ≡ Some q → ((j ≡ k) × (r ≡ q)) ⊎ (slice_get ps j ≡ Some q)
at_put [] k j p q r at h = absurd (cc)
at_put (x ∷ ps) zero zero p q r at h = inl (refl, cc)
at_put (x ∷ ps) zero (suc j) p q r at h = inr h
at_put (x ∷ ps) (suc k) zero p q r at h = inr h
at_put (x ∷ ps) (suc k) (suc j) p q r at h =
    ⊎_elim (λ (e : (j ≡ k) × (r ≡ q)). inl (ap suc e.0, e.1)) (λ (e : slice_get ps j ≡ Some q). inr e) (at_put ps k j p q r at h)

abbrev GrowsOwn : (Processor → Processor) → Type 1
GrowsOwn f = (mine : Type 0) → mine → (p : Processor) → Grows mine p (f p)

follows_change_at : (k : ℕ) (s : System) (f : Processor → Processor) → GrowsOwn f → (o : Option Processor) → slice_get s.processors k ≡ o → Follows k s (option_map_or (λ p. record s { processors = slice_set s.processors k (f p) }) o s)
follows_change_at k s f grows None is j q at = follows_same k s j q at
follows_change_at k s f grows (Some p) is j q at =
    ⊎_elim
    (λ (e : (j ≡ k) × (f p ≡ q)). let there : slice_get s.processors j ≡ Some p = ap (slice_get s.processors) e.0 ∙ is in
    let r : (x : Processor) × (slice_get s.processors j ≡ Some x) × Grows (j ≡ k) x q = (p, there, subst (Grows (j ≡ k) p) e.1 (grows (j ≡ k) e.0 p)) in r)
    (λ (e : slice_get s.processors j ≡ Some q). follows_same k s j q e)
    (at_put s.processors k j p q (f p) is at)

follows_change : (k : ℕ) (s : System) (f : Processor → Processor) → GrowsOwn f → Follows k s (change f k s)
follows_change k s f grows = follows_change_at k s f grows (slice_get s.processors k) refl

others_at : (n k : ℕ) (f : Processor → Processor) → ((mine : Type 0) (p : Processor) → Grows mine p (f p)) → (mine : Type 0) (ps : List Processor) (j : ℕ) (q : Processor) → slice_get (others_from n k f ps) j ≡ Some q → (p : Processor) × (slice_get ps j ≡ Some p) × Grows mine p q
others_at n k f grows mine [] j q at = absurd (cc)
others_at n k f grows mine (p ∷ ps) zero q at = (p, refl, one (n == k) (cc))
  where
    one : (b : Bool) → (if b then p else f p) ≡ q → Grows mine p q
    one true e = subst (Grows mine p) e (grows_same mine p)
    one false e = subst (Grows mine p) e (grows mine p)
others_at n k f grows mine (p ∷ ps) (suc j) q at = others_at (n + 1) k f grows mine ps j q at

-- ---- the bus

clean_less : (n : ℕ) → IsLess (change_line n clean_line)
clean_less n = change_less n clean_line (λ l. refl)

follows_read : (k n : ℕ) (s : System) → Follows k s (bus_read n s)
follows_read k n s = follows_map k s (bus_read n s).memory (with_lines (change_line n clean_line)) (λ mine p. less_lines mine _ (clean_less n) p)

follows_invalidate : (k n : ℕ) (s : System) → Follows k s (invalidate n s)
follows_invalidate k n s = follows_map k s s.memory (with_lines (without_line n)) (λ mine p. less_lines mine _ (without_less n) p)

follows_others : (k n : ℕ) (s : System) → Follows k s (invalidate_others k n s)
follows_others k n s j q at =
    others_at 0 k (with_lines (without_line n)) (λ mine p. less_lines mine _ (without_less n) p) (j ≡ k) s.processors j q at

follows_empty : (k : ℕ) (s : System) (b : CacheLine) → Follows k s (empty_buffer s b)
follows_empty k s b =
    follows_then k s (bus_read b.number s) _ (follows_read k b.number s) (follows_invalidate k b.number (bus_read b.number s))

follows_empty_all : (k : ℕ) (bs : List CacheLine) (s : System) → Follows k s (fold empty_buffer s bs)
follows_empty_all k [] s = follows_same k s
follows_empty_all k (b ∷ bs) s =
    follows_then k s (empty_buffer s b) _ (follows_empty k s b) (follows_empty_all k bs (empty_buffer s b))

pub follows_drain : (k : ℕ) (s : System) → Follows k s (drain k s)
follows_drain k s =
    let emptied : System = fold empty_buffer s (buffers_of s k) in
    follows_then k s emptied _ (follows_empty_all k (buffers_of s k) s)
    (follows_change k emptied (with_buffers (λ _. [])) (λ mine own p. less_buffers mine (λ _. []) none_less p))

follows_option : {X : Type 0} → (k : ℕ) (s t : System) (o : Option X) (f : X → System) → Follows k s t → ((x : X) → Follows k s (f x)) → Follows k s (option_map_or f o t)
follows_option k s t None f none some = none
follows_option k s t (Some x) f none some = some x

follows_if : (k : ℕ) (s : System) (b : Bool) (x y : System) → Follows k s x → Follows k s y → Follows k s (if b then x else y)
follows_if k s true x y a b = a
follows_if k s false x y a b = b

follows_taken_out : (k n : ℕ) (s : System) (b : CacheLine) → Follows k s (change (with_buffers (without_line n)) k (empty_buffer s b))
follows_taken_out k n s b =
    follows_then k s (empty_buffer s b) _ (follows_empty k s b)
    (follows_change k (empty_buffer s b) (with_buffers (without_line n)) (λ mine own p. less_buffers mine _ (without_less n) p))

follows_drain_line : (k n : ℕ) (s : System) → Follows k s (drain_line k n s)
follows_drain_line k n s = follows_option k s s (find_line n (buffers_of s k)) _ (follows_same k s) (λ b. follows_taken_out k n s b)

follows_room : (k : ℕ) (s : System) → Follows k s (make_room k s)
follows_room k s =
    follows_option k s s (oldest_of_full 64 (lines_of s k)) _ (follows_same k s)
    (λ l. follows_change k (record s { memory = _ }) (with_lines (without_line l.number)) (λ mine own p. less_lines mine _ (without_less l.number) p))

-- a new line has the processor's era
follows_fill : (k n : ℕ) (s : System) → Follows k s (fill_line k n s)
follows_fill k n s =
    follows_then k s (make_room k s) _ (follows_room k s)
    (follows_change k (make_room k s) _ (λ mine own p. record {
      file = refl;
      phase = refl;
      era = refl;
      lines = λ t m h. all_append _ p.lines _ h (and_true (t p.era) true (m own) refl);
      buffers = λ t m h. h;
      entries = λ t m h. h;
      local = λ h. h;
    }))

combined_passes : (n word value era : ℕ) (test : ℕ → Bool) (bs : List CacheLine) → test era ≡ true → passes test bs ≡ true → passes test (combined_with n word value era bs) ≡ true
combined_passes n word value era test bs own h = one (is_some (find_line n bs))
  where
    one : (b : Bool) → passes test (if b then change_line n (write_dirty word value) bs else bs ++ write_dirty word value (record { number = n; words = 0 ∷ 0 ∷ 0 ∷ 0 ∷ 0 ∷ 0 ∷ 0 ∷ 0 ∷ []; dirty = 0; era = era }) ∷ []) ≡ true
    one true = passes_change test n (write_dirty word value) (λ l. refl) bs h
    one false = all_append _ bs _ h (and_true (test era) true own refl)

follows_combine : (k n word value : ℕ) (s : System) → Follows k s (combine k n word value s)
follows_combine k n word value s =
    let make : System =
    (if is_some (find_line n (buffers_of s k)) then s
    else option_map_or (λ b. change (with_buffers (without_line b.number)) k (empty_buffer s b)) (oldest_of_full 4 (buffers_of s k)) s) in
    let made : Follows k s make =
    follows_if k s (is_some (find_line n (buffers_of s k))) s _ (follows_same k s)
    (follows_option k s s (oldest_of_full 4 (buffers_of s k)) _ (follows_same k s) (λ b. follows_taken_out k b.number s b)) in
    let joined : System = change (λ p. record p { buffers = combined_with n word value p.era p.buffers }) k make in
    let joins : Follows k s joined =
    follows_then k s make _ made
    (follows_change k make _ (λ mine own p. record {
      file = refl;
      phase = refl;
      era = refl;
      lines = λ t m h. h;
      buffers = λ t m h. combined_passes n word value p.era t p.buffers (m own) h;
      entries = λ t m h. h;
      local = λ h. h;
    })) in
    follows_option k s joined (find_line n (buffers_of joined k)) _ joins
    (λ b. follows_if k s (b.dirty == 0xff) (drain_line k n joined) joined (follows_then k s joined _ joins (follows_drain_line k n joined)) joins)

-- ---- loads and stores

follows_first_load : (t : MemType) (k n : ℕ) (s : System) → Follows k s (first_of_load t k n s)
follows_first_load UC k n s = follows_drain k s
follows_first_load WC k n s = follows_drain_line k n s
follows_first_load WT k n s = follows_drain_line k n s
follows_first_load WP k n s = follows_drain_line k n s
follows_first_load WB k n s = follows_drain_line k n s

follows_first_store : (t : MemType) (k n : ℕ) (s : System) → Follows k s (first_of_store t k n s)
follows_first_store UC k n s = follows_drain k s
follows_first_store WC k n s = follows_same k s
follows_first_store WT k n s = follows_drain_line k n s
follows_first_store WP k n s = follows_drain_line k n s
follows_first_store WB k n s = follows_drain_line k n s

follows_pair : (k : ℕ) (s : System) (o : Option CacheLine) (f : CacheLine → ℕ × System) (miss : ℕ × System) → Follows k s miss.1 → ((l : CacheLine) → Follows k s (f l).1) → Follows k s (option_map_or f o miss).1
follows_pair k s None f miss none some = none
follows_pair k s (Some l) f miss none some = some l

follows_load_after : (t : MemType) (k address : ℕ) (s : System) → Follows k s (load_after t k address s).1
follows_load_after t k address s =
    let n = line_of address in
    follows_pair k s (hit_of t k n s) _ _
    (follows_if k s (is_cached t && not (cache_disabled_of s k)) (fill_line k n (bus_read n s)) (bus_read n s)
    (follows_then k s (bus_read n s) _ (follows_read k n s) (follows_fill k n (bus_read n s)))
    (follows_read k n s))
    (λ l. follows_same k s)

follows_load : (t : MemType) (k address : ℕ) (s : System) → Follows k s (load t k address s).1
follows_load t k address s =
    follows_then k s (first_of_load t k (line_of address) s) _ (follows_first_load t k (line_of address) s) (follows_load_after t k address (first_of_load t k (line_of address) s))

follows_past : (k address value : ℕ) (s : System) → Follows k s (store_past k address value s)
follows_past k address value s =
    let n = line_of address in follows_then k s (bus_read n s) _ (follows_read k n s) (follows_others k n (bus_read n s))

follows_uncached : (k n address value : ℕ) (s : System) → Follows k s (store_in_memory address value (invalidate n (bus_read n s)))
follows_uncached k n address value s = follows_then k s (bus_read n s) _ (follows_read k n s) (follows_invalidate k n (bus_read n s))

follows_line : (k n : ℕ) (s : System) (f : CacheLine → CacheLine) → ((l : CacheLine) → (f l).era ≡ l.era) → Follows k s (change (with_lines (change_line n f)) k s)
follows_line k n s f same = follows_change k s (with_lines (change_line n f)) (λ mine own p. less_lines mine _ (change_less n f same) p)

follows_store_after : (t : MemType) (k address value : ℕ) (s : System) → Follows k s (store_after t k address value s)
follows_store_after UC k address value s = follows_uncached k (line_of address) address value s
follows_store_after WC k address value s = follows_combine k (line_of address) (word_of address) value s
follows_store_after WT k address value s =
    follows_then k s (store_past k address value s) _ (follows_past k address value s)
    (follows_line k (line_of address) (store_past k address value s) (write_clean (word_of address) value) (λ l. refl))
follows_store_after WP k address value s = follows_uncached k (line_of address) address value s
follows_store_after WB k address value s =
    let n = line_of address in
    let taken : System = invalidate_others k n (write_back_others k n s) in
    let missed : System = invalidate_others k n (bus_read n s) in
    follows_if k s (is_some (find_line n (lines_of s k))) (store_hit k address value s) _
    (follows_then k s taken _ (follows_others k n (write_back_others k n s)) (follows_line k n taken (write_dirty (word_of address) value) (λ l. refl)))
    (follows_if k s (cache_disabled_of s k) (store_past k address value s) (store_filling k address value s)
    (follows_past k address value s)
    (follows_then k s (fill_line k n missed) _
    (follows_then k s missed _ (follows_then k s (bus_read n s) _ (follows_read k n s) (follows_others k n (bus_read n s))) (follows_fill k n missed))
    (follows_line k n (fill_line k n missed) (write_dirty (word_of address) value) (λ l. refl))))

follows_store : (t : MemType) (k address value : ℕ) (s : System) → Follows k s (store t k address value s)
follows_store t k address value s =
    follows_then k s (first_of_store t k (line_of address) s) _ (follows_first_store t k (line_of address) s) (follows_store_after t k address value (first_of_store t k (line_of address) s))

-- ---- accesses

answers_option : {X : Type 0} → (k : ℕ) (s : System) (o : Option X) (f : X → Answered) (a : Answered) → Follows k s a.after → ((x : X) → o ≡ Some x → Follows k s (f x).after) → Follows k s (option_map_or f o a).after
answers_option k s None f a none some = none
answers_option k s (Some x) f a none some = some x refl

answers_if : (k : ℕ) (s : System) (b : Bool) (x y : Answered) → Follows k s x.after → Follows k s y.after → Follows k s (if b then x else y).after
answers_if k s true x y a b = a
answers_if k s false x y a b = b

follows_translated : (s : System) (k : ℕ) (e : Entry) (op : Op) → Follows k s (translated s k e op).after
follows_translated s k e (Load address) =
    answers_if k s (is_some (place s.memory (physical e address))) _ _ (follows_load e.kind k (physical e address) s) (follows_same k s)
follows_translated s k e (Store address value) =
    answers_if k s (is_some (place s.memory (physical e address))) _ _ (follows_store e.kind k (physical e address) value s) (follows_same k s)
follows_translated s k e Fence = follows_same k s

-- an entry that is added has the processor's era; one that stands is among its entries
added_all : (test : Entry → Bool) (e : Entry) (es : List Entry) → test e ≡ true → list_all test es ≡ true → list_all test (add_entry e es) ≡ true
added_all test e es own h = all_append test _ (e ∷ []) (one (length es == 64)) (and_true (test e) true own refl)
  where
    one : (b : Bool) → list_all test (if b then drop 1 es else es) ≡ true
    one true = all_drop _ es h
    one false = h

added_passes : (test : ℕ → Bool) (e : Entry) (es : List Entry) → test e.era ≡ true → passes_entries test es ≡ true → passes_entries test (add_entry e es) ≡ true
added_passes test e es own h = added_all (λ (x : Entry). test x.era) e es own h

-- the entry of the page is among the processor's, or it has the processor's era
abbrev IsEntryOf : Processor → Entry → Type 0
IsEntryOf p e = (is_some (find (λ (x : Entry). x.vpage == e.vpage) p.entries) ≡ true) ⊎ ((e.era ≡ p.era) × (p.page_global ≡ false → not e.global ≡ true))

grows_entry : (mine : Type 0) → mine → (e : Entry) (p : Processor) → IsEntryOf p e → Grows mine p (keep_entry e p)
grows_entry mine own e p known = one (is_some (find (λ (x : Entry). x.vpage == e.vpage) p.entries)) refl
  where
    new : is_some (find (λ (x : Entry). x.vpage == e.vpage) p.entries) ≡ false → (e.era ≡ p.era) × (p.page_global ≡ false → not e.global ≡ true)
    new is = ⊎_elim (λ (x : is_some (find (λ (x : Entry). x.vpage == e.vpage) p.entries) ≡ true). absurd (cc)) (λ (x : (e.era ≡ p.era) × (p.page_global ≡ false → not e.global ≡ true)). x) known

    one : (b : Bool) → is_some (find (λ (x : Entry). x.vpage == e.vpage) p.entries) ≡ b → Grows mine p (if b then p else record p { entries = add_entry e p.entries })
    one true is = grows_same mine p
    one false is = record {
      file = refl;
      phase = refl;
      era = refl;
      lines = λ t m h. h;
      buffers = λ t m h. h;
      entries = λ t m h. added_passes t e p.entries (ap t (new is).0 ∙ m own) h;
      local = λ h off. added_all (λ (x : Entry). not x.global) e p.entries ((new is).1 off) (h off);
    }

-- where one processor alone is changed, it is enough to know how that one grows
follows_change_one : (k : ℕ) (s : System) (p : Processor) (f : Processor → Processor) → slice_get s.processors k ≡ Some p → ((mine : Type 0) → mine → Grows mine p (f p)) → Follows k s (change f k s)
follows_change_one k s p f is grows =
    subst (λ (o : Option Processor). Follows k s (option_map_or (λ x. record s { processors = slice_set s.processors k (f x) }) o s)) (sym is) at_one
  where
    at_one : Follows k s (record s { processors = slice_set s.processors k (f p) })
    at_one j q at =
        ⊎_elim
        (λ (e : (j ≡ k) × (f p ≡ q)). let there : slice_get s.processors j ≡ Some p = ap (slice_get s.processors) e.0 ∙ is in
        let r : (x : Processor) × (slice_get s.processors j ≡ Some x) × Grows (j ≡ k) x q = (p, there, subst (Grows (j ≡ k) p) e.1 (grows (j ≡ k) e.0)) in r)
        (λ (e : slice_get s.processors j ≡ Some q). follows_same k s j q e)
        (at_put s.processors k j p q (f p) is at)

found_same : (page : ℕ) (es : List Entry) (e : Entry) → find (λ (x : Entry). x.vpage == page) es ≡ Some e → is_some (find (λ (x : Entry). x.vpage == e.vpage) es) ≡ true
found_same page [] e h = absurd (cc)
found_same page (x ∷ es) e h = one (λ g. found_same page es e g) (x.vpage == page) (x.vpage == e.vpage) refl h
  where
    one : (find (λ (y : Entry). y.vpage == page) es ≡ Some e → is_some (find (λ (y : Entry). y.vpage == e.vpage) es) ≡ true) → (b c : Bool) → (x.vpage == e.vpage) ≡ c → (if b then Some x else find (λ (y : Entry). y.vpage == page) es) ≡ Some e → is_some (if c then Some x else find (λ (y : Entry). y.vpage == e.vpage) es) ≡ true
    one rest b true is_c g = refl
    one rest true false is_c g = absurd (let same : x ≡ e = cc in let here : (x.vpage == e.vpage) ≡ true = subst (λ (y : Entry). (x.vpage == y.vpage) ≡ true) same (eq-eqb x.vpage x.vpage refl) in cc)
    one rest false false is_c g = rest g

entry_known : (p : Processor) (page : ℕ) (e : Entry) → entry_of p page ≡ Some e → IsEntryOf p e
entry_known p page e h = one (find (λ (x : Entry). x.vpage == page) p.entries) refl h
  where
    not_global : (g b : Bool) → b ≡ false → not (g && b) ≡ true
    not_global true true off = absurd (cc)
    not_global true false off = refl
    not_global false b off = refl

    mapped : (o : Option Mapping) → option_map (new_entry p) o ≡ Some e → (e.era ≡ p.era) × (p.page_global ≡ false → not e.global ≡ true)
    mapped None g = absurd (cc)
    mapped (Some m) g =
        let same : new_entry p m ≡ e = cc in
        (ap (λ (x : Entry). x.era) (sym same), λ off. subst (λ (x : Entry). not x.global ≡ true) same (not_global m.global p.page_global off))

    one : (o : Option Entry) → find (λ (x : Entry). x.vpage == page) p.entries ≡ o → option_map_or Some o (option_map (new_entry p) (find (λ (m : Mapping). m.vpage == page) p.mappings)) ≡ Some e → IsEntryOf p e
    one None is g = inr (mapped _ g)
    one (Some x) is g = let same : x ≡ e = cc in inl (found_same page p.entries e (is ∙ ap Some same))

at_entry : (s : System) (k : ℕ) (p : Processor) (page : ℕ) (e : Entry) → slice_get s.processors k ≡ Some p → entry_of p page ≡ Some e → Follows k s (change (keep_entry e) k s)
at_entry s k p page e is found = follows_change_one k s p (keep_entry e) is (λ mine own. grows_entry mine own e p (entry_known p page e found))

follows_access_at : (s : System) (k : ℕ) (p : Processor) (op : Op) → slice_get s.processors k ≡ Some p → Follows k s (access_at s k p op).after
follows_access_at s k p Fence is = follows_drain k s
follows_access_at s k p (Load address) is =
    answers_option k s (entry_of p (address / 4096)) _ _ (follows_same k s)
    (λ e found. follows_then k s (change (keep_entry e) k s) _ (at_entry s k p (address / 4096) e is found) (follows_translated (change (keep_entry e) k s) k e (Load address)))
follows_access_at s k p (Store address value) is =
    answers_option k s (entry_of p (address / 4096)) _ _ (follows_same k s)
    (λ e found. follows_then k s (change (keep_entry e) k s) _ (at_entry s k p (address / 4096) e is found) (follows_translated (change (keep_entry e) k s) k e (Store address value)))

pub follows_access : (s : System) (k : ℕ) (op : Op) → Follows k s (access s k op).after
follows_access s k op =
    answers_option k s (slice_get s.processors k) _ _ (follows_same k s)
    (λ p is. answers_if k s (is_running p.phase) _ _ (follows_access_at s k p op is) (follows_same k s))

-- ---- control

rules_option : {X : Type 0} → (k : ℕ) (s : System) (o : Option X) (f : X → RuledAfter) (a : RuledAfter) → Follows k s a.after → ((x : X) → Follows k s (f x).after) → Follows k s (option_map_or f o a).after
rules_option k s None f a none some = none
rules_option k s (Some x) f a none some = some x

rules_if : (k : ℕ) (s : System) (b : Bool) (x y : RuledAfter) → Follows k s x.after → Follows k s y.after → Follows k s (if b then x else y).after
rules_if k s true x y a b = a
rules_if k s false x y a b = b

-- a change of what is no line, buffer or entry, and of entries that leaves no new one
grows_entries : (mine : Type 0) (p q : Processor) → q.file ≡ p.file → q.phase ≡ p.phase → q.era ≡ p.era → q.lines ≡ p.lines → q.buffers ≡ p.buffers → ((test : ℕ → Bool) → passes_entries test p.entries ≡ true → passes_entries test q.entries ≡ true) → (IsLocal p → IsLocal q) → Grows mine p q
grows_entries mine p q file phase era lines buffers less local = record {
  file = file;
  phase = phase;
  era = era;
  lines = λ t m h. ap (passes t) lines ∙ h;
  buffers = λ t m h. ap (passes t) buffers ∙ h;
  entries = λ t m h. less t h;
  local = local;
}

follows_drained : (s : System) (k : ℕ) (f : Processor → Processor) → GrowsOwn f → Follows k s (change f k (drain k s))
follows_drained s k f grows = follows_then k s (drain k s) _ (follows_drain k s) (follows_change k (drain k s) f grows)

grows_page_global : (on : Bool) → GrowsOwn (set_page_global on)
grows_page_global on mine own p = one (same_bool on p.page_global)
  where
    one : (b : Bool) → Grows mine p (if b then p else record p { page_global = on; entries = [] })
    one true = grows_same mine p
    one false = grows_entries mine p _ refl refl refl refl refl (λ t h. refl) (λ h off. refl)

follows_control_at : (s : System) (k : ℕ) (p : Processor) (c : Control) → Follows k s (control_at s k p c).after
follows_control_at s k p (Map m) =
    rules_if k s (is_full_for m p.mappings) _ _ (follows_same k s)
    (follows_change k s _ (λ mine own q. grows_entries mine q _ refl refl refl refl refl (λ t h. h) (λ h. h)))
follows_control_at s k p (Invlpg address) =
    follows_drained s k (drop_page (address / 4096)) (λ mine own q. grows_entries mine q _ refl refl refl refl refl (λ t h. all_filter _ _ q.entries h) (λ h off. all_filter _ _ q.entries (h off)))
follows_control_at s k p Cr3 =
    follows_drained s k reload_cr3 (λ mine own q. grows_entries mine q _ refl refl refl refl refl (λ t h. all_filter _ _ q.entries h) (λ h off. all_filter _ _ q.entries (h off)))
follows_control_at s k p (Pge on) = follows_drained s k (set_page_global on) (grows_page_global on)
follows_control_at s k p (Cd on) =
    follows_drained s k _ (λ mine own q. grows_entries mine q _ refl refl refl refl refl (λ t h. h) (λ h. h))

pub follows_control : (s : System) (k : ℕ) (c : Control) → Follows k s (control s k c).after
follows_control s k c =
    rules_option k s (slice_get s.processors k) _ _ (follows_same k s)
    (λ p. rules_if k s (is_running p.phase) _ _ (follows_control_at s k p c) (follows_same k s))
