-- Accesses and controls keep the lines that a system holds in order, and each word's copies in agreement.
use Rattle.std.proofs.Common.{◌≡◌, ◌≢◌, ℕ, zero, suc, ◌/◌, ◌%◌, ◌==◌, List, [], ◌∷◌, ◌++◌, Some, None, Option, Bool, true, false, refl, sym, ap, subst, ◌∙◌, arith, eq-eqb, length, ◌<◌, ◌≤◌, ⊎_elim}
use Rattle.std.specs.Prelude.{slice_get, slice_index, if◌then◌else◌, ◌&&◌, not, map, is_some}
use Rattle.std.specs.List.{list_all, find}
use Rattle.std.specs.Option.{option_map_or, option_map}
use Rattle.std.proofs.lemmas.Bool.{eqb-true, eqb-false}
use Rattle.std.proofs.lemmas.Option.{slice_get-map}
use Rattle.mt_kinds.specs.declared.mem_type.MemType.{MemType}
use Rattle.mt_kinds.specs.declared.mem_type.MemType.TheVariants.{UC, WC, WT, WP, WB}
use Rattle.mt_cache.specs.declared.line.CacheLine.{CacheLine}
use Rattle.mt_tlb.specs.declared.entry.Entry.{Entry}
use Rattle.mt_machine.specs.declared.op.Op.{Op}
use Rattle.mt_machine.specs.declared.op.Op.TheVariants.{Load, Store, Fence}
use Rattle.mt_machine.specs.declared.done.Done.TheVariants.{Value, Stored, NoRam, Unmapped, Busy}
use Rattle.mt_machine.specs.Memory.{Window, word_at, place, line_of, word_of}
use Rattle.mt_cache.specs.Lines.{is_dirty, has_number, find_line, without_line, change_line, clean_line, write_dirty, oldest_of_full, combined_with}
use Rattle.mt_machine.specs.System.{Processor, System, change, lines_of, buffers_of}
use Rattle.mt_machine.specs.Bus.{with_lines, with_buffers, bus_read, empty_buffer, drain_line, fill_line, combine}
use Rattle.mt_machine.specs.Access.{keep_entry, address_of, physical, entry_of, is_running, first_of_load, first_of_store, store_hit, store_past, store_filling, is_cached, cache_disabled_of, load_after, load, store_after, store, translated, access_at, access, Answered}
use Rattle.mt_tlb.specs.Entries.{add_entry}
use Rattle.mt_machine.specs.Machine.{Machine, Accesses}
use Rattle.mt_machine.specs.Update.{is_stored, stored_word}
use Rattle.mt_laws.proofs.Barrier.Ranks.{and_left, and_right}
use Rattle.mt_laws.proofs.Barrier.Stages.{first_load_stages, first_store_stages}
use Rattle.mt_laws.proofs.Words.MemoryLaws.{AllAligned}
use Rattle.mt_laws.proofs.Words.BitLaws.{no_bit, set_other}
use Rattle.mt_laws.proofs.Words.LineLaws.{fits, is_placed}
use Rattle.mt_laws.proofs.Words.LineLists.{copy_in, Apart, apart_change, apart_append, passes_changed, passes_append, found_passes}
use Rattle.mt_laws.proofs.Words.BusLaws.{FitsMemory, Stands, is_unwritten, unwritten, Word, After, leaves_word, leaves_change, after_word, after_then, fits_of, stands_change, stands_read, leaves_read, read_writes, read_same, clean_word, buffers_fit_at, buffers_unwritten_at, stands_drain, drain_word, stands_one, one_word, stands_drain_line, drain_line_word, fit_at, stands_empty}
use Rattle.mt_laws.proofs.Words.AccessLaws.{fits_dirty, word_small, same_word, word_buffers, oldest_found, line_placed, lines_at, changed_at, Misses, misses_of}
use Rattle.mt_laws.proofs.Words.StoreLaws.{Has, has_after, Put, put_after, none_changed, stands_fill, fill_other, fill_clean, fill_writes, flush_put_stands, flush_put_word, past_put_stands, past_missing, through_stands, through_word, hit_stands, hit_word, filling_stands, filling_word}
use Rattle.mt_laws.proofs.Words.Lengths.{add_length, change_length, oldest_none, oldest_some}
use Rattle.mt_laws.proofs.Clearing.Renewed.{at_change}

abbrev pub is_combined : MemType → Bool
is_combined WC = true
is_combined other = false

-- ---- the buffers of a WC store

passes_changed_at : (test : CacheLine → Bool) (n : ℕ) (f : CacheLine → CacheLine) → ((l : CacheLine) → has_number n l ≡ true → test l ≡ true → test (f l) ≡ true) → (ls : List CacheLine) → list_all test ls ≡ true → list_all test (change_line n f ls) ≡ true
passes_changed_at test n f keeps [] h = h
passes_changed_at test n f keeps (l ∷ ls) h =
    both _ _ (one (has_number n l) refl) (passes_changed_at test n f keeps ls (and_right (test l) _ h))
  where
    both : (a b : Bool) → a ≡ true → b ≡ true → (a && b) ≡ true
    both true b h g = g
    both false b h g = absurd (cc)

    one : (b : Bool) → has_number n l ≡ b → test (if b then f l else l) ≡ true
    one true is = keeps l is (and_left _ _ h)
    one false is = and_left _ _ h

pub buffers_at : (k : ℕ) (s : System) (p : Processor) → slice_get s.processors k ≡ Some p → buffers_of s k ≡ p.buffers
buffers_at k s p at = ap (λ (o : Option Processor). option_map_or (λ q. q.buffers) o []) at

-- a buffer that is emptied leaves the lists of buffers
pub emptied_buffers : (s : System) (b : CacheLine) (k : ℕ) → buffers_of (empty_buffer s b) k ≡ buffers_of s k
emptied_buffers s b k =
    ap (λ (o : Option Processor). option_map_or (λ q. q.buffers) o [])
    (slice_get-map (with_lines (without_line b.number)) (bus_read b.number s).processors k
    ∙ ap (option_map (with_lines (without_line b.number))) (slice_get-map (with_lines (change_line b.number clean_line)) s.processors k))
    ∙ one (slice_get s.processors k)
  where
    one : (o : Option Processor) → option_map_or (λ q. q.buffers) (option_map (with_lines (without_line b.number)) (option_map (with_lines (change_line b.number clean_line)) o)) [] ≡ option_map_or (λ q. q.buffers) o []
    one None = refl
    one (Some p) = refl

module _ (ws : List Window) (aligned : AllAligned ws) where
  module _ (k address value : ℕ) (whole' : address % 8 ≡ 0) (placed : is_placed ws (line_of address) ≡ true) where
    abbrev with_word : Processor → Processor
    with_word p = record p { buffers = combined_with (line_of address) (word_of address) value p.era p.buffers }

    -- a buffer that is added has room
    abbrev pub HasRoom : Processor → Type 0
    HasRoom p = find_line (line_of address) p.buffers ≡ None → length p.buffers < 4

    fits_word : (p : Processor) → HasRoom p → FitsMemory ws p → FitsMemory ws (record p { buffers = combined_with (line_of address) (word_of address) value p.era p.buffers })
    fits_word p room h = record {
      lines_apart = h.lines_apart;
      lines_fit = h.lines_fit;
      buffers_apart = apart (find_line (line_of address) p.buffers) refl;
      buffers_fit = fit (find_line (line_of address) p.buffers);
      few_lines = h.few_lines;
      few_buffers = few (find_line (line_of address) p.buffers) refl;
    }
      where
        apart : (o : Option CacheLine) → find_line (line_of address) p.buffers ≡ o → Apart (if is_some o then change_line (line_of address) (write_dirty (word_of address) value) p.buffers else p.buffers ++ write_dirty (word_of address) value (record { number = line_of address; words = 0 ∷ 0 ∷ 0 ∷ 0 ∷ 0 ∷ 0 ∷ 0 ∷ 0 ∷ []; dirty = 0; era = p.era }) ∷ [])
        apart None is = apart_append p.buffers (write_dirty (word_of address) value (record { number = line_of address; words = 0 ∷ 0 ∷ 0 ∷ 0 ∷ 0 ∷ 0 ∷ 0 ∷ 0 ∷ []; dirty = 0; era = p.era })) h.buffers_apart is
        apart (Some b) is = apart_change (line_of address) (write_dirty (word_of address) value) (λ l. refl) p.buffers h.buffers_apart

        fit : (o : Option CacheLine) → list_all (fits ws) (if is_some o then change_line (line_of address) (write_dirty (word_of address) value) p.buffers else p.buffers ++ write_dirty (word_of address) value (record { number = line_of address; words = 0 ∷ 0 ∷ 0 ∷ 0 ∷ 0 ∷ 0 ∷ 0 ∷ 0 ∷ []; dirty = 0; era = p.era }) ∷ []) ≡ true
        fit None = passes_append (fits ws) p.buffers _ h.buffers_fit (fits_dirty ws (word_of address) value (word_small address) (record { number = line_of address; words = 0 ∷ 0 ∷ 0 ∷ 0 ∷ 0 ∷ 0 ∷ 0 ∷ 0 ∷ []; dirty = 0; era = p.era }) (fits_of ws (record { number = line_of address; words = 0 ∷ 0 ∷ 0 ∷ 0 ∷ 0 ∷ 0 ∷ 0 ∷ 0 ∷ []; dirty = 0; era = p.era }) placed refl (omega arith)))
        fit (Some b) = passes_changed (fits ws) (line_of address) (write_dirty (word_of address) value) (fits_dirty ws (word_of address) value (word_small address)) p.buffers h.buffers_fit

        few : (o : Option CacheLine) → find_line (line_of address) p.buffers ≡ o → length (if is_some o then change_line (line_of address) (write_dirty (word_of address) value) p.buffers else p.buffers ++ write_dirty (word_of address) value (record { number = line_of address; words = 0 ∷ 0 ∷ 0 ∷ 0 ∷ 0 ∷ 0 ∷ 0 ∷ 0 ∷ []; dirty = 0; era = p.era }) ∷ []) ≤ 4
        few None is = let b = room is in let c = add_length p.buffers (write_dirty (word_of address) value (record { number = line_of address; words = 0 ∷ 0 ∷ 0 ∷ 0 ∷ 0 ∷ 0 ∷ 0 ∷ 0 ∷ []; dirty = 0; era = p.era })) in omega arith
        few (Some b) is = let c = change_length (line_of address) (write_dirty (word_of address) value) p.buffers in let d = h.few_buffers in omega arith

    dirty_unwritten : (a : ℕ) → a % 8 ≡ 0 → a ≢ address → (l : CacheLine) → has_number (line_of address) l ≡ true → is_unwritten a l ≡ true → is_unwritten a (write_dirty (word_of address) value l) ≡ true
    dirty_unwritten a whole apart l number h = one (l.number == line_of a) refl h
      where
        one : (b : Bool) → (l.number == line_of a) ≡ b → not (b && is_dirty l (word_of a)) ≡ true → not (b && is_dirty (write_dirty (word_of address) value l) (word_of a)) ≡ true
        one false is g = refl
        one true is g =
            let same : line_of a ≡ line_of address = sym (eqb-true l.number (line_of a) is) ∙ eqb-true l.number (line_of address) number in
            ap not (set_other l.dirty (word_of address) (word_of a) (λ e. apart (same_word a address whole whole' same e))) ∙ g

    word_unwritten : (a : ℕ) → a % 8 ≡ 0 → a ≢ address → (p : Processor) → unwritten a p.buffers ≡ true → unwritten a (combined_with (line_of address) (word_of address) value p.era p.buffers) ≡ true
    word_unwritten a whole apart p h = one (is_some (find_line (line_of address) p.buffers))
      where
        none_dirty : (b : Bool) → not (b && false) ≡ true
        none_dirty true = refl
        none_dirty false = refl

        one : (b : Bool) → unwritten a (if b then change_line (line_of address) (write_dirty (word_of address) value) p.buffers else p.buffers ++ write_dirty (word_of address) value (record { number = line_of address; words = 0 ∷ 0 ∷ 0 ∷ 0 ∷ 0 ∷ 0 ∷ 0 ∷ 0 ∷ []; dirty = 0; era = p.era }) ∷ []) ≡ true
        one true = passes_changed_at (is_unwritten a) (line_of address) (write_dirty (word_of address) value) (dirty_unwritten a whole apart) p.buffers h
        one false = passes_append (is_unwritten a) p.buffers _ h
            (dirty_unwritten a whole apart (record { number = line_of address; words = 0 ∷ 0 ∷ 0 ∷ 0 ∷ 0 ∷ 0 ∷ 0 ∷ 0 ∷ []; dirty = 0; era = p.era }) (eq-eqb (line_of address) (line_of address) refl)
            (ap (λ d. not ((line_of address == line_of a) && d)) (no_bit (word_of a)) ∙ none_dirty (line_of address == line_of a)))

    -- the buffers with room for one more line
    abbrev with_room : System → System
    with_room s =
        if is_some (find_line (line_of address) (buffers_of s k)) then s
        else option_map_or (λ b. change (with_buffers (without_line b.number)) k (empty_buffer s b)) (oldest_of_full 4 (buffers_of s k)) s

    roomy_stands : (s : System) → Stands ws s → Stands ws (with_room s)
    roomy_stands s st = one (is_some (find_line (line_of address) (buffers_of s k))) (oldest_of_full 4 (buffers_of s k))
      where
        one : (c : Bool) (o : Option CacheLine) → Stands ws (if c then s else option_map_or (λ b. change (with_buffers (without_line b.number)) k (empty_buffer s b)) o s)
        one true o = st
        one false None = st
        one false (Some b) = stands_one ws aligned k b.number s b st

    roomy_word : (may : Bool) (a x : ℕ) (s : System) → a % 8 ≡ 0 → Stands ws s → Word may a x s → After may a x (with_room s)
    roomy_word may a x s whole st w = one (is_some (find_line (line_of address) (buffers_of s k))) (oldest_of_full 4 (buffers_of s k)) refl
      where
        one : (c : Bool) (o : Option CacheLine) → oldest_of_full 4 (buffers_of s k) ≡ o → After may a x (if c then s else option_map_or (λ b. change (with_buffers (without_line b.number)) k (empty_buffer s b)) o s)
        one true o is = after_word may a x s w
        one false None is = after_word may a x s w
        one false (Some b) is =
            let found = oldest_found 4 (buffers_of s k) b is in
            one_word ws aligned may a x k b.number s b whole st
            (found_passes (fits ws) b.number (buffers_of s k) b (buffers_fit_at ws aligned k s st) found)
            (λ h. found_passes (is_unwritten a) b.number (buffers_of s k) b (buffers_unwritten_at ws aligned a k s (w.writes h)) found)
            w

    pub roomy_few : (s : System) → Stands ws s → (q : Processor) → slice_get (with_room s).processors k ≡ Some q → HasRoom q
    roomy_few s st q = one (find_line (line_of address) (buffers_of s k)) refl (oldest_of_full 4 (buffers_of s k)) refl
      where
        one : (c : Option CacheLine) → find_line (line_of address) (buffers_of s k) ≡ c → (o : Option CacheLine) → oldest_of_full 4 (buffers_of s k) ≡ o → slice_get (if is_some c then s else option_map_or (λ b. change (with_buffers (without_line b.number)) k (empty_buffer s b)) o s).processors k ≡ Some q → HasRoom q
        one (Some c) found o is at none = absurd (let g = ap (find_line (line_of address)) (sym (buffers_at k s q at)) ∙ found in cc)
        one None found None is at none = oldest_none 4 q.buffers (omega arith) (fit_at ws s.processors k q st.fit at).few_buffers (ap (oldest_of_full 4) (sym (buffers_at k s q at)) ∙ is)
        one None found (Some b) is at none =
            ⊎_elim
            (λ (e : (k ≡ k) × (x : Processor) × (slice_get (empty_buffer s b).processors k ≡ Some x) × (with_buffers (without_line b.number) x ≡ q)).
            let same : buffers_of s k ≡ e.1.buffers = sym (emptied_buffers s b k) ∙ buffers_at k (empty_buffer s b) e.1 e.2 in
            let few : length e.1.buffers ≤ 4 = (fit_at ws (empty_buffer s b).processors k e.1 (stands_empty ws aligned s b st).fit e.2).few_buffers in
            subst (λ (p : Processor). length p.buffers < 4) e.3 (oldest_some 4 e.1.buffers b few (ap (oldest_of_full 4) (sym same) ∙ is)))
            (λ (e : (k ≢ k) × (slice_get (empty_buffer s b).processors k ≡ Some q)). absurd (e.0 refl))
            (at_change (with_buffers (without_line b.number)) k (empty_buffer s b) k q at)

    pub joined_stands : (s : System) → ((q : Processor) → slice_get s.processors k ≡ Some q → HasRoom q) → Stands ws s → Stands ws (change with_word k s)
    joined_stands s room st = stands_change ws with_word k s (λ p at h. fits_word p (room p at) h) st

    joined_word : (may : Bool) (a x : ℕ) (s : System) → a % 8 ≡ 0 → (may ≡ false → a ≢ address) → Word may a x s → Word may a x (change with_word k s)
    joined_word may a x s whole other w = word_buffers may a x with_word k s (λ p. refl) (λ h p g. word_unwritten a whole (other h) p g) w

    full_stands : (s : System) → Stands ws s → Stands ws (option_map_or (λ (b : CacheLine). if b.dirty == 0xff then drain_line k (line_of address) s else s) (find_line (line_of address) (buffers_of s k)) s)
    full_stands s st = one (find_line (line_of address) (buffers_of s k))
      where
        two : (c : Bool) → Stands ws (if c then drain_line k (line_of address) s else s)
        two true = stands_drain_line ws aligned k (line_of address) s st
        two false = st

        one : (o : Option CacheLine) → Stands ws (option_map_or (λ (b : CacheLine). if b.dirty == 0xff then drain_line k (line_of address) s else s) o s)
        one None = st
        one (Some b) = two (b.dirty == 0xff)

    full_word : (may : Bool) (a x : ℕ) (s : System) → a % 8 ≡ 0 → Stands ws s → Word may a x s → After may a x (option_map_or (λ (b : CacheLine). if b.dirty == 0xff then drain_line k (line_of address) s else s) (find_line (line_of address) (buffers_of s k)) s)
    full_word may a x s whole st w = one (find_line (line_of address) (buffers_of s k))
      where
        two : (c : Bool) → After may a x (if c then drain_line k (line_of address) s else s)
        two true = drain_line_word ws aligned may a x k (line_of address) s whole st w
        two false = after_word may a x s w

        one : (o : Option CacheLine) → After may a x (option_map_or (λ (b : CacheLine). if b.dirty == 0xff then drain_line k (line_of address) s else s) o s)
        one None = after_word may a x s w
        one (Some b) = two (b.dirty == 0xff)

    combine_stands : (s : System) → Stands ws s → Stands ws (combine k (line_of address) (word_of address) value s)
    combine_stands s st = full_stands (change with_word k (with_room s)) (joined_stands (with_room s) (roomy_few s st) (roomy_stands s st))

    combine_word : (may : Bool) (a x : ℕ) (s : System) → a % 8 ≡ 0 → (may ≡ false → a ≢ address) → Stands ws s → Word may a x s → After may a x (combine k (line_of address) (word_of address) value s)
    combine_word may a x s whole other st w =
        after_then may a x (with_room s) _ (roomy_word may a x s whole st w)
        (λ y v. full_word may a y (change with_word k (with_room s)) whole (joined_stands (with_room s) (roomy_few s st) (roomy_stands s st)) (joined_word may a y (with_room s) whole other v))

    -- ---- stores

    pub store_after_stands : (t : MemType) (s : System) → Has k s → Stands ws s → Stands ws (store_after t k address value s)
    store_after_stands UC s has st = flush_put_stands ws aligned k address value whole' placed s st
    store_after_stands WC s has st = combine_stands s st
    store_after_stands WT s has st = through_stands ws aligned k address value whole' placed s st
    store_after_stands WP s has st = flush_put_stands ws aligned k address value whole' placed s st
    store_after_stands WB s has st = one (find_line (line_of address) (lines_of s k)) refl (cache_disabled_of s k)
      where
        one : (o : Option CacheLine) → find_line (line_of address) (lines_of s k) ≡ o → (c : Bool) → Stands ws (if is_some o then store_hit k address value s else (if c then store_past k address value s else store_filling k address value s))
        one (Some l) is c = hit_stands ws aligned k address value whole' placed s st
        one None is true = past_put_stands ws aligned k address value whole' placed s st
        one None is false = filling_stands ws aligned k address value whole' placed s has.0 has.1 (misses_of (line_of address) k s is) st

    -- every store but one that is combined sets its word, and leaves the others
    pub store_put : (t : MemType) → is_combined t ≡ false → (may : Bool) (a x : ℕ) (s : System) → Has k s → a % 8 ≡ 0 → Stands ws s → Word may a x s → Put may a x value (store_after t k address value s) (a == address)
    store_put UC sets may a x s has whole st w = flush_put_word ws aligned k address value whole' placed may a x s whole st w
    store_put WC sets may a x s has whole st w = absurd (cc)
    store_put WT sets may a x s has whole st w = through_word ws aligned k address value whole' placed may a x s has.0 has.1 whole st w
    store_put WP sets may a x s has whole st w = flush_put_word ws aligned k address value whole' placed may a x s whole st w
    store_put WB sets may a x s has whole st w = one (find_line (line_of address) (lines_of s k)) refl (cache_disabled_of s k)
      where
        one : (o : Option CacheLine) → find_line (line_of address) (lines_of s k) ≡ o → (c : Bool) → Put may a x value (if is_some o then store_hit k address value s else (if c then store_past k address value s else store_filling k address value s)) (a == address)
        one (Some l) is c = hit_word ws aligned k address value whole' placed may a x s has.0 l has.1 (ap (find_line (line_of address)) (sym (lines_at k s has.0 has.1)) ∙ is) whole st w
        one None is true = past_missing ws aligned k address value whole' placed may a x s has.0 has.1 (misses_of (line_of address) k s is) whole st w
        one None is false = filling_word ws aligned k address value whole' placed s has.0 has.1 (misses_of (line_of address) k s is) st may a x whole w

    store_after_word : (t : MemType) (may : Bool) (a x : ℕ) (s : System) → Has k s → a % 8 ≡ 0 → (may ≡ false → a ≢ address) → Stands ws s → Word may a x s → After may a x (store_after t k address value s)
    store_after_word WC may a x s has whole other st w = combine_word may a x s whole other st w
    store_after_word t may a x s has whole other st w =
        put_after may a x value (store_after t k address value s) (a == address) (λ h e. other h (eqb-true a address e)) (store_put t refl may a x s has whole st w)

  -- ---- what comes first

  first_load_stands : (t : MemType) (k n : ℕ) (s : System) → Stands ws s → Stands ws (first_of_load t k n s)
  first_load_stands UC k n s st = stands_drain ws aligned k s st
  first_load_stands other k n s st = stands_drain_line ws aligned k n s st

  first_load_word : (t : MemType) (may : Bool) (a x k n : ℕ) (s : System) → a % 8 ≡ 0 → Stands ws s → Word may a x s → After may a x (first_of_load t k n s)
  first_load_word UC may a x k n s whole st w = drain_word ws aligned may a x k s whole st w
  first_load_word other may a x k n s whole st w = drain_line_word ws aligned may a x k n s whole st w

  first_store_stands : (t : MemType) (k n : ℕ) (s : System) → Stands ws s → Stands ws (first_of_store t k n s)
  first_store_stands UC k n s st = stands_drain ws aligned k s st
  first_store_stands WC k n s st = st
  first_store_stands other k n s st = stands_drain_line ws aligned k n s st

  first_store_word : (t : MemType) (may : Bool) (a x k n : ℕ) (s : System) → a % 8 ≡ 0 → Stands ws s → Word may a x s → After may a x (first_of_store t k n s)
  first_store_word UC may a x k n s whole st w = drain_word ws aligned may a x k s whole st w
  first_store_word WC may a x k n s whole st w = after_word may a x s w
  first_store_word other may a x k n s whole st w = drain_line_word ws aligned may a x k n s whole st w

  -- ---- loads

  module _ (k address : ℕ) (placed : is_placed ws (line_of address) ≡ true) where
    misses_read : (s : System) → Misses (line_of address) k s → Misses (line_of address) k (bus_read (line_of address) s)
    misses_read s h q at =
        let found = read_from s.processors k q at in
        ap (λ (r : Processor). find_line (line_of address) r.lines) (sym found.2) ∙ none_changed (line_of address) clean_line (λ l. refl) found.0.lines (h found.0 found.1)
      where
        read_from : (ps : List Processor) (k : ℕ) (q : Processor) → slice_get (map (with_lines (change_line (line_of address) clean_line)) ps) k ≡ Some q → (p : Processor) × (slice_get ps k ≡ Some p) × (with_lines (change_line (line_of address) clean_line) p ≡ q)
        read_from [] k q at = absurd (cc)
        read_from (p ∷ ps) zero q at = (p, refl, cc)
        read_from (p ∷ ps) (suc k) q at = read_from ps k q at

    read_has : (s : System) → Has k s → Has k (bus_read (line_of address) s)
    read_has s h = (with_lines (change_line (line_of address) clean_line) h.0, slice_get-map (with_lines (change_line (line_of address) clean_line)) s.processors k ∙ ap (option_map (with_lines (change_line (line_of address) clean_line))) h.1)

    read_word : (may : Bool) (a x : ℕ) (s : System) → a % 8 ≡ 0 → Stands ws s → Word may a x s → Word may a x (bus_read (line_of address) s)
    read_word may a x s whole st w = one (line_of a == line_of address) refl
      where
        one : (b : Bool) → (line_of a == line_of address) ≡ b → Word may a x (bus_read (line_of address) s)
        one true is = clean_word may a x _ (read_same ws aligned may (line_of address) a x s whole (eqb-true (line_of a) (line_of address) is) st w) (λ h. read_writes ws aligned (line_of address) a s (w.writes h))
        one false is = leaves_word may a x s _ (leaves_read ws aligned (line_of address) a s (eqb-false (line_of a) (line_of address) is) st) w

    filled_word : (may : Bool) (a x : ℕ) (s : System) → Has k s → Misses (line_of address) k s → a % 8 ≡ 0 → Stands ws s → Word may a x s → Word may a x (fill_line k (line_of address) (bus_read (line_of address) s))
    filled_word may a x s has misses whole st w =
        let t : System = bus_read (line_of address) s in
        let h = read_has s has in
        let stt = stands_read ws aligned (line_of address) s st in
        let ms = misses_read s misses in
        one t h stt ms (line_of a == line_of address) refl
      where
        one : (t : System) (h : Has k (bus_read (line_of address) s)) → Stands ws (bus_read (line_of address) s) → Misses (line_of address) k (bus_read (line_of address) s) → (b : Bool) → (line_of a == line_of address) ≡ b → Word may a x (fill_line k (line_of address) (bus_read (line_of address) s))
        one t h stt ms true is =
            let same : line_of a ≡ line_of address = eqb-true (line_of a) (line_of address) is in
            clean_word may a x _
            (fill_clean ws aligned k (line_of address) (bus_read (line_of address) s) h.0 h.1 stt ms placed a x whole same (read_same ws aligned may (line_of address) a x s whole same st w))
            (λ g. fill_writes ws aligned k (line_of address) (bus_read (line_of address) s) h.0 h.1 stt ms placed a same (read_writes ws aligned (line_of address) a s (w.writes g)))
        one t h stt ms false is =
            fill_other ws aligned k (line_of address) (bus_read (line_of address) s) h.0 h.1 stt ms placed may a x whole (eqb-false (line_of a) (line_of address) is) (read_word may a x s whole st w)

    -- where a load fills a line, the cache has none of that number
    pub load_after_stands : (t : MemType) (s : System) → Has k s → Stands ws s → Stands ws (load_after t k address s).1
    load_after_stands t s has st = one (is_cached t) (find_line (line_of address) (lines_of s k)) refl (cache_disabled_of s k)
      where
        one : (c : Bool) (o : Option CacheLine) → find_line (line_of address) (lines_of s k) ≡ o → (d : Bool) → Stands ws (option_map_or {U = ℕ × System} (λ (l : CacheLine). (slice_index l.words (word_of address), s)) (if c then o else None) (word_at (bus_read (line_of address) s).memory address, (if c && not d then fill_line k (line_of address) (bus_read (line_of address) s) else bus_read (line_of address) s))).1
        one true (Some l) is d = st
        one true None is true = stands_read ws aligned (line_of address) s st
        one true None is false = let h = read_has s has in stands_fill ws aligned k (line_of address) (bus_read (line_of address) s) h.0 h.1 (stands_read ws aligned (line_of address) s st) (misses_read s (misses_of (line_of address) k s is)) placed
        one false o is d = stands_read ws aligned (line_of address) s st

    pub load_after_word : (t : MemType) (may : Bool) (a x : ℕ) (s : System) → Has k s → a % 8 ≡ 0 → Stands ws s → Word may a x s → Word may a x (load_after t k address s).1
    load_after_word t may a x s has whole st w = one (is_cached t) (find_line (line_of address) (lines_of s k)) refl (cache_disabled_of s k)
      where
        one : (c : Bool) (o : Option CacheLine) → find_line (line_of address) (lines_of s k) ≡ o → (d : Bool) → Word may a x (option_map_or {U = ℕ × System} (λ (l : CacheLine). (slice_index l.words (word_of address), s)) (if c then o else None) (word_at (bus_read (line_of address) s).memory address, (if c && not d then fill_line k (line_of address) (bus_read (line_of address) s) else bus_read (line_of address) s))).1
        one true (Some l) is d = w
        one true None is true = read_word may a x s whole st w
        one true None is false = filled_word may a x s has (misses_of (line_of address) k s is) whole st w
        one false o is d = read_word may a x s whole st w

    pub load_stands : (t : MemType) (s : System) → Has k s → Stands ws s → Stands ws (load t k address s).1
    load_stands t s has st =
        let first : System = first_of_load t k (line_of address) s in
        load_after_stands t first (has_after k s first (first_load_stages t k (line_of address) s) has) (first_load_stands t k (line_of address) s st)

    pub load_word : (t : MemType) (may : Bool) (a x : ℕ) (s : System) → Has k s → a % 8 ≡ 0 → Stands ws s → Word may a x s → After may a x (load t k address s).1
    load_word t may a x s has whole st w =
        let first : System = first_of_load t k (line_of address) s in
        after_then may a x first _ (first_load_word t may a x k (line_of address) s whole st w)
        (λ y v. after_word may a y _ (load_after_word t may a y first (has_after k s first (first_load_stages t k (line_of address) s) has) whole (first_load_stands t k (line_of address) s st) v))

  -- ---- stores, with what comes first

  module _ (k address value : ℕ) (whole' : address % 8 ≡ 0) (placed : is_placed ws (line_of address) ≡ true) where
    pub store_stands : (t : MemType) (s : System) → Has k s → Stands ws s → Stands ws (store t k address value s)
    store_stands t s has st =
        let first : System = first_of_store t k (line_of address) s in
        store_after_stands k address value whole' placed t first (has_after k s first (first_store_stages t k (line_of address) s) has) (first_store_stands t k (line_of address) s st)

    pub store_word : (t : MemType) (may : Bool) (a x : ℕ) (s : System) → Has k s → a % 8 ≡ 0 → (may ≡ false → a ≢ address) → Stands ws s → Word may a x s → After may a x (store t k address value s)
    store_word t may a x s has whole other st w =
        let first : System = first_of_store t k (line_of address) s in
        after_then may a x first _ (first_store_word t may a x k (line_of address) s whole st w)
        (λ y v. store_after_word k address value whole' placed t may a y first (has_after k s first (first_store_stages t k (line_of address) s) has) whole other (first_store_stands t k (line_of address) s st) v)

  -- ---- accesses

  abbrev pick : Bool → Answered → Answered → Answered
  pick b x y = if b then x else y

  abbrev loaded : System → ℕ → Entry → ℕ → Answered
  loaded s k e address = record { answer = Value (load e.kind k (physical e address) s).0 e.kind; after = (load e.kind k (physical e address) s).1 }

  abbrev stored : System → ℕ → Entry → ℕ → ℕ → Answered
  stored s k e address value = record { answer = Stored e.kind; after = store e.kind k (physical e address) value s }

  abbrev no_ram : System → Answered
  no_ram s = record { answer = NoRam; after = s }

  translated_stands : (s : System) (k : ℕ) (e : Entry) (op : Op) → Has k s → Stands ws s → Stands ws (translated s k e op).after
  translated_stands s k e (Load address) has st = one (is_some (place s.memory (physical e address))) refl
    where
      one : (b : Bool) → is_some (place s.memory (physical e address)) ≡ b → Stands ws (pick b (loaded s k e address) (no_ram s)).after
      one false is = st
      one true is = load_stands k (physical e address) (line_placed ws s.memory (physical e address) aligned st.memory is).0 e.kind s has st
  translated_stands s k e (Store address value) has st = one (is_some (place s.memory (physical e address))) refl
    where
      one : (b : Bool) → is_some (place s.memory (physical e address)) ≡ b → Stands ws (pick b (stored s k e address value) (no_ram s)).after
      one false is = st
      one true is =
          let p = line_placed ws s.memory (physical e address) aligned st.memory is in
          store_stands k (physical e address) value p.1 p.0 e.kind s has st
  translated_stands s k e Fence has st = st

  translated_word : (s : System) (k : ℕ) (e : Entry) (op : Op) (may : Bool) (a x : ℕ) → Has k s → a % 8 ≡ 0 → Stands ws s → (may ≡ false → is_stored (translated s k e op).answer ≡ true → a ≢ physical e (address_of op)) → Word may a x s → After may a x (translated s k e op).after
  translated_word s k e (Load address) may a x has whole st other w = one (is_some (place s.memory (physical e address))) refl
    where
      one : (b : Bool) → is_some (place s.memory (physical e address)) ≡ b → After may a x (pick b (loaded s k e address) (no_ram s)).after
      one false is = after_word may a x s w
      one true is = load_word k (physical e address) (line_placed ws s.memory (physical e address) aligned st.memory is).0 e.kind may a x s has whole st w
  translated_word s k e (Store address value) may a x has whole st other w = one (is_some (place s.memory (physical e address))) refl other
    where
      one : (b : Bool) → is_some (place s.memory (physical e address)) ≡ b
          → (may ≡ false → is_stored (pick b (stored s k e address value) (no_ram s)).answer ≡ true → a ≢ physical e address)
          → After may a x (pick b (stored s k e address value) (no_ram s)).after
      one false is g = after_word may a x s w
      one true is g =
          let p = line_placed ws s.memory (physical e address) aligned st.memory is in
          store_word k (physical e address) value p.1 p.0 e.kind may a x s has whole (λ h. g h refl) st w
  translated_word s k e Fence may a x has whole st other w = after_word may a x s w

  fits_entry : (e : Entry) (p : Processor) → FitsMemory ws p → FitsMemory ws (keep_entry e p)
  fits_entry e p h = one (is_some (find (λ x. x.vpage == e.vpage) p.entries))
    where
      one : (b : Bool) → FitsMemory ws (if b then p else record p { entries = add_entry e p.entries })
      one true = h
      one false = record { lines_apart = h.lines_apart; lines_fit = h.lines_fit; buffers_apart = h.buffers_apart; buffers_fit = h.buffers_fit; few_lines = h.few_lines; few_buffers = h.few_buffers }

  pub entry_lines : (e : Entry) (p : Processor) → ((keep_entry e p).lines ≡ p.lines) × ((keep_entry e p).buffers ≡ p.buffers)
  entry_lines e p = one (is_some (find (λ x. x.vpage == e.vpage) p.entries))
    where
      one : (b : Bool) → ((if b then p else record p { entries = add_entry e p.entries }).lines ≡ p.lines) × ((if b then p else record p { entries = add_entry e p.entries }).buffers ≡ p.buffers)
      one true = (refl, refl)
      one false = (refl, refl)

  -- a change of the processor that leaves its lines and buffers
  pub quiet_stands : (f : Processor → Processor) (k : ℕ) (s : System) → ((p : Processor) → ((f p).lines ≡ p.lines) × ((f p).buffers ≡ p.buffers)) → Stands ws s → Stands ws (change f k s)
  quiet_stands f k s same st =
      stands_change ws f k s
      (λ p at h. record {
        lines_apart = subst Apart (sym (same p).0) h.lines_apart;
        lines_fit = ap (list_all (fits ws)) (same p).0 ∙ h.lines_fit;
        buffers_apart = subst Apart (sym (same p).1) h.buffers_apart;
        buffers_fit = ap (list_all (fits ws)) (same p).1 ∙ h.buffers_fit;
        few_lines = subst (λ (ls : List CacheLine). length ls ≤ 64) (sym (same p).0) h.few_lines;
        few_buffers = subst (λ (ls : List CacheLine). length ls ≤ 4) (sym (same p).1) h.few_buffers;
      })
      st

  pub quiet_word : (f : Processor → Processor) (k : ℕ) (s : System) (may : Bool) (a x : ℕ) → ((p : Processor) → ((f p).lines ≡ p.lines) × ((f p).buffers ≡ p.buffers)) → Word may a x s → Word may a x (change f k s)
  quiet_word f k s may a x same w =
      leaves_word may a x s (change f k s) (leaves_change a f k s (λ p at. ap (copy_in a) (same p).0) (λ p at h. ap (unwritten a) (same p).1 ∙ h)) w

  pub entry_has : (e : Entry) (k : ℕ) (s : System) (p : Processor) → slice_get s.processors k ≡ Some p → Has k (change (keep_entry e) k s)
  entry_has e k s p at = (keep_entry e p, changed_at (keep_entry e) k s p at)

  entry_stands : (s : System) (k : ℕ) (p : Processor) (op : Op) → slice_get s.processors k ≡ Some p → Stands ws s → (o : Option Entry) → Stands ws (option_map_or (λ e. translated (change (keep_entry e) k s) k e op) o (record { answer = Unmapped; after = s })).after
  entry_stands s k p op at st None = st
  entry_stands s k p op at st (Some e) = translated_stands (change (keep_entry e) k s) k e op (entry_has e k s p at) (quiet_stands (keep_entry e) k s (entry_lines e) st)

  access_at_stands : (s : System) (k : ℕ) (p : Processor) (op : Op) → slice_get s.processors k ≡ Some p → Stands ws s → Stands ws (access_at s k p op).after
  access_at_stands s k p Fence at st = stands_drain ws aligned k s st
  access_at_stands s k p (Load address) at st = entry_stands s k p (Load address) at st (entry_of p (address / 4096))
  access_at_stands s k p (Store address value) at st = entry_stands s k p (Store address value) at st (entry_of p (address / 4096))

  pub access_stands : (s : System) (k : ℕ) (op : Op) → Stands ws s → Stands ws (access s k op).after
  access_stands s k op st = one (slice_get s.processors k) refl
    where
      two : (p : Processor) (b : Bool) → slice_get s.processors k ≡ Some p → Stands ws (if b then access_at s k p op else record { answer = Busy; after = s }).after
      two p true at = access_at_stands s k p op at st
      two p false at = st

      one : (o : Option Processor) → slice_get s.processors k ≡ o → Stands ws (option_map_or (λ p. if is_running p.phase then access_at s k p op else record { answer = Busy; after = s }) o (record { answer = Busy; after = s })).after
      one None is = st
      one (Some p) is = two p (is_running p.phase) is

  -- ---- the same for one word: it isn't the word that the access stores, where it may not have been stored

  entry_word : (s : System) (k : ℕ) (p : Processor) (op : Op) (may : Bool) (a x : ℕ) → slice_get s.processors k ≡ Some p → a % 8 ≡ 0 → Stands ws s → (o : Option Entry)
      → ((e : Entry) → o ≡ Some e → may ≡ false → is_stored (translated (change (keep_entry e) k s) k e op).answer ≡ true → a ≢ physical e (address_of op))
      → Word may a x s → After may a x (option_map_or (λ e. translated (change (keep_entry e) k s) k e op) o (record { answer = Unmapped; after = s })).after
  entry_word s k p op may a x at whole st None other w = after_word may a x s w
  entry_word s k p op may a x at whole st (Some e) other w =
      translated_word (change (keep_entry e) k s) k e op may a x (entry_has e k s p at) whole (quiet_stands (keep_entry e) k s (entry_lines e) st) (other e refl) (quiet_word (keep_entry e) k s may a x (entry_lines e) w)

  -- the access stores another word, where this one may not have been stored
  abbrev IsElsewhere : Bool → ℕ → System → ℕ → Processor → Op → Type 0
  IsElsewhere may a s k p (Store address value) =
      may ≡ false → (if is_stored (access_at s k p (Store address value)).answer then option_map (λ e. physical e address) (entry_of p (address / 4096)) else None) ≡ Some a → ⊥
  IsElsewhere may a s k p other = Unit {0}

  access_at_word : (s : System) (k : ℕ) (p : Processor) (op : Op) (may : Bool) (a x : ℕ) → slice_get s.processors k ≡ Some p → a % 8 ≡ 0 → Stands ws s
      → IsElsewhere may a s k p op → Word may a x s → After may a x (access_at s k p op).after
  access_at_word s k p Fence may a x at whole st other w = drain_word ws aligned may a x k s whole st w
  access_at_word s k p (Load address) may a x at whole st other w =
      entry_word s k p (Load address) may a x at whole st (entry_of p (address / 4096)) (λ e is h was. absurd (not_stored e was)) w
    where
      not_stored : (e : Entry) → is_stored (translated (change (keep_entry e) k s) k e (Load address)).answer ≡ true → ⊥
      not_stored e h = one (is_some (place (change (keep_entry e) k s).memory (physical e address))) h
        where
          one : (b : Bool) → is_stored (pick b (loaded (change (keep_entry e) k s) k e address) (no_ram (change (keep_entry e) k s))).answer ≡ true → ⊥
          one true g = absurd (cc)
          one false g = absurd (cc)
  access_at_word s k p (Store address value) may a x at whole st other w =
      entry_word s k p (Store address value) may a x at whole st (entry_of p (address / 4096)) (λ e is h was same. other h (one e is was (sym same))) w
    where
      one : (e : Entry) → entry_of p (address / 4096) ≡ Some e → is_stored (translated (change (keep_entry e) k s) k e (Store address value)).answer ≡ true → physical e address ≡ a
          → (if is_stored (access_at s k p (Store address value)).answer then option_map (λ e. physical e address) (entry_of p (address / 4096)) else None) ≡ Some a
      one e is was same =
          ap (λ (o : Option Entry). if is_stored (option_map_or (λ d. translated (change (keep_entry d) k s) k d (Store address value)) o (record { answer = Unmapped; after = s })).answer then option_map (λ d. physical d address) o else None) is
          ∙ ap (λ b. if b then Some (physical e address) else None) was
          ∙ ap (λ (v : ℕ). Some v) same

  access_found : (s : System) (k : ℕ) (op : Op) (may : Bool) (a x : ℕ) → a % 8 ≡ 0 → Stands ws s → ((p : Processor) → slice_get s.processors k ≡ Some p → is_running p.phase ≡ true → IsElsewhere may a s k p op)
      → Word may a x s → After may a x (access s k op).after
  access_found s k op may a x whole st other w = one (slice_get s.processors k) refl
    where
      two : (p : Processor) (b : Bool) → slice_get s.processors k ≡ Some p → is_running p.phase ≡ b → After may a x (pick b (access_at s k p op) (record { answer = Busy; after = s })).after
      two p true at runs = access_at_word s k p op may a x at whole st (other p at runs) w
      two p false at runs = after_word may a x s w

      one : (o : Option Processor) → slice_get s.processors k ≡ o → After may a x (option_map_or {U = Answered} (λ p. if is_running p.phase then access_at s k p op else record { answer = Busy; after = s }) o (record { answer = Busy; after = s })).after
      one None is = after_word may a x s w
      one (Some p) is = two p (is_running p.phase) is refl

  -- where the access stores the word, it may have been stored
  pub access_word : (m : Machine) (k : ℕ) (op : Op) (may : Bool) (a x : ℕ) → a % 8 ≡ 0 → Stands ws m.system → (may ≡ false → stored_word m (Accesses k op) ≡ Some a → ⊥) → Word may a x m.system → After may a x (access m.system k op).after
  access_word m k Fence may a x whole st other w = access_found m.system k Fence may a x whole st (λ p at runs. tt) w
  access_word m k (Load address) may a x whole st other w = access_found m.system k (Load address) may a x whole st (λ p at runs. tt) w
  access_word m k (Store address value) may a x whole st other w =
      access_found m.system k (Store address value) may a x whole st
      (λ p at runs h is. other h (found p at runs ∙ is))
      w
    where
      found : (p : Processor) → slice_get m.system.processors k ≡ Some p → is_running p.phase ≡ true
          → stored_word m (Accesses k (Store address value)) ≡ (if is_stored (access_at m.system k p (Store address value)).answer then option_map (λ e. physical e address) (entry_of p (address / 4096)) else None)
      found p at runs =
          ap (λ (o : Option Processor). if is_stored (option_map_or {U = Answered} (λ q. if is_running q.phase then access_at m.system k q (Store address value) else record { answer = Busy; after = m.system }) o (record { answer = Busy; after = m.system })).answer then option_map_or (λ q. option_map (λ e. physical e address) (entry_of q (address / 4096))) o None else None) at
          ∙ ap (λ b. if is_stored (pick b (access_at m.system k p (Store address value)) (record { answer = Busy; after = m.system })).answer then option_map (λ e. physical e address) (entry_of p (address / 4096)) else None) runs
