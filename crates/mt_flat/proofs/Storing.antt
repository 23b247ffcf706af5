-- Loads and stores of a physical word, beside the flat machine's.
use Rattle.std.proofs.Common.{◌≡◌, ℕ, zero, suc, ◌+◌, ◌%◌, ◌==◌, List, [], ◌∷◌, ◌++◌, set, Some, None, Option, Bool, true, false, refl, sym, ap, ◌∙◌, ⊎_elim}
use Rattle.std.specs.Prelude.{slice_get, slice_index, if◌then◌else◌, ◌&&◌, not, map, is_some}
use Rattle.std.specs.Option.{option_map_or, option_map}
use Rattle.std.proofs.lemmas.Option.{slice_get-map}
use Rattle.mt_kinds.specs.declared.mem_type.MemType.{MemType}
use Rattle.mt_kinds.specs.declared.mem_type.MemType.TheVariants.{UC, WC, WT, WP, WB}
use Rattle.mt_cache.specs.declared.line.CacheLine.{CacheLine}
use Rattle.mt_cache.specs.Lines.{is_dirty, find_line, without_line, change_line, clean_line, write_dirty, write_clean, oldest_of_full}
use Rattle.mt_machine.specs.Memory.{Window, fresh_line, word_at, line_of, word_of, write_back}
use Rattle.mt_machine.specs.System.{Processor, System, change, lines_of, buffers_of}
use Rattle.mt_machine.specs.Bus.{with_lines, bus_read, others_from, invalidate_others, write_back_others, make_room, fill_line}
use Rattle.mt_machine.specs.Access.{first_of_load, first_of_store, is_cached, cache_disabled_of, load_after, load, store_hit, store_filling, store_past, store_uncached, store_after, store}
use Rattle.mt_laws.proofs.Words.MemoryLaws.{AllAligned}
use Rattle.mt_laws.proofs.Words.Copies.{Copy, IsShared, IsOwned, Shows}
use Rattle.mt_laws.proofs.Words.LineLaws.{is_placed, look}
use Rattle.mt_laws.proofs.Words.BusLaws.{Word, copies, copies_at, change_case, read_same}
use Rattle.mt_laws.proofs.Words.AccessLaws.{lines_at}
use Rattle.mt_laws.proofs.Words.StoreLaws.{Has, Put}
use Rattle.mt_laws.proofs.Words.WordLaws.{store_put, is_combined, store_after_stands, load_after_stands, load_after_word}
use Rattle.mt_laws.proofs.Words.Sound.{shared_clean, clear_place}
use Rattle.mt_flat.specs.Flat.{Flat, flat_store, before_load, before_store, set_value}
use Rattle.mt_flat.specs.Seen.{written_of}
use Rattle.mt_flat.proofs.Emptying.{Same, has_drained, has_line_drained, same_drain, same_drain_line, same_combine}

-- ---- what leaves the buffers

abbrev pub all_buffers : List Processor → List (List CacheLine)
all_buffers ps = map (λ p. p.buffers) ps

abbrev pub KeepsBuffers : System → System → Type 0
KeepsBuffers s t = all_buffers t.processors ≡ all_buffers s.processors

pub buffers_kept : (s t : System) (j : ℕ) → KeepsBuffers s t → buffers_of t j ≡ buffers_of s j
buffers_kept s t j same = sym (seen t) ∙ ap (λ bss. option_map_or (λ bs. bs) (slice_get bss j) []) same ∙ seen s
  where
    of_option : (o : Option Processor) → option_map_or (λ bs. bs) (option_map (λ (p : Processor). p.buffers) o) [] ≡ option_map_or (λ p. p.buffers) o []
    of_option None = refl
    of_option (Some p) = refl

    seen : (u : System) → option_map_or (λ bs. bs) (slice_get (all_buffers u.processors) j) [] ≡ buffers_of u j
    seen u = ap (λ o. option_map_or (λ bs. bs) o []) (slice_get-map (λ (p : Processor). p.buffers) u.processors j) ∙ of_option (slice_get u.processors j)

map_buffers : (g : List CacheLine → List CacheLine) (ps : List Processor) → all_buffers (map (with_lines g) ps) ≡ all_buffers ps
map_buffers g [] = refl
map_buffers g (p ∷ ps) = ap (λ bss. p.buffers ∷ bss) (map_buffers g ps)

others_buffers : (g : List CacheLine → List CacheLine) (i k : ℕ) (ps : List Processor) → all_buffers (others_from i k (with_lines g) ps) ≡ all_buffers ps
others_buffers g i k [] = refl
others_buffers g i k (p ∷ ps) = λ j. one (i == k) j ∷ others_buffers g (i + 1) k ps j
  where
    one : (c : Bool) → (if c then p else with_lines g p).buffers ≡ p.buffers
    one true = refl
    one false = refl

set_buffers : (ps : List Processor) (k : ℕ) (p q : Processor) → slice_get ps k ≡ Some p → q.buffers ≡ p.buffers → all_buffers (set ps k q) ≡ all_buffers ps
set_buffers [] k p q at same = refl
set_buffers (x ∷ ps) zero p q at same = let e : x ≡ p = cc in ap (λ bs. bs ∷ all_buffers ps) (same ∙ ap (λ (r : Processor). r.buffers) (sym e))
set_buffers (x ∷ ps) (suc k) p q at same = ap (λ bss. x.buffers ∷ bss) (set_buffers ps k p q at same)

pub change_keeps : (h : Processor → Processor) (k : ℕ) (s : System) → ((p : Processor) → (h p).buffers ≡ p.buffers) → KeepsBuffers s (change h k s)
change_keeps h k s same = change_case (KeepsBuffers s) h k s refl (λ p at. set_buffers s.processors k p (h p) at (same p))

read_keeps : (n : ℕ) (s : System) → KeepsBuffers s (bus_read n s)
read_keeps n s = map_buffers (change_line n clean_line) s.processors

fill_keeps : (k n : ℕ) (s : System) → KeepsBuffers s (fill_line k n s)
fill_keeps k n s =
    change_keeps (λ p. record p { lines = p.lines ++ fresh_line (make_room k s).memory n p.era ∷ [] }) k (make_room k s) (λ p. refl) ∙ one (oldest_of_full 64 (lines_of s k))
  where
    one : (o : Option CacheLine) → KeepsBuffers s (option_map_or (λ l. change (with_lines (without_line l.number)) k (record s { memory = write_back s.memory l })) o s)
    one None = refl
    one (Some l) = change_keeps (with_lines (without_line l.number)) k (record s { memory = write_back s.memory l }) (λ p. refl)

past_keeps : (k address value : ℕ) (s : System) → KeepsBuffers s (store_past k address value s)
past_keeps k address value s =
    others_buffers (without_line (line_of address)) 0 k (bus_read (line_of address) s).processors ∙ read_keeps (line_of address) s

uncached_keeps : (address value : ℕ) (s : System) → KeepsBuffers s (store_uncached address value s)
uncached_keeps address value s = map_buffers (without_line (line_of address)) (bus_read (line_of address) s).processors ∙ read_keeps (line_of address) s

store_keeps : (t : MemType) → is_combined t ≡ false → (k address value : ℕ) (s : System) → KeepsBuffers s (store_after t k address value s)
store_keeps UC sets k address value s = uncached_keeps address value s
store_keeps WC sets k address value s = absurd (cc)
store_keeps WT sets k address value s =
    change_keeps (with_lines (change_line (line_of address) (write_clean (word_of address) value))) k (store_past k address value s) (λ p. refl) ∙ past_keeps k address value s
store_keeps WP sets k address value s = uncached_keeps address value s
store_keeps WB sets k address value s = one (is_some (find_line (line_of address) (lines_of s k))) (cache_disabled_of s k)
  where
    one : (b c : Bool) → KeepsBuffers s (if b then store_hit k address value s else (if c then store_past k address value s else store_filling k address value s))
    one true c =
        change_keeps (with_lines (change_line (line_of address) (write_dirty (word_of address) value))) k (invalidate_others k (line_of address) (write_back_others k (line_of address) s)) (λ p. refl)
        ∙ others_buffers (without_line (line_of address)) 0 k s.processors
    one false true = past_keeps k address value s
    one false false =
        let past : System = invalidate_others k (line_of address) (bus_read (line_of address) s) in
        change_keeps (with_lines (change_line (line_of address) (write_dirty (word_of address) value))) k (fill_line k (line_of address) past) (λ p. refl)
        ∙ fill_keeps k (line_of address) past
        ∙ others_buffers (without_line (line_of address)) 0 k (bus_read (line_of address) s).processors
        ∙ read_keeps (line_of address) s

load_keeps : (t : MemType) (k address : ℕ) (s : System) → KeepsBuffers s (load_after t k address s).1
load_keeps t k address s = one (is_cached t) (find_line (line_of address) (lines_of s k)) (cache_disabled_of s k)
  where
    one : (c : Bool) (o : Option CacheLine) (d : Bool) → KeepsBuffers s (option_map_or {U = ℕ × System} (λ (l : CacheLine). (slice_index l.words (word_of address), s)) (if c then o else None) (word_at (bus_read (line_of address) s).memory address, (if c && not d then fill_line k (line_of address) (bus_read (line_of address) s) else bus_read (line_of address) s))).1
    one true (Some l) d = refl
    one true None true = read_keeps (line_of address) s
    one true None false = fill_keeps k (line_of address) (bus_read (line_of address) s) ∙ read_keeps (line_of address) s
    one false o d = read_keeps (line_of address) s

-- ---- the copy of a word has its value

owned_value : (x : ℕ) (cs : List Copy) (i y : ℕ) (d : Bool) → IsOwned x cs → slice_get cs i ≡ Some (Some (y, d)) → y ≡ x
owned_value x [] i y d h at = absurd h
owned_value x (None ∷ cs) zero y d h at = absurd (cc)
owned_value x (None ∷ cs) (suc i) y d h at = owned_value x cs i y d h at
owned_value x (Some (z, true) ∷ cs) zero y d h at =
    let e : z ≡ y = ap (λ (o : Option Copy). option_map_or (λ (c : Copy). option_map_or (λ (u : ℕ × Bool). u.0) c 0) o 0) at in
    sym e ∙ h.0
owned_value x (Some (z, true) ∷ cs) (suc i) y d h at = absurd (let e : Some (y, d) ≡ None = clear_place cs i (Some (y, d)) h.1 at in cc)
owned_value x (Some (z, false) ∷ cs) i y d h at = absurd h

copy_value : (v x : ℕ) (cs : List Copy) (i y : ℕ) (d : Bool) → Shows v cs x → slice_get cs i ≡ Some (Some (y, d)) → y ≡ x
copy_value v x cs i y d s at =
    ⊎_elim (λ (h : (v ≡ x) × IsShared v cs). (shared_clean v cs i y d h.1 at).0 ∙ h.0) (λ (h : IsOwned x cs). owned_value x cs i y d h at) s

put_is : (a x v : ℕ) (s : System) (b : Bool) → Put true a x v s b → Word true a (if b then v else x) s
put_is a x v s true w = w
put_is a x v s false w = w

module _ (ws : List Window) (aligned : AllAligned ws) (k address : ℕ) (placed : is_placed ws (line_of address) ≡ true) (whole' : address % 8 ≡ 0) where
  -- ---- stores

  same_put : (t : MemType) → is_combined t ≡ false → (value : ℕ) (s : System) (f : Flat) → Has k s → Same ws s f → Same ws (store_after t k address value s) (set_value address value f)
  same_put t sets value s f has h = record {
    stands = store_after_stands ws aligned k address value whole' placed t s has h.stands;
    values = λ a whole. put_is a (f.values a) value (store_after t k address value s) (a == address) (store_put ws aligned k address value whole' placed t sets true a (f.values a) s has whole h.stands (h.values a whole));
    pending = λ j. h.pending j ∙ ap (map written_of) (sym (buffers_kept s (store_after t k address value s) j (store_keeps t sets k address value s)));
  }

  pub same_store : (t : MemType) (value : ℕ) (s : System) (f : Flat) → Has k s → Same ws s f → Same ws (store t k address value s) (flat_store t k address value (before_store t k address f))
  same_store UC value s f has h = same_put UC refl value (first_of_store UC k (line_of address) s) _ (has_drained k s has) (same_drain ws aligned k s f has h)
  same_store WC value s f has h = same_combine ws aligned k address value whole' placed s f has h
  same_store WT value s f has h = same_put WT refl value (first_of_store WT k (line_of address) s) _ (has_line_drained k (line_of address) s has) (same_drain_line ws aligned k (line_of address) s f has h)
  same_store WP value s f has h = same_put WP refl value (first_of_store WP k (line_of address) s) _ (has_line_drained k (line_of address) s has) (same_drain_line ws aligned k (line_of address) s f has h)
  same_store WB value s f has h = same_put WB refl value (first_of_store WB k (line_of address) s) _ (has_line_drained k (line_of address) s has) (same_drain_line ws aligned k (line_of address) s f has h)

  -- ---- loads

  same_after : (t : MemType) (s : System) (f : Flat) → Has k s → Same ws s f → Same ws (load_after t k address s).1 f
  same_after t s f has h = record {
    stands = load_after_stands ws aligned k address placed t s has h.stands;
    values = λ a whole. load_after_word ws aligned k address placed t true a (f.values a) s has whole h.stands (h.values a whole);
    pending = λ j. h.pending j ∙ ap (map written_of) (sym (buffers_kept s (load_after t k address s).1 j (load_keeps t k address s)));
  }

  value_after : (t : MemType) (s : System) (f : Flat) → Has k s → Same ws s f → (load_after t k address s).0 ≡ f.values address
  value_after t s f has h = one (is_cached t) (find_line (line_of address) (lines_of s k)) refl (cache_disabled_of s k)
    where
      read : word_at (bus_read (line_of address) s).memory address ≡ f.values address
      read = (read_same ws aligned true (line_of address) address (f.values address) s whole' refl h.stands (h.values address whole')).at

      one : (c : Bool) (o : Option CacheLine) → find_line (line_of address) (lines_of s k) ≡ o → (d : Bool) → (option_map_or {U = ℕ × System} (λ (l : CacheLine). (slice_index l.words (word_of address), s)) (if c then o else None) (word_at (bus_read (line_of address) s).memory address, (if c && not d then fill_line k (line_of address) (bus_read (line_of address) s) else bus_read (line_of address) s))).0 ≡ f.values address
      one true (Some l) is d =
          let found : find_line (line_of address) has.0.lines ≡ Some l = ap (find_line (line_of address)) (sym (lines_at k s has.0 has.1)) ∙ is in
          copy_value (word_at s.memory address) (f.values address) (copies address s.processors) k (slice_index l.words (word_of address)) (is_dirty l (word_of address)) (h.values address whole').shows
          (copies_at address s.processors k has.0 has.1 ∙ ap (λ (o : Option CacheLine). Some (option_map (look address) o)) found)
      one true None is d = read
      one false o is d = read

  first_has : (t : MemType) (s : System) → Has k s → Has k (first_of_load t k (line_of address) s)
  first_has UC s has = has_drained k s has
  first_has other s has = has_line_drained k (line_of address) s has

  first_same : (t : MemType) (s : System) (f : Flat) → Has k s → Same ws s f → Same ws (first_of_load t k (line_of address) s) (before_load t k address f)
  first_same UC s f has h = same_drain ws aligned k s f has h
  first_same other s f has h = same_drain_line ws aligned k (line_of address) s f has h

  pub same_load : (t : MemType) (s : System) (f : Flat) → Has k s → Same ws s f → Same ws (load t k address s).1 (before_load t k address f)
  same_load t s f has h = same_after t (first_of_load t k (line_of address) s) (before_load t k address f) (first_has t s has) (first_same t s f has h)

  pub value_of_load : (t : MemType) (s : System) (f : Flat) → Has k s → Same ws s f → (load t k address s).0 ≡ (before_load t k address f).values address
  value_of_load t s f has h = value_after t (first_of_load t k (line_of address) s) (before_load t k address f) (first_has t s has) (first_same t s f has h)
