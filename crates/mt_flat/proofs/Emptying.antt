-- A system beside a flat machine, and what is emptied in both.
use Rattle.std.proofs.Common.{◌≡◌, ◌≢◌, ℕ, zero, suc, ◌%◌, ◌==◌, List, [], ◌∷◌, set, Some, None, Option, Bool, true, false, refl, sym, ap, subst, ◌∙◌}
use Rattle.std.specs.Prelude.{slice_get, slice_index, if◌then◌else◌, map, is_some}
use Rattle.std.specs.Option.{option_map_or, option_map}
use Rattle.std.specs.List.{fold, list_all}
use Rattle.std.proofs.lemmas.Bool.{eqb-true, eqb-false}
use Rattle.std.proofs.lemmas.Option.{slice_get-map}
use Rattle.mt_cache.specs.declared.line.CacheLine.{CacheLine}
use Rattle.mt_cache.specs.Lines.{is_dirty, find_line, without_line, change_line, clean_line, oldest_of_full, combined_with}
use Rattle.mt_machine.specs.Memory.{Window, word_count, word_at, line_of, word_of, write_back}
use Rattle.mt_machine.specs.System.{Processor, System, change, buffers_of}
use Rattle.mt_machine.specs.Bus.{with_lines, with_buffers, bus_read, invalidate, empty_buffer, drain, drain_line, make_buffer_room, empty_if_whole, combine}
use Rattle.mt_laws.proofs.Barrier.Ranks.{and_left, and_right}
use Rattle.mt_laws.proofs.Words.MemoryLaws.{AllAligned}
use Rattle.mt_laws.proofs.Words.Copies.{settle}
use Rattle.mt_laws.proofs.Words.LineLaws.{fits, is_placed, look, write_back_same, write_back_other}
use Rattle.mt_laws.proofs.Words.LineLists.{found_passes}
use Rattle.mt_laws.proofs.Words.BusLaws.{Stands, Word, LeavesWord, leaves_word, leaves_then, clean_word, bare_clean, fits_placed, fits_bits, flush_same, leaves_flush, stands_read, stands_invalidate, stands_empty, stands_drain, stands_one, buffers_fit_at}
use Rattle.mt_laws.proofs.Words.AccessLaws.{change_at, changed_at, word_buffers, word_small, oldest_found}
use Rattle.mt_laws.proofs.Words.StoreLaws.{Has}
use Rattle.mt_laws.proofs.Words.WordLaws.{buffers_at, emptied_buffers, roomy_few, joined_stands}
use Rattle.mt_flat.specs.Flat.{PendingLine, Flat, find_pending, without_pending, joined_with, first_of_four, is_whole, with_pending, set_words, empty_all, empty_line, make_pending_room, empty_whole, join}
use Rattle.mt_flat.specs.Seen.{written_of}
use Rattle.mt_flat.proofs.PendingLists.{find_written, without_written, first_written, some_written, joined_written, whole_written}

-- each word's value, and the buffers with their written words
pub record Same (ws : List Window) (s : System) (f : Flat) : Type 0 where
  pub stands : Stands ws s
  pub values : (a : ℕ) → a % 8 ≡ 0 → Word true a (f.values a) s
  pub pending : (j : ℕ) → f.pending j ≡ map written_of (buffers_of s j)

-- ---- the buffers of a processor that is changed

get_other : (ps : List Processor) (k j : ℕ) (q : Processor) → j ≢ k → slice_get (set ps k q) j ≡ slice_get ps j
get_other [] k j q other = refl
get_other (p ∷ ps) zero zero q other = absurd (other refl)
get_other (p ∷ ps) zero (suc j) q other = refl
get_other (p ∷ ps) (suc k) zero q other = refl
get_other (p ∷ ps) (suc k) (suc j) q other = get_other ps k j q (λ e. other (ap suc e))

buffers_other : (h : Processor → Processor) (k j : ℕ) (s : System) (p : Processor) → slice_get s.processors k ≡ Some p → j ≢ k → buffers_of (change h k s) j ≡ buffers_of s j
buffers_other h k j s p at other =
    ap (λ (t : System). buffers_of t j) (change_at h k s p at) ∙ ap (λ (o : Option Processor). option_map_or (λ q. q.buffers) o []) (get_other s.processors k j (h p) other)

buffers_same : (h : Processor → Processor) (k : ℕ) (s : System) (p : Processor) → slice_get s.processors k ≡ Some p → buffers_of (change h k s) k ≡ (h p).buffers
buffers_same h k s p at = ap (λ (o : Option Processor). option_map_or (λ q. q.buffers) o []) (changed_at h k s p at)

pub has_emptied : (k : ℕ) (s : System) (b : CacheLine) → Has k s → Has k (empty_buffer s b)
has_emptied k s b h = (
  with_lines (without_line b.number) (with_lines (change_line b.number clean_line) h.0),
  slice_get-map (with_lines (without_line b.number)) (bus_read b.number s).processors k
      ∙ ap (option_map (with_lines (without_line b.number))) (slice_get-map (with_lines (change_line b.number clean_line)) s.processors k ∙ ap (option_map (with_lines (change_line b.number clean_line))) h.1),
)

has_empties : (bs : List CacheLine) (k : ℕ) (s : System) → Has k s → Has k (fold empty_buffer s bs)
has_empties [] k s h = h
has_empties (b ∷ bs) k s h = has_empties bs k (empty_buffer s b) (has_emptied k s b h)

pub has_changed : (f : Processor → Processor) (k : ℕ) (s : System) → Has k s → Has k (change f k s)
has_changed f k s h = (f h.0, changed_at f k s h.0 h.1)

pub has_drained : (k : ℕ) (s : System) → Has k s → Has k (drain k s)
has_drained k s h = has_changed (with_buffers (λ _. [])) k _ (has_empties (buffers_of s k) k s h)

pub has_line_drained : (k n : ℕ) (s : System) → Has k s → Has k (drain_line k n s)
has_line_drained k n s h = one (find_line n (buffers_of s k))
  where
    one : (o : Option CacheLine) → Has k (option_map_or (λ b. change (with_buffers (without_line n)) k (empty_buffer s b)) o s)
    one None = h
    one (Some b) = has_changed (with_buffers (without_line n)) k (empty_buffer s b) (has_emptied k s b h)

has_room : (k n : ℕ) (s : System) → Has k s → Has k (make_buffer_room k n s)
has_room k n s h = one (is_some (find_line n (buffers_of s k))) (oldest_of_full 4 (buffers_of s k))
  where
    one : (c : Bool) (o : Option CacheLine) → Has k (if c then s else option_map_or (λ b. change (with_buffers (without_line b.number)) k (empty_buffer s b)) o s)
    one true o = h
    one false None = h
    one false (Some b) = has_changed (with_buffers (without_line b.number)) k (empty_buffer s b) (has_emptied k s b h)

-- what an emptied buffer makes of a word's value
abbrev emptied_value : ℕ → CacheLine → Bool → ℕ → ℕ
emptied_value a b c x = if c then option_map_or (λ v. v) ((written_of b).written (word_of a)) x else x

module _ (ws : List Window) (aligned : AllAligned ws) where
  empty_exactly : (a x : ℕ) (s : System) (b : CacheLine) → a % 8 ≡ 0 → Stands ws s → fits ws b ≡ true → Word true a x s → Word true a (emptied_value a b (b.number == line_of a) x) (empty_buffer s b)
  empty_exactly a x s b whole st fit w = one (b.number == line_of a) refl
    where
      read : System
      read = invalidate b.number (bus_read b.number s)

      r : Stands ws (invalidate b.number (bus_read b.number s))
      r = stands_invalidate ws aligned b.number (bus_read b.number s) (stands_read ws aligned b.number s st)

      settled : (d : Bool) (y : ℕ) → settle x (Some (y, d)) ≡ option_map_or (λ v. v) (if d then Some y else None) x
      settled true y = refl
      settled false y = refl

      one : (c : Bool) → (b.number == line_of a) ≡ c → Word true a (emptied_value a b c x) (empty_buffer s b)
      one false is =
          let apart = eqb-false b.number (line_of a) is in
          let other : line_of a ≢ b.number = λ e. apart (sym e) in
          let there : AllAligned (invalidate b.number (bus_read b.number s)).memory.windows = subst AllAligned (sym r.memory.windows) aligned in
          let l : LeavesWord a s (empty_buffer s b) = leaves_then a s (invalidate b.number (bus_read b.number s)) (empty_buffer s b) (leaves_flush ws aligned b.number a s other st) (record { word = write_back_other b a (invalidate b.number (bus_read b.number s)).memory there other; same = refl; writes = λ h. h }) in
          leaves_word true a x s (empty_buffer s b) l w
      one true is =
          let same : line_of a ≡ b.number = sym (eqb-true b.number (line_of a) is) in
          let t : System = invalidate b.number (bus_read b.number s) in
          let there : AllAligned (invalidate b.number (bus_read b.number s)).memory.windows = subst AllAligned (sym r.memory.windows) aligned in
          let bare = flush_same ws aligned true b.number a x s whole same st w in
          let back : word_at (write_back t.memory b) a ≡ settle (word_at t.memory a) (Some (look a b)) =
          write_back_same b a whole same t.memory there
          (ap (λ (v : List Window). is_placed v b.number) r.memory.windows ∙ fits_placed ws b fit)
          (r.memory.counted ∙ ap word_count (sym r.memory.windows)) in
          let y : ℕ = option_map_or (λ v. v) ((written_of b).written (word_of a)) x in
          let value : word_at (write_back t.memory b) a ≡ option_map_or (λ v. v) ((written_of b).written (word_of a)) x =
          back ∙ ap (λ v. settle v (Some (look a b))) bare.at ∙ settled (is_dirty b (word_of a)) (slice_index b.words (word_of a)) in
          clean_word true a y (empty_buffer s b) (bare_clean a y (empty_buffer s b) (record { at = value; clear = bare.clear })) (λ h. absurd (cc))

  same_empty : (s : System) (f : Flat) (b : CacheLine) → fits ws b ≡ true → Same ws s f → Same ws (empty_buffer s b) (set_words f (written_of b))
  same_empty s f b fit h = record {
    stands = stands_empty ws aligned s b h.stands;
    values = λ a whole. empty_exactly a (f.values a) s b whole h.stands fit (h.values a whole);
    pending = λ j. h.pending j ∙ ap (map written_of) (sym (emptied_buffers s b j));
  }

  same_empties : (bs : List CacheLine) (s : System) (f : Flat) → list_all (fits ws) bs ≡ true → Same ws s f → Same ws (fold empty_buffer s bs) (fold set_words f (map written_of bs))
  same_empties [] s f fit h = h
  same_empties (b ∷ bs) s f fit h = same_empties bs (empty_buffer s b) (set_words f (written_of b)) (and_right (fits ws b) _ fit) (same_empty s f b (and_left _ _ fit) h)

  -- the buffers of one processor change, and the pending lines with them
  same_change : (h : Processor → Processor) (g : List PendingLine → List PendingLine) (k : ℕ) (s : System) (f : Flat) → ((q : Processor) → (h q).lines ≡ q.lines) → (p : Processor) → slice_get s.processors k ≡ Some p
      → g (map written_of p.buffers) ≡ map written_of (h p).buffers → Stands ws (change h k s) → Same ws s f → Same ws (change h k s) (with_pending k g f)
  same_change h g k s f lines p at acts st r = record {
    stands = st;
    values = λ a whole. word_buffers true a (f.values a) h k s lines (λ off. absurd (cc)) (r.values a whole);
    pending = λ j. one j (j == k) refl;
  }
    where
      one : (j : ℕ) (c : Bool) → (j == k) ≡ c → (if c then g (f.pending j) else f.pending j) ≡ map written_of (buffers_of (change h k s) j)
      one j true is =
          let e : j ≡ k = eqb-true j k is in
          ap g (r.pending j) ∙ ap (λ i. g (map written_of (buffers_of s i))) e ∙ ap (λ bs. g (map written_of bs)) (buffers_at k s p at) ∙ acts
          ∙ ap (map written_of) (sym (buffers_same h k s p at)) ∙ ap (λ i. map written_of (buffers_of (change h k s) i)) (sym e)
      one j false is = r.pending j ∙ ap (map written_of) (sym (buffers_other h k j s p at (eqb-false j k is)))

  pub same_drain : (k : ℕ) (s : System) (f : Flat) → Has k s → Same ws s f → Same ws (drain k s) (empty_all k f)
  same_drain k s f has h =
      let gone : System = fold empty_buffer s (buffers_of s k) in
      let there = has_empties (buffers_of s k) k s has in
      subst (λ (ps : List PendingLine). Same ws (drain k s) (with_pending k (λ _. []) (fold set_words f ps))) (sym (h.pending k))
      (same_change (with_buffers (λ _. [])) (λ _. []) k gone (fold set_words f (map written_of (buffers_of s k))) (λ q. refl) there.0 there.1 refl (stands_drain ws aligned k s h.stands)
      (same_empties (buffers_of s k) s f (buffers_fit_at ws aligned k s h.stands) h))

  -- one buffer is emptied and taken away
  same_one : (k n : ℕ) (s : System) (f : Flat) (b : CacheLine) → Has k s → fits ws b ≡ true → Same ws s f → Same ws (change (with_buffers (without_line n)) k (empty_buffer s b)) (with_pending k (without_pending n) (set_words f (written_of b)))
  same_one k n s f b has fit h =
      let there = has_emptied k s b has in
      same_change (with_buffers (without_line n)) (without_pending n) k (empty_buffer s b) (set_words f (written_of b)) (λ q. refl) there.0 there.1 (without_written n there.0.buffers) (stands_one ws aligned k n s b h.stands) (same_empty s f b fit h)

  pub same_drain_line : (k n : ℕ) (s : System) (f : Flat) → Has k s → Same ws s f → Same ws (drain_line k n s) (empty_line k n f)
  same_drain_line k n s f has h =
      subst (λ (o : Option PendingLine). Same ws (drain_line k n s) (option_map_or (λ p. with_pending k (without_pending n) (set_words f p)) o f))
      (sym (ap (find_pending n) (h.pending k) ∙ find_written n (buffers_of s k)))
      (one (find_line n (buffers_of s k)) refl)
    where
      one : (o : Option CacheLine) → find_line n (buffers_of s k) ≡ o → Same ws (option_map_or (λ b. change (with_buffers (without_line n)) k (empty_buffer s b)) o s) (option_map_or (λ p. with_pending k (without_pending n) (set_words f p)) (option_map written_of o) f)
      one None is = h
      one (Some b) is = same_one k n s f b has (found_passes (fits ws) n (buffers_of s k) b (buffers_fit_at ws aligned k s h.stands) is) h

  same_room : (k n : ℕ) (s : System) (f : Flat) → Has k s → Same ws s f → Same ws (make_buffer_room k n s) (make_pending_room k n f)
  same_room k n s f has h =
      subst (λ (ps : List PendingLine). Same ws (make_buffer_room k n s) (if is_some (find_pending n ps) then f else option_map_or (λ p. with_pending k (without_pending p.number) (set_words f p)) (first_of_four ps) f))
      (sym (h.pending k))
      (subst (λ (c : Bool). Same ws (make_buffer_room k n s) (if c then f else option_map_or (λ p. with_pending k (without_pending p.number) (set_words f p)) (first_of_four (map written_of (buffers_of s k))) f))
      (sym (some_written n (buffers_of s k)))
      (subst (λ (o : Option PendingLine). Same ws (make_buffer_room k n s) (if is_some (find_line n (buffers_of s k)) then f else option_map_or (λ p. with_pending k (without_pending p.number) (set_words f p)) o f))
      (sym (first_written (buffers_of s k)))
      (one (is_some (find_line n (buffers_of s k))) (oldest_of_full 4 (buffers_of s k)) refl)))
    where
      one : (c : Bool) (o : Option CacheLine) → oldest_of_full 4 (buffers_of s k) ≡ o
          → Same ws (if c then s else option_map_or (λ b. change (with_buffers (without_line b.number)) k (empty_buffer s b)) o s) (if c then f else option_map_or (λ p. with_pending k (without_pending p.number) (set_words f p)) (option_map written_of o) f)
      one true o is = h
      one false None is = h
      one false (Some b) is =
          same_one k b.number s f b has (found_passes (fits ws) b.number (buffers_of s k) b (buffers_fit_at ws aligned k s h.stands) (oldest_found 4 (buffers_of s k) b is)) h

  same_whole : (k n : ℕ) (s : System) (f : Flat) → Has k s → Same ws s f → Same ws (empty_if_whole k n s) (empty_whole k n f)
  same_whole k n s f has h =
      subst (λ (o : Option PendingLine). Same ws (empty_if_whole k n s) (option_map_or (λ p. if is_whole p then empty_line k n f else f) o f))
      (sym (ap (find_pending n) (h.pending k) ∙ find_written n (buffers_of s k)))
      (one (find_line n (buffers_of s k)) refl)
    where
      two : (c : Bool) → Same ws (if c then drain_line k n s else s) (if c then empty_line k n f else f)
      two true = same_drain_line k n s f has h
      two false = h

      one : (o : Option CacheLine) → find_line n (buffers_of s k) ≡ o → Same ws (option_map_or (λ (b : CacheLine). if b.dirty == 0xff then drain_line k n s else s) o s) (option_map_or (λ p. if is_whole p then empty_line k n f else f) (option_map written_of o) f)
      one None is = h
      one (Some b) is =
          let fit = found_passes (fits ws) n (buffers_of s k) b (buffers_fit_at ws aligned k s h.stands) is in
          subst (λ (c : Bool). Same ws (if b.dirty == 0xff then drain_line k n s else s) (if c then empty_line k n f else f)) (sym (whole_written b (fits_bits ws b fit))) (two (b.dirty == 0xff))

  -- a store that is combined
  pub same_combine : (k address value : ℕ) → address % 8 ≡ 0 → is_placed ws (line_of address) ≡ true → (s : System) (f : Flat) → Has k s → Same ws s f → Same ws (combine k (line_of address) (word_of address) value s) (join k (line_of address) (word_of address) value f)
  same_combine k address value whole' placed s f has h =
      let room : System = make_buffer_room k (line_of address) s in
      let r = same_room k (line_of address) s f has h in
      let there = has_room k (line_of address) s has in
      let fit : list_all (fits ws) there.0.buffers ≡ true = ap (list_all (fits ws)) (sym (buffers_at k room there.0 there.1)) ∙ buffers_fit_at ws aligned k room r.stands in
      let w : Processor → Processor = λ p. record p { buffers = combined_with (line_of address) (word_of address) value p.era p.buffers } in
      same_whole k (line_of address) (change w k room) _ (has_changed w k room there)
      (same_change w (joined_with (line_of address) (word_of address) value) k room _ (λ q. refl) there.0 there.1
      (joined_written ws (line_of address) (word_of address) value there.0.era (word_small address) there.0.buffers fit)
      (joined_stands ws aligned k address value whole' placed room (roomy_few ws aligned k address value whole' placed s h.stands) r.stands)
      r)
