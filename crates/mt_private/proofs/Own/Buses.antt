-- What one processor does to lines of its own pages on the bus, in the whole system and in its own one.
use Rattle.std.proofs.Common.{◌≡◌, ◌∙◌, ap, sym, refl, subst, arith, ℕ, ◌/◌, ◌==◌, Bool, true, false, List, [], ◌∷◌, ◌++◌, length, set, Option, None, Some}
use Rattle.std.specs.Prelude.{if◌then◌else◌, not, slice_get, is_some}
use Rattle.std.specs.List.{fold, list_all}
use Rattle.std.specs.Option.{option_map_or}
use Rattle.std.proofs.lemmas.List.{set-set}
use Rattle.std.proofs.lemmas.Option.{slice_get_within}
use Rattle.mt_cache.specs.declared.line.CacheLine.{CacheLine}
use Rattle.mt_cache.specs.Lines.{change_line, clean_line, combined_with, find_line, oldest_of_full, without_line, write_dirty}
use Rattle.mt_lists.proofs.Keys.{change_none}
use Rattle.mt_lists.proofs.Keys.{filter_none as others_without}
use Rattle.mt_machine.specs.Memory.{Memory, fresh_line, put_word, write_back, write_back_of}
use Rattle.mt_machine.specs.System.{Processor, System, change, lines_of, buffers_of}
use Rattle.mt_machine.specs.Bus.{with_lines, with_buffers, bus_read, invalidate, invalidate_others, write_back_others, empty_buffer, drain, drain_line, make_room, fill_line, make_buffer_room, empty_if_whole, combine, store_in_memory}
use Rattle.mt_bus.proofs.Changed.{set_there}
use Rattle.mt_laws.proofs.Barrier.Ranks.{and_left, and_right}
use Rattle.mt_laws.proofs.Words.AccessLaws.{change_at, lines_at, oldest_found}
use Rattle.mt_laws.proofs.Words.LineLaws.{put_length, write_back_length}
use Rattle.mt_laws.proofs.Words.LineLists.{filter_none, found_number, found_passes, of_length, passes_append, passes_changed, passes_without}
use Rattle.mt_private.specs.Own.{own_memory}
use Rattle.mt_private.specs.Pages.{page_of_line}
use Rattle.mt_private.proofs.Own.Words.{HasAddresses, back_on, fresh_on, of_on, put_on}
use Rattle.mt_private.proofs.Own.Whole.{ElseAll, fold_none, fold_one, map_one, others_one}

abbrev pub other_pages : (ℕ → Bool) → ℕ → Bool
other_pages pages page = not (pages page)

abbrev pub in_pages : (ℕ → Bool) → CacheLine → Bool
in_pages pages l = pages (page_of_line l)

-- all that the processor has lies in these pages
pub record IsWithin (pages : ℕ → Bool) (p : Processor) : Type 0 where
  pub mapped : list_all (λ m. pages m.ppage) p.mappings ≡ true
  pub entered : list_all (λ e. pages e.ppage) p.entries ≡ true
  pub cached : list_all (in_pages pages) p.lines ≡ true
  pub buffered : list_all (in_pages pages) p.buffers ≡ true

-- no line of the others does
abbrev pub AreOutside : (ℕ → Bool) → ℕ → List Processor → Type 0
AreOutside pages k ps = ElseAll (λ r. list_all (in_pages (other_pages pages)) r.lines ≡ true) k ps

-- the words in all other pages are as they were
pub record IsBeside (pages : ℕ → Bool) (base m : Memory) : Type 0 where
  pub count : length m.words ≡ length base.words
  pub words : own_memory (other_pages pages) m ≡ own_memory (other_pages pages) base

-- the two systems are those of one processor and one memory: among the others and with all words, and alone with the words in these pages
pub record Own (pages : ℕ → Bool) (k : ℕ) (ps : List Processor) (base : Memory) (s o : System) : Type 0 where
  pub p : Processor
  pub m : Memory
  pub whole : s ≡ record { processors = set ps k p; memory = m }
  pub alone : o ≡ record { processors = p ∷ []; memory = own_memory pages m }
  pub beside : IsBeside pages base m
  pub within : IsWithin pages p

no_line : (pages : ℕ → Bool) (n : ℕ) (ls : List CacheLine) → pages (n / 64) ≡ true → list_all (in_pages (other_pages pages)) ls ≡ true → find_line n ls ≡ None
no_line pages n ls is out = one (find_line n ls) refl
  where
    one : (o : Option CacheLine) → find_line n ls ≡ o → o ≡ None
    one None at = refl
    one (Some l) at =
        let number = found_number n ls l at in
        let t = found_passes (in_pages (other_pages pages)) n ls l out at in
        let e : not (pages (n / 64)) ≡ true = ap (λ (x : ℕ). not (pages (x / 64))) (sym number) ∙ t in
        let f : not true ≡ true = ap not (sym is) ∙ e in
        absurd (cc)

module _ (pages : ℕ → Bool) (k : ℕ) (ps : List Processor) (base : Memory) (p0 : Processor) (there : slice_get ps k ≡ Some p0) (has : HasAddresses base.windows) (out : AreOutside pages k ps) where
  abbrev in_whole : Processor → Memory → System
  in_whole q m = record { processors = set ps k q; memory = m }

  abbrev by_itself : Processor → Memory → System
  by_itself q m = record { processors = q ∷ []; memory = own_memory pages m }

  windows_of : (m : Memory) → IsBeside pages base m → m.windows ≡ base.windows
  windows_of m b = ap (λ (n : Memory). n.windows) b.words

  has_at : (m : Memory) → IsBeside pages base m → HasAddresses m.windows
  has_at m b = subst HasAddresses (sym (windows_of m b)) has

  outside : (page : ℕ) → pages page ≡ true → other_pages pages page ≡ false
  outside page is = ap not is

  at_whole : (q : Processor) → slice_get (set ps k q) k ≡ Some q
  at_whole q = set_there ps k p0 q there

  -- ---- what is read of the two systems

  pub lines_whole : (s o : System) → (h : Own pages k ps base s o) → lines_of s k ≡ h.p.lines
  lines_whole s o h = ap (λ (t : System). lines_of t k) h.whole ∙ lines_at k (in_whole h.p h.m) h.p (at_whole h.p)

  pub lines_alone : (s o : System) → (h : Own pages k ps base s o) → lines_of o 0 ≡ h.p.lines
  lines_alone s o h = ap (λ (t : System). lines_of t 0) h.alone

  pub buffers_whole : (s o : System) → (h : Own pages k ps base s o) → buffers_of s k ≡ h.p.buffers
  buffers_whole s o h = ap (λ (t : System). buffers_of t k) h.whole ∙ ap (λ (x : Option Processor). option_map_or (λ q. q.buffers) x []) (at_whole h.p)

  pub buffers_alone : (s o : System) → (h : Own pages k ps base s o) → buffers_of o 0 ≡ h.p.buffers
  buffers_alone s o h = ap (λ (t : System). buffers_of t 0) h.alone

  -- ---- a change of the processor

  change_whole : (f : Processor → Processor) (q : Processor) (m : Memory) → change f k (in_whole q m) ≡ in_whole (f q) m
  change_whole f q m = change_at f k (in_whole q m) q (at_whole q) ∙ ap (λ (rs : List Processor). record { processors = rs; memory = m }) (set-set ps k q (f q))

  pub own_change : (f : Processor → Processor) (s o : System) → (h : Own pages k ps base s o) → IsWithin pages (f h.p) → Own pages k ps base (change f k s) (change f 0 o)
  own_change f s o h w = record {
    p = f h.p;
    m = h.m;
    whole = ap (change f k) h.whole ∙ change_whole f h.p h.m;
    alone = ap (change f 0) h.alone;
    beside = h.beside;
    within = w;
  }

  -- ---- a change of the memory

  pub own_memory_change : (f : Memory → Memory) (s o : System) → (h : Own pages k ps base s o) → own_memory pages (f h.m) ≡ f (own_memory pages h.m) → length (f h.m).words ≡ length h.m.words
      → own_memory (other_pages pages) (f h.m) ≡ own_memory (other_pages pages) h.m → Own pages k ps base (record s { memory = f s.memory }) (record o { memory = f o.memory })
  own_memory_change f s o h on count off = record {
    p = h.p;
    m = f h.m;
    whole = ap (λ (t : System). record t { memory = f t.memory }) h.whole;
    alone = ap (λ (t : System). record t { memory = f t.memory }) h.alone ∙ ap (λ (m : Memory). record { processors = h.p ∷ []; memory = m }) (sym on);
    beside = record { count = count ∙ h.beside.count; words = off ∙ h.beside.words };
    within = h.within;
  }

  pub own_store : (a v : ℕ) (s o : System) → pages (a / 4096) ≡ true → Own pages k ps base s o → Own pages k ps base (store_in_memory a v s) (store_in_memory a v o)
  own_store a v s o is h =
      own_memory_change (λ m. put_word m a v) s o h
      (put_on pages true h.m a v (has_at h.m h.beside) is) (put_length h.m a v)
      (put_on (other_pages pages) false h.m a v (has_at h.m h.beside) (outside (a / 4096) is))

  pub own_back : (l : CacheLine) (s o : System) → pages (page_of_line l) ≡ true → Own pages k ps base s o → Own pages k ps base (record s { memory = write_back s.memory l }) (record o { memory = write_back o.memory l })
  own_back l s o is h =
      own_memory_change (λ m. write_back m l) s o h
      (back_on pages true h.m l (has_at h.m h.beside) is) (write_back_length h.m l)
      (back_on (other_pages pages) false h.m l (has_at h.m h.beside) (outside (page_of_line l) is))

  -- ---- what the others see on the bus

  others_none : (n : ℕ) → pages (n / 64) ≡ true → ElseAll (λ r. find_line n r.lines ≡ None) k ps
  others_none n is j r apart at = no_line pages n r.lines is (out j r apart at)

  same_change : (n : ℕ) → pages (n / 64) ≡ true → ElseAll (λ r. with_lines (change_line n clean_line) r ≡ r) k ps
  same_change n is j r apart at = ap (λ (ls : List CacheLine). record r { lines = ls }) (change_none (λ (l : CacheLine). l.number) n clean_line r.lines (others_none n is j r apart at))

  same_without : (n : ℕ) → pages (n / 64) ≡ true → ElseAll (λ r. with_lines (without_line n) r ≡ r) k ps
  same_without n is j r apart at = ap (λ (ls : List CacheLine). record r { lines = ls }) (others_without (λ (l : CacheLine). l.number) n r.lines (others_none n is j r apart at))

  no_back : (n : ℕ) → pages (n / 64) ≡ true → ElseAll (λ r. (m : Memory) → write_back_of n m r.lines ≡ m) k ps
  no_back n is j r apart at m = ap (λ ls. fold write_back m ls) (filter_none n r.lines (others_none n is j r apart at))

  within_lines : (f : List CacheLine → List CacheLine) (p : Processor) → IsWithin pages p → list_all (in_pages pages) (f p.lines) ≡ true → IsWithin pages (with_lines f p)
  within_lines f p w c = record { mapped = w.mapped; entered = w.entered; cached = c; buffered = w.buffered }

  within_buffers : (f : List CacheLine → List CacheLine) (p : Processor) → IsWithin pages p → list_all (in_pages pages) (f p.buffers) ≡ true → IsWithin pages (with_buffers f p)
  within_buffers f p w c = record { mapped = w.mapped; entered = w.entered; cached = w.cached; buffered = c }

  pub own_read : (n : ℕ) (s o : System) → pages (n / 64) ≡ true → Own pages k ps base s o → Own pages k ps base (bus_read n s) (bus_read n o)
  own_read n s o is h = record {
    p = with_lines (change_line n clean_line) h.p;
    m = write_back_of n h.m h.p.lines;
    whole = ap (bus_read n) h.whole ∙ (λ i. record { processors = map_one (with_lines (change_line n clean_line)) ps k h.p (same_change n is) i; memory = fold_one (λ m r. write_back_of n m r.lines) ps k h.p h.m (slice_get_within ps k p0 there) (no_back n is) i });
    alone = ap (bus_read n) h.alone ∙ ap (λ (m : Memory). record { processors = with_lines (change_line n clean_line) h.p ∷ []; memory = m }) (sym (of_on pages true n h.m h.p.lines (has_at h.m h.beside) is));
    beside = record {
      count = of_length n h.m h.p.lines ∙ h.beside.count;
      words = of_on (other_pages pages) false n h.m h.p.lines (has_at h.m h.beside) (outside (n / 64) is) ∙ h.beside.words;
    };
    within = within_lines (change_line n clean_line) h.p h.within (passes_changed (in_pages pages) n clean_line (λ l t. t) h.p.lines h.within.cached);
  }

  pub own_invalidate : (n : ℕ) (s o : System) → pages (n / 64) ≡ true → Own pages k ps base s o → Own pages k ps base (invalidate n s) (invalidate n o)
  own_invalidate n s o is h = record {
    p = with_lines (without_line n) h.p;
    m = h.m;
    whole = ap (invalidate n) h.whole ∙ ap (λ (rs : List Processor). record { processors = rs; memory = h.m }) (map_one (with_lines (without_line n)) ps k h.p (same_without n is));
    alone = ap (invalidate n) h.alone;
    beside = h.beside;
    within = within_lines (without_line n) h.p h.within (passes_without (in_pages pages) n h.p.lines h.within.cached);
  }

  pub own_others : (n : ℕ) (s o : System) → pages (n / 64) ≡ true → Own pages k ps base s o → Own pages k ps base (invalidate_others k n s) (invalidate_others 0 n o)
  own_others n s o is h = record {
    p = h.p;
    m = h.m;
    whole = ap (invalidate_others k n) h.whole ∙ ap (λ (rs : List Processor). record { processors = rs; memory = h.m }) (others_one 0 k k (with_lines (without_line n)) ps h.p (omega arith) (same_without n is));
    alone = ap (invalidate_others 0 n) h.alone;
    beside = h.beside;
    within = h.within;
  }

  pub own_back_others : (n : ℕ) (s o : System) → pages (n / 64) ≡ true → Own pages k ps base s o → Own pages k ps base (write_back_others k n s) (write_back_others 0 n o)
  own_back_others n s o is h = record {
    p = h.p;
    m = h.m;
    whole = ap (write_back_others k n) h.whole ∙ ap (λ (m : Memory). in_whole h.p m) (fold_none (λ m r. write_back_of n m r.lines) ps k h.p h.m (no_back n is));
    alone = ap (write_back_others 0 n) h.alone;
    beside = h.beside;
    within = h.within;
  }

  -- ---- buffers

  pub own_empty : (b : CacheLine) (s o : System) → pages (page_of_line b) ≡ true → Own pages k ps base s o → Own pages k ps base (empty_buffer s b) (empty_buffer o b)
  own_empty b s o is h =
      own_back b (invalidate b.number (bus_read b.number s)) (invalidate b.number (bus_read b.number o)) is
      (own_invalidate b.number (bus_read b.number s) (bus_read b.number o) is (own_read b.number s o is h))

  own_empties : (bs : List CacheLine) (s o : System) → list_all (in_pages pages) bs ≡ true → Own pages k ps base s o → Own pages k ps base (fold empty_buffer s bs) (fold empty_buffer o bs)
  own_empties [] s o all h = h
  own_empties (b ∷ bs) s o all h = own_empties bs (empty_buffer s b) (empty_buffer o b) (and_right (in_pages pages b) _ all) (own_empty b s o (and_left _ _ all) h)

  -- two functions of the lists that the systems have alike
  on_buffers : (f g : List CacheLine → System) (s o : System) → (h : Own pages k ps base s o) → Own pages k ps base (f h.p.buffers) (g h.p.buffers) → Own pages k ps base (f (buffers_of s k)) (g (buffers_of o 0))
  on_buffers f g s o h r =
      subst (λ (x : System). Own pages k ps base x (g (buffers_of o 0))) (sym (ap f (buffers_whole s o h)))
      (subst (λ (x : System). Own pages k ps base (f h.p.buffers) x) (sym (ap g (buffers_alone s o h))) r)

  pub own_drain : (s o : System) → Own pages k ps base s o → Own pages k ps base (drain k s) (drain 0 o)
  own_drain s o h =
      on_buffers (λ bs. change (with_buffers (λ _. [])) k (fold empty_buffer s bs)) (λ bs. change (with_buffers (λ _. [])) 0 (fold empty_buffer o bs)) s o h
      (let r = own_empties h.p.buffers s o h.within.buffered h in
      own_change (with_buffers (λ _. [])) (fold empty_buffer s h.p.buffers) (fold empty_buffer o h.p.buffers) r (within_buffers (λ _. []) r.p r.within refl))

  -- one of the buffers is emptied and goes
  own_gone : (b : CacheLine) (n : ℕ) (s o : System) → in_pages pages b ≡ true → Own pages k ps base s o → Own pages k ps base (change (with_buffers (without_line n)) k (empty_buffer s b)) (change (with_buffers (without_line n)) 0 (empty_buffer o b))
  own_gone b n s o is h =
      let r = own_empty b s o is h in
      own_change (with_buffers (without_line n)) (empty_buffer s b) (empty_buffer o b) r (within_buffers (without_line n) r.p r.within (passes_without (in_pages pages) n r.p.buffers r.within.buffered))

  pub own_drain_line : (n : ℕ) (s o : System) → Own pages k ps base s o → Own pages k ps base (drain_line k n s) (drain_line 0 n o)
  own_drain_line n s o h =
      on_buffers (λ bs. option_map_or (λ b. change (with_buffers (without_line n)) k (empty_buffer s b)) (find_line n bs) s) (λ bs. option_map_or (λ b. change (with_buffers (without_line n)) 0 (empty_buffer o b)) (find_line n bs) o) s o h
      (one (find_line n h.p.buffers) refl)
    where
      one : (x : Option CacheLine) → find_line n h.p.buffers ≡ x
          → Own pages k ps base (option_map_or (λ b. change (with_buffers (without_line n)) k (empty_buffer s b)) x s) (option_map_or (λ b. change (with_buffers (without_line n)) 0 (empty_buffer o b)) x o)
      one None at = h
      one (Some b) at = own_gone b n s o (found_passes (in_pages pages) n h.p.buffers b h.within.buffered at) h

  oldest_in : (size : ℕ) (ls : List CacheLine) (l : CacheLine) → list_all (in_pages pages) ls ≡ true → oldest_of_full size ls ≡ Some l → in_pages pages l ≡ true
  oldest_in size ls l all at = found_passes (in_pages pages) l.number ls l all (oldest_found size ls l at)

  own_buffer_room : (n : ℕ) (s o : System) → Own pages k ps base s o → Own pages k ps base (make_buffer_room k n s) (make_buffer_room 0 n o)
  own_buffer_room n s o h =
      on_buffers
      (λ bs. if is_some (find_line n bs) then s else option_map_or (λ b. change (with_buffers (without_line b.number)) k (empty_buffer s b)) (oldest_of_full 4 bs) s)
      (λ bs. if is_some (find_line n bs) then o else option_map_or (λ b. change (with_buffers (without_line b.number)) 0 (empty_buffer o b)) (oldest_of_full 4 bs) o)
      s o h
      (one (is_some (find_line n h.p.buffers)) (oldest_of_full 4 h.p.buffers) refl)
    where
      one : (c : Bool) (x : Option CacheLine) → oldest_of_full 4 h.p.buffers ≡ x
          → Own pages k ps base (if c then s else option_map_or (λ b. change (with_buffers (without_line b.number)) k (empty_buffer s b)) x s) (if c then o else option_map_or (λ b. change (with_buffers (without_line b.number)) 0 (empty_buffer o b)) x o)
      one true x at = h
      one false None at = h
      one false (Some b) at = own_gone b b.number s o (oldest_in 4 h.p.buffers b h.within.buffered at) h

  own_if_whole : (n : ℕ) (s o : System) → Own pages k ps base s o → Own pages k ps base (empty_if_whole k n s) (empty_if_whole 0 n o)
  own_if_whole n s o h =
      on_buffers (λ bs. option_map_or (λ b. if b.dirty == 0xff then drain_line k n s else s) (find_line n bs) s) (λ bs. option_map_or (λ b. if b.dirty == 0xff then drain_line 0 n o else o) (find_line n bs) o) s o h
      (one (find_line n h.p.buffers))
    where
      one : (x : Option CacheLine) → Own pages k ps base (option_map_or (λ b. if b.dirty == 0xff then drain_line k n s else s) x s) (option_map_or (λ b. if b.dirty == 0xff then drain_line 0 n o else o) x o)
      one None = h
      one (Some b) = two (b.dirty == 0xff)
        where
          two : (c : Bool) → Own pages k ps base (if c then drain_line k n s else s) (if c then drain_line 0 n o else o)
          two true = own_drain_line n s o h
          two false = h

  within_combined : (n w v era : ℕ) (bs : List CacheLine) → pages (n / 64) ≡ true → list_all (in_pages pages) bs ≡ true → list_all (in_pages pages) (combined_with n w v era bs) ≡ true
  within_combined n w v era bs is all = one (is_some (find_line n bs))
    where
      one : (c : Bool) → list_all (in_pages pages) (if c then change_line n (write_dirty w v) bs else bs ++ write_dirty w v (record { number = n; words = 0 ∷ 0 ∷ 0 ∷ 0 ∷ 0 ∷ 0 ∷ 0 ∷ 0 ∷ []; dirty = 0; era = era }) ∷ []) ≡ true
      one true = passes_changed (in_pages pages) n (write_dirty w v) (λ l t. t) bs all
      one false = passes_append (in_pages pages) bs _ all is

  pub own_combine : (n w v : ℕ) (s o : System) → pages (n / 64) ≡ true → Own pages k ps base s o → Own pages k ps base (combine k n w v s) (combine 0 n w v o)
  own_combine n w v s o is h =
      let r = own_buffer_room n s o h in
      own_if_whole n _ _
      (own_change (λ p. record p { buffers = combined_with n w v p.era p.buffers }) (make_buffer_room k n s) (make_buffer_room 0 n o) r
      (record { mapped = r.within.mapped; entered = r.within.entered; cached = r.within.cached; buffered = within_combined n w v r.p.era r.p.buffers is r.within.buffered }))

  -- ---- lines

  on_lines : (f g : List CacheLine → System) (s o : System) → (h : Own pages k ps base s o) → Own pages k ps base (f h.p.lines) (g h.p.lines) → Own pages k ps base (f (lines_of s k)) (g (lines_of o 0))
  on_lines f g s o h r =
      subst (λ (x : System). Own pages k ps base x (g (lines_of o 0))) (sym (ap f (lines_whole s o h)))
      (subst (λ (x : System). Own pages k ps base (f h.p.lines) x) (sym (ap g (lines_alone s o h))) r)

  own_room : (s o : System) → Own pages k ps base s o → Own pages k ps base (make_room k s) (make_room 0 o)
  own_room s o h =
      on_lines
      (λ ls. option_map_or (λ l. change (with_lines (without_line l.number)) k (record s { memory = write_back s.memory l })) (oldest_of_full 64 ls) s)
      (λ ls. option_map_or (λ l. change (with_lines (without_line l.number)) 0 (record o { memory = write_back o.memory l })) (oldest_of_full 64 ls) o)
      s o h
      (one (oldest_of_full 64 h.p.lines) refl)
    where
      one : (x : Option CacheLine) → oldest_of_full 64 h.p.lines ≡ x
          → Own pages k ps base (option_map_or (λ l. change (with_lines (without_line l.number)) k (record s { memory = write_back s.memory l })) x s) (option_map_or (λ l. change (with_lines (without_line l.number)) 0 (record o { memory = write_back o.memory l })) x o)
      one None at = h
      one (Some l) at =
          let r = own_back l s o (oldest_in 64 h.p.lines l h.within.cached at) h in
          own_change (with_lines (without_line l.number)) (record s { memory = write_back s.memory l }) (record o { memory = write_back o.memory l }) r
          (within_lines (without_line l.number) r.p r.within (passes_without (in_pages pages) l.number r.p.lines r.within.cached))

  -- the line is read from the memory that each system has
  abbrev filled : Memory → ℕ → Processor → Processor
  filled m n p = record p { lines = p.lines ++ fresh_line m n p.era ∷ [] }

  pub own_fill : (n : ℕ) (s o : System) → pages (n / 64) ≡ true → Own pages k ps base s o → Own pages k ps base (fill_line k n s) (fill_line 0 n o)
  own_fill n s o is h =
      let r = own_room s o h in record {
        p = filled r.m n r.p;
        m = r.m;
        whole = ap (λ (t : System). change (filled t.memory n) k t) r.whole ∙ change_whole (filled r.m n) r.p r.m;
        alone =
            ap (λ (t : System). change (filled t.memory n) 0 t) r.alone
            ∙ ap (λ (l : CacheLine). record { processors = record r.p { lines = r.p.lines ++ l ∷ [] } ∷ []; memory = own_memory pages r.m }) (fresh_on pages r.m n r.p.era (has_at r.m r.beside) is);
        beside = r.beside;
        within = within_lines (λ ls. ls ++ fresh_line r.m n r.p.era ∷ []) r.p r.within (passes_append (in_pages pages) r.p.lines _ r.within.cached is);
      }

  -- a change of the line, which keeps its number
  pub own_line : (n : ℕ) (f : CacheLine → CacheLine) (s o : System) → ((l : CacheLine) → (f l).number ≡ l.number) → Own pages k ps base s o
      → Own pages k ps base (change (with_lines (change_line n f)) k s) (change (with_lines (change_line n f)) 0 o)
  own_line n f s o keeps h =
      own_change (with_lines (change_line n f)) s o h
      (within_lines (change_line n f) h.p h.within (passes_changed (in_pages pages) n f (λ l t. ap (λ (x : ℕ). pages (x / 64)) (keeps l) ∙ t) h.p.lines h.within.cached))
