-- Loads and stores of a physical word keep each word's copies in agreement, and change no other word.
use Rattle.std.proofs.Common.{◌≡◌, ◌≢◌, ℕ, zero, suc, ◌+◌, ◌%◌, ◌<◌, ◌==◌, List, [], ◌∷◌, ◌++◌, length, set, Some, None, Option, Bool, true, false, refl, sym, ap, subst, ◌∙◌, arith, inr, eq-eqb, ne_eqb}
use Rattle.std.specs.Prelude.{slice_get, slice_index, if◌then◌else◌, map}
use Rattle.std.specs.Option.{option_map, option_or}
use Rattle.std.proofs.lemmas.Bool.{eqb-true, eqb-false}
use Rattle.std.proofs.lemmas.Option.{slice_get_within, slice_get-map}
use Rattle.mt_kinds.specs.declared.mem_type.MemType.TheVariants.{WT}
use Rattle.mt_cache.specs.declared.line.CacheLine.{CacheLine}
use Rattle.mt_machine.specs.Memory.{Memory, Window, word_count, word_at, word_address, line_of, word_of, line_words, fresh_line}
use Rattle.mt_cache.specs.Lines.{find_line, change_line, clean_line, write_dirty, write_clean}
use Rattle.mt_machine.specs.System.{Processor, System, change}
use Rattle.mt_machine.specs.Bus.{with_lines, bus_read, invalidate, invalidate_others, write_back_others, make_room, fill_line, store_in_memory}
use Rattle.mt_machine.specs.Access.{store_hit, store_filling, store_past, store_after}
use Rattle.mt_laws.proofs.Barrier.Ranks.{processor_at, stage_at}
use Rattle.mt_laws.proofs.Barrier.Stages.{stages, stage_of}
use Rattle.mt_laws.proofs.Words.MemoryLaws.{AllAligned, put_other}
use Rattle.mt_laws.proofs.Words.BitLaws.{no_bit}
use Rattle.mt_laws.proofs.Words.Copies.{Copy, IsShared, IsOwned, only_from, clear_shared, shared_set, set_same as copy_set, shared_only, owned_only, shared_written}
use Rattle.mt_laws.proofs.Words.LineLaws.{fits, is_placed, look, put_windows, put_length, put_same, word_placed}
use Rattle.mt_laws.proofs.Words.LineLists.{copy_in, apart_append, passes_append, found_passes, find_miss, find_hit, find_append, find_change_same, copy_change_other, copy_change_same}
use Rattle.mt_laws.proofs.Words.BusLaws.{FitsMemory, Stands, copies, all_unwritten, Word, Clean, After, LeavesWord, clean_word, bare_clean, leaves_word, leaves_then, after_word, fits_eight, fits_of, fit_at, fits_changed, change_case, stands_change, copies_set, copies_at, writes_set, writes_at, leaves_change, stands_read, leaves_read, read_writes, read_same, stands_invalidate, stands_others, leaves_others, others_writes, others_same, stands_back_others, leaves_back_others, over_same, flush_same, flush_writes, leaves_flush}
use Rattle.mt_laws.proofs.Words.AccessLaws.{fits_dirty, fits_clean, look_dirty, look_clean, look_dirty_other, look_clean_other, word_small, same_word, change_at, changed_at, others_get, Misses, stands_room, misses_room, room_word, leaves_room, room_at, few_room}
use Rattle.mt_laws.proofs.Words.Lengths.{add_length}

-- the machine has this processor
abbrev pub Has : ℕ → System → Type 0
Has k s = (p : Processor) × (slice_get s.processors k ≡ Some p)

pub has_after : (k : ℕ) (s t : System) → stages t ≡ stages s → Has k s → Has k t
has_after k s t same h =
    let found = processor_at t.processors k (stage_of h.0) (ap (λ vs. slice_get vs k) same ∙ stage_at s.processors k h.0 h.1) in
    (found.0, found.1)

line_word : (m : Memory) (n w : ℕ) → w < 8 → slice_index (line_words m n) w ≡ word_at m (word_address n w)
line_word m n zero h = refl
line_word m n (suc zero) h = refl
line_word m n (suc (suc zero)) h = refl
line_word m n (suc (suc (suc zero))) h = refl
line_word m n (suc (suc (suc (suc zero)))) h = refl
line_word m n (suc (suc (suc (suc (suc zero))))) h = refl
line_word m n (suc (suc (suc (suc (suc (suc zero)))))) h = refl
line_word m n (suc (suc (suc (suc (suc (suc (suc zero))))))) h = refl
line_word m n (suc (suc (suc (suc (suc (suc (suc (suc w)))))))) h = absurd (omega arith)

look_fresh : (m : Memory) (n a era : ℕ) → a % 8 ≡ 0 → line_of a ≡ n → look a (fresh_line m n era) ≡ (word_at m a, false)
look_fresh m n a era whole same =
    let at : word_address n (word_of a) ≡ a = omega arith in
    let value : slice_index (line_words m n) (word_of a) ≡ word_at m a = line_word m n (word_of a) (word_small a) ∙ ap (word_at m) at in
    let clean = no_bit (word_of a) in
    λ i. (value i, clean i)

set_twice : (cs : List Copy) (k : ℕ) (c d : Copy) → set (set cs k c) k d ≡ set cs k d
set_twice [] k c d = refl
set_twice (x ∷ cs) zero c d = refl
set_twice (x ∷ cs) (suc k) c d = ap (λ ys. x ∷ ys) (set_twice cs k c d)

only_get : (i k j : ℕ) (cs : List Copy) → i + j ≡ k → slice_get (only_from i k cs) j ≡ slice_get cs j
only_get i k j [] e = refl
only_get i k zero (c ∷ cs) e = one (i == k) (eq-eqb i k (omega arith))
  where
    one : (b : Bool) → b ≡ true → Some (if b then c else None) ≡ Some c
    one true is = refl
    one false is = absurd (cc)
only_get i k (suc j) (c ∷ cs) e = only_get (i + 1) k j cs (omega arith)

pub none_changed : (n : ℕ) (f : CacheLine → CacheLine) → ((l : CacheLine) → (f l).number ≡ l.number) → (ls : List CacheLine) → find_line n ls ≡ None → find_line n (change_line n f ls) ≡ None
none_changed n f keeps ls h = find_change_same n f keeps ls ∙ ap (option_map f) h

-- a word with value x, after a store of v to it or to another word
abbrev pub Put : Bool → ℕ → ℕ → ℕ → System → Bool → Type 0
Put may a x v s true = Word true a v s
Put may a x v s false = Word may a x s

pub put_after : (may : Bool) (a x v : ℕ) (s : System) (b : Bool) → (may ≡ false → b ≡ true → ⊥) → Put may a x v s b → After may a x s
put_after true a x v s true h w = (v, (λ e. absurd (cc)), w)
put_after false a x v s true h w = absurd (h refl refl)
put_after may a x v s false h w = after_word may a x s w

module _ (ws : List Window) (aligned : AllAligned ws) where
  -- ---- one word of memory

  pub stands_put : (address value : ℕ) (s : System) → Stands ws s → Stands ws (store_in_memory address value s)
  stands_put address value s st = record {
    memory = record { windows = put_windows s.memory address value ∙ st.memory.windows; counted = put_length s.memory address value ∙ st.memory.counted };
    fit = st.fit;
  }

  pub leaves_put : (a address value : ℕ) (s : System) → a ≢ address → Stands ws s → LeavesWord a s (store_in_memory address value s)
  leaves_put a address value s other st = record {
    word = put_other s.memory address a value (subst AllAligned (sym st.memory.windows) aligned) (λ e. other (sym e));
    same = refl;
    writes = λ h. h;
  }

  put_at : (address value : ℕ) (s : System) → address % 8 ≡ 0 → is_placed ws (line_of address) ≡ true → Stands ws s → word_at (store_in_memory address value s).memory address ≡ value
  put_at address value s whole placed st =
      let found = word_placed s.memory (line_of address) address (subst AllAligned (sym st.memory.windows) aligned) (ap (λ v. is_placed v (line_of address)) st.memory.windows ∙ placed) whole refl in
      put_same s.memory address value found.0 found.1 (let b = found.2 in let c = st.memory.counted ∙ ap word_count (sym st.memory.windows) in omega arith)

  -- ---- bus reads with what the caches lose, for all words

  flush_word : (may : Bool) (n a x : ℕ) (s : System) → a % 8 ≡ 0 → Stands ws s → Word may a x s → Word may a x (invalidate n (bus_read n s))
  flush_word may n a x s whole st w = one (line_of a == n) refl
    where
      one : (b : Bool) → (line_of a == n) ≡ b → Word may a x (invalidate n (bus_read n s))
      one true is = clean_word may a x _ (bare_clean a x _ (flush_same ws aligned may n a x s whole (eqb-true (line_of a) n is) st w)) (λ h. flush_writes ws aligned n a s (w.writes h))
      one false is = leaves_word may a x s _ (leaves_flush ws aligned n a s (eqb-false (line_of a) n is) st) w

  stands_flush : (n : ℕ) (s : System) → Stands ws s → Stands ws (invalidate n (bus_read n s))
  stands_flush n s st = stands_invalidate ws aligned n (bus_read n s) (stands_read ws aligned n s st)

  past_clean : (may : Bool) (k n a x : ℕ) (s : System) → a % 8 ≡ 0 → line_of a ≡ n → Stands ws s → Word may a x s → Clean a x (invalidate_others k n (bus_read n s))
  past_clean may k n a x s whole same st w =
      let c = read_same ws aligned may n a x s whole same st w in
      record { at = c.at; shared = subst (IsShared x) (sym (others_same ws aligned k n a (bus_read n s) same)) (shared_only x 0 k (copies a (bus_read n s).processors) c.shared) }

  past_writes : (k n a : ℕ) (s : System) → all_unwritten a s.processors ≡ true → all_unwritten a (invalidate_others k n (bus_read n s)).processors ≡ true
  past_writes k n a s h = others_writes ws aligned k n a (bus_read n s) (read_writes ws aligned n a s h)

  past_word : (may : Bool) (k n a x : ℕ) (s : System) → a % 8 ≡ 0 → Stands ws s → Word may a x s → Word may a x (invalidate_others k n (bus_read n s))
  past_word may k n a x s whole st w = one (line_of a == n) refl
    where
      one : (b : Bool) → (line_of a == n) ≡ b → Word may a x (invalidate_others k n (bus_read n s))
      one true is = clean_word may a x _ (past_clean may k n a x s whole (eqb-true (line_of a) n is) st w) (λ h. past_writes k n a s (w.writes h))
      one false is = let other : line_of a ≢ n = eqb-false (line_of a) n is in
          leaves_word may a x s _ (leaves_then a s (bus_read n s) _ (leaves_read ws aligned n a s other st) (leaves_others ws aligned k n a (bus_read n s) other)) w

  stands_past : (k n : ℕ) (s : System) → Stands ws s → Stands ws (invalidate_others k n (bus_read n s))
  stands_past k n s st = stands_others ws aligned k n (bus_read n s) (stands_read ws aligned n s st)

  pub past_at : (k n : ℕ) (s : System) (p : Processor) → slice_get s.processors k ≡ Some p → slice_get (invalidate_others k n (bus_read n s)).processors k ≡ Some (with_lines (change_line n clean_line) p)
  past_at k n s p at =
      others_get _ 0 k k (bus_read n s).processors (omega arith)
      ∙ slice_get-map (with_lines (change_line n clean_line)) s.processors k
      ∙ ap (option_map (with_lines (change_line n clean_line))) at

  over_word : (may : Bool) (k n a x : ℕ) (p : Processor) (l : CacheLine) (s : System) → a % 8 ≡ 0 → Stands ws s → slice_get s.processors k ≡ Some p → find_line n p.lines ≡ Some l → Word may a x s → Word may a x (invalidate_others k n (write_back_others k n s))
  over_word may k n a x p l s whole st at found w = one (line_of a == n) refl
    where
      one : (b : Bool) → (line_of a == n) ≡ b → Word may a x (invalidate_others k n (write_back_others k n s))
      one true is = let same : line_of a ≡ n = eqb-true (line_of a) n is in
          over_same ws aligned may k n a x (look a l) p s whole same st at (ap (λ i. option_map (look a) (find_line i p.lines)) same ∙ ap (option_map (look a)) found) w
      one false is = let other : line_of a ≢ n = eqb-false (line_of a) n is in
          leaves_word may a x s _ (leaves_then a s (write_back_others k n s) _ (leaves_back_others ws aligned k n a s other st) (leaves_others ws aligned k n a (write_back_others k n s) other)) w

  -- ---- a fill

  abbrev grown : Memory → ℕ → Processor → Processor
  grown m n p = record p { lines = p.lines ++ fresh_line m n p.era ∷ [] }

  module _ (k n : ℕ) (s : System) (p : Processor) (at : slice_get s.processors k ≡ Some p) (st : Stands ws s) (misses : Misses n k s) (placed : is_placed ws n ≡ true) where
    pub stands_fill : Stands ws (fill_line k n s)
    stands_fill =
        let r : System = make_room k s in
        stands_change ws (grown r.memory n) k r
        (λ q at_q h. record {
          lines_apart = apart_append q.lines (fresh_line r.memory n q.era) h.lines_apart (misses_room ws aligned n k s misses q at_q);
          lines_fit = passes_append (fits ws) q.lines (fresh_line r.memory n q.era) h.lines_fit (fits_of ws (fresh_line r.memory n q.era) placed refl (omega arith));
          buffers_apart = h.buffers_apart;
          buffers_fit = h.buffers_fit;
          few_lines = (let b = few_room ws aligned k s st q at_q in let c = add_length q.lines (fresh_line r.memory n q.era) in omega arith);
          few_buffers = h.few_buffers;
        })
        (stands_room ws aligned k s st)

    pub fill_other : (may : Bool) (a x : ℕ) → a % 8 ≡ 0 → line_of a ≢ n → Word may a x s → Word may a x (fill_line k n s)
    fill_other may a x whole other w =
        let r : System = make_room k s in
        leaves_word may a x r _
        (leaves_change a (grown r.memory n) k r
        (λ q at_q. ap (option_map (look a)) (find_append (line_of a) q.lines (fresh_line r.memory n q.era) ∙ ap (option_or (find_line (line_of a) q.lines)) (find_miss (line_of a) (fresh_line r.memory n q.era) [] (ne_eqb n (line_of a) (λ e. other (sym e)))) ∙ or_none (find_line (line_of a) q.lines)))
        (λ q at_q h. h))
        (room_word ws aligned k s p at st may a x whole w)
      where
        or_none : (o : Option CacheLine) → option_or o None ≡ o
        or_none None = refl
        or_none (Some l) = refl

    -- the line that processor k has after the fill
    pub filled_at : (q : Processor) × (slice_get (fill_line k n s).processors k ≡ Some q) × (find_line n q.lines ≡ Some (fresh_line (make_room k s).memory n q.era))
    filled_at =
        let r : System = make_room k s in
        let has = room_at ws aligned k s p at st (slice_get r.processors k) refl in
        let q = has.0 in (
          grown r.memory n q,
          changed_at (grown r.memory n) k r q has.1,
          find_append n q.lines (fresh_line r.memory n q.era) ∙ ap (λ o. option_or o (find_line n (fresh_line r.memory n q.era ∷ []))) (misses_room ws aligned n k s misses q has.1) ∙ find_hit n (fresh_line r.memory n q.era) [] (eq-eqb n n refl),
        )

    pub fill_copies : (a x : ℕ) → a % 8 ≡ 0 → line_of a ≡ n → word_at s.memory a ≡ x → copies a (fill_line k n s).processors ≡ set (copies a s.processors) k (Some (x, false))
    fill_copies a x whole same word =
        let r : System = make_room k s in
        let has = room_at ws aligned k s p at st (slice_get r.processors k) refl in
        let q = has.0 in
        let l = leaves_room ws aligned k s p at st n a same misses in
        let found : find_line n (grown r.memory n q).lines ≡ Some (fresh_line r.memory n q.era) =
        find_append n q.lines (fresh_line r.memory n q.era) ∙ ap (λ o. option_or o (find_line n (fresh_line r.memory n q.era ∷ []))) (misses_room ws aligned n k s misses q has.1) ∙ find_hit n (fresh_line r.memory n q.era) [] (eq-eqb n n refl) in
        ap (λ (t : System). copies a t.processors) (change_at (grown r.memory n) k r q has.1)
        ∙ copies_set a r.processors k (grown r.memory n q)
        ∙ ap (set (copies a r.processors) k) (ap (λ i. option_map (look a) (find_line i (grown r.memory n q).lines)) same ∙ ap (option_map (look a)) found ∙ ap (λ (c : ℕ × Bool). Some c) (look_fresh r.memory n a q.era whole same) ∙ ap (λ (v : ℕ). Some (v, false)) (l.word ∙ word))
        ∙ ap (λ (cs : List Copy). set cs k (Some (x, false))) l.same

    pub fill_word_at : (a x : ℕ) → line_of a ≡ n → word_at s.memory a ≡ x → word_at (fill_line k n s).memory a ≡ x
    fill_word_at a x same word =
        let r : System = make_room k s in
        change_case (λ (t : System). word_at t.memory a ≡ x) (grown r.memory n) k r ((leaves_room ws aligned k s p at st n a same misses).word ∙ word) (λ q at_q. (leaves_room ws aligned k s p at st n a same misses).word ∙ word)

    pub fill_clean : (a x : ℕ) → a % 8 ≡ 0 → line_of a ≡ n → Clean a x s → Clean a x (fill_line k n s)
    fill_clean a x whole same c = record {
      at = fill_word_at a x same c.at;
      shared = subst (IsShared x) (sym (fill_copies a x whole same c.at)) (shared_set x (copies a s.processors) k (Some (x, false)) (refl, tt) c.shared);
    }

    pub fill_writes : (a : ℕ) → line_of a ≡ n → all_unwritten a s.processors ≡ true → all_unwritten a (fill_line k n s).processors ≡ true
    fill_writes a same h =
        let r : System = make_room k s in
        let l = leaves_room ws aligned k s p at st n a same misses in
        change_case (λ (t : System). all_unwritten a t.processors ≡ true) (grown r.memory n) k r (l.writes h) (λ q at_q. writes_set a r.processors k (grown r.memory n q) (writes_at a r.processors k q (l.writes h) at_q) (l.writes h))

  -- ---- a write to a line of processor k

  leaves_dirty : (a address value k : ℕ) (s : System) → a % 8 ≡ 0 → address % 8 ≡ 0 → a ≢ address → LeavesWord a s (change (with_lines (change_line (line_of address) (write_dirty (word_of address) value))) k s)
  leaves_dirty a address value k s whole whole' apart =
      leaves_change a (with_lines (change_line (line_of address) (write_dirty (word_of address) value))) k s (λ p at. one p.lines (line_of a == line_of address) refl) (λ p at h. h)
    where
      one : (ls : List CacheLine) (b : Bool) → (line_of a == line_of address) ≡ b → copy_in a (change_line (line_of address) (write_dirty (word_of address) value) ls) ≡ copy_in a ls
      one ls true is =
          let same : line_of a ≡ line_of address = eqb-true (line_of a) (line_of address) is in
          copy_change_same a (line_of address) (write_dirty (word_of address) value) (λ c. c) (λ l. refl) refl
          (λ l. ap (λ (c : ℕ × Bool). Some c) (look_dirty_other a (word_of address) value l (λ e. apart (same_word a address whole whole' same e)))) ls same
      one ls false is = copy_change_other a (line_of address) (write_dirty (word_of address) value) (λ l. refl) ls (eqb-false (line_of a) (line_of address) is)

  leaves_clean_write : (a address value k : ℕ) (s : System) → a % 8 ≡ 0 → address % 8 ≡ 0 → a ≢ address → LeavesWord a s (change (with_lines (change_line (line_of address) (write_clean (word_of address) value))) k s)
  leaves_clean_write a address value k s whole whole' apart =
      leaves_change a (with_lines (change_line (line_of address) (write_clean (word_of address) value))) k s (λ p at. one p.lines (line_of a == line_of address) refl) (λ p at h. h)
    where
      one : (ls : List CacheLine) (b : Bool) → (line_of a == line_of address) ≡ b → copy_in a (change_line (line_of address) (write_clean (word_of address) value) ls) ≡ copy_in a ls
      one ls true is =
          let same : line_of a ≡ line_of address = eqb-true (line_of a) (line_of address) is in
          copy_change_same a (line_of address) (write_clean (word_of address) value) (λ c. c) (λ l. refl) refl
          (λ l. ap (λ (c : ℕ × Bool). Some c) (look_clean_other a (word_of address) value l (word_small address) (word_small a) (λ e. apart (same_word a address whole whole' same e)))) ls same
      one ls false is = copy_change_other a (line_of address) (write_clean (word_of address) value) (λ l. refl) ls (eqb-false (line_of a) (line_of address) is)

  pub stands_dirty : (address value k : ℕ) (s : System) → Stands ws s → Stands ws (change (with_lines (change_line (line_of address) (write_dirty (word_of address) value))) k s)
  stands_dirty address value k s st =
      stands_change ws _ k s (λ p at h. fits_changed ws (line_of address) (write_dirty (word_of address) value) (λ l. refl) (fits_dirty ws (word_of address) value (word_small address)) p h) st

  pub stands_clean_write : (address value k : ℕ) (s : System) → Stands ws s → Stands ws (change (with_lines (change_line (line_of address) (write_clean (word_of address) value))) k s)
  stands_clean_write address value k s st =
      stands_change ws _ k s (λ p at h. fits_changed ws (line_of address) (write_clean (word_of address) value) (λ l. refl) (fits_clean ws (word_of address) value) p h) st

  -- the copy that processor k has of the written word
  dirty_copies : (address value k : ℕ) (s : System) (q : Processor) (l : CacheLine) → Stands ws s → slice_get s.processors k ≡ Some q → find_line (line_of address) q.lines ≡ Some l
      → copies address (change (with_lines (change_line (line_of address) (write_dirty (word_of address) value))) k s).processors ≡ set (copies address s.processors) k (Some (value, true))
  dirty_copies address value k s q l st at found =
      let f : Processor → Processor = with_lines (change_line (line_of address) (write_dirty (word_of address) value)) in
      let eight = fits_eight ws l (found_passes (fits ws) (line_of address) q.lines l (fit_at ws s.processors k q st.fit at).lines_fit found) in
      ap (λ (t : System). copies address t.processors) (change_at f k s q at)
      ∙ copies_set address s.processors k (f q)
      ∙ ap (set (copies address s.processors) k)
      (ap (option_map (look address)) (find_change_same (line_of address) (write_dirty (word_of address) value) (λ l. refl) q.lines ∙ ap (option_map (write_dirty (word_of address) value)) found)
      ∙ ap (λ (c : ℕ × Bool). Some c) (look_dirty address (word_of address) value l refl (word_small address) eight))

  -- a word that processor k alone has, dirty
  owned_word : (address value k : ℕ) (s : System) (q : Processor) (l : CacheLine) (cs : List Copy) → Stands ws s → slice_get s.processors k ≡ Some q → find_line (line_of address) q.lines ≡ Some l
      → k < length cs → ((c : Copy) → set (copies address s.processors) k c ≡ set (only_from 0 k cs) k c)
      → Word true address value (change (with_lines (change_line (line_of address) (write_dirty (word_of address) value))) k s)
  owned_word address value k s q l cs st at found within alone = record {
    shows = inr (subst (IsOwned value) (sym (dirty_copies address value k s q l st at found ∙ alone (Some (value, true)))) (owned_only value 0 k k cs within (omega arith)));
    writes = λ h. absurd (cc);
  }

  copies_length : (a : ℕ) (ps : List Processor) → length (copies a ps) ≡ length ps
  copies_length a [] = refl
  copies_length a (p ∷ ps) = ap suc (copies_length a ps)

  -- ---- stores

  module _ (k address value : ℕ) (whole' : address % 8 ≡ 0) (placed : is_placed ws (line_of address) ≡ true) where
    pub past_put_stands : (s : System) → Stands ws s → Stands ws (store_past k address value s)
    past_put_stands s st = stands_put address value _ (stands_past k (line_of address) s st)

    pub flush_put_stands : (s : System) → Stands ws s → Stands ws (store_in_memory address value (invalidate (line_of address) (bus_read (line_of address) s)))
    flush_put_stands s st = stands_put address value _ (stands_flush (line_of address) s st)

    pub flush_put_word : (may : Bool) (a x : ℕ) (s : System) → a % 8 ≡ 0 → Stands ws s → Word may a x s → Put may a x value (store_in_memory address value (invalidate (line_of address) (bus_read (line_of address) s))) (a == address)
    flush_put_word may a x s whole st w = one (a == address) refl
      where
        one : (b : Bool) → (a == address) ≡ b → Put may a x value (store_in_memory address value (invalidate (line_of address) (bus_read (line_of address) s))) b
        one false is = leaves_word may a x (invalidate (line_of address) (bus_read (line_of address) s)) _ (leaves_put a address value _ (eqb-false a address is) (stands_flush (line_of address) s st)) (flush_word may (line_of address) a x s whole st w)
        one true is =
            let e : a ≡ address = eqb-true a address is in
            let u : System = invalidate (line_of address) (bus_read (line_of address) s) in
            let bare = flush_same ws aligned may (line_of address) a x s whole (ap line_of e) st w in
            (clean_word true a value (store_in_memory address value u)
            (record { at = ap (word_at (store_in_memory address value u).memory) e ∙ put_at address value u whole' placed (stands_flush (line_of address) s st); shared = clear_shared value (copies a u.processors) bare.clear })
            (λ h. absurd (cc)))

    -- ---- WT, and WB that misses and fills no line

    past_copies : (a : ℕ) (s : System) → line_of a ≡ line_of address → copies a (store_past k address value s).processors ≡ only_from 0 k (copies a (bus_read (line_of address) s).processors)
    past_copies a s same = others_same ws aligned k (line_of address) a (bus_read (line_of address) s) same

    past_put_other : (may : Bool) (a x : ℕ) (s : System) → a % 8 ≡ 0 → a ≢ address → Stands ws s → Word may a x s → Word may a x (store_past k address value s)
    past_put_other may a x s whole other st w =
        leaves_word may a x (invalidate_others k (line_of address) (bus_read (line_of address) s)) _ (leaves_put a address value _ other (stands_past k (line_of address) s st)) (past_word may k (line_of address) a x s whole st w)

    past_value : (s : System) → Stands ws s → word_at (store_past k address value s).memory address ≡ value
    past_value s st = put_at address value _ whole' placed (stands_past k (line_of address) s st)

    pub through_stands : (s : System) → Stands ws s → Stands ws (store_after WT k address value s)
    through_stands s st = stands_clean_write address value k (store_past k address value s) (past_put_stands s st)

    pub through_word : (may : Bool) (a x : ℕ) (s : System) (p : Processor) → slice_get s.processors k ≡ Some p → a % 8 ≡ 0 → Stands ws s → Word may a x s → Put may a x value (store_after WT k address value s) (a == address)
    through_word may a x s p at whole st w = one (a == address) refl
      where
        one : (b : Bool) → (a == address) ≡ b → Put may a x value (store_after WT k address value s) b
        one false is =
            let apart : a ≢ address = eqb-false a address is in
            leaves_word may a x (store_past k address value s) _ (leaves_clean_write a address value k (store_past k address value s) whole whole' apart) (past_put_other may a x s whole apart st w)
        one true is =
            let e : a ≡ address = eqb-true a address is in
            let f : Processor → Processor = with_lines (change_line (line_of address) (write_clean (word_of address) value)) in
            let u : System = store_past k address value s in
            let q : Processor = with_lines (change_line (line_of address) clean_line) p in
            let at_q : slice_get u.processors k ≡ Some q = past_at k (line_of address) s p at in
            let stu = past_put_stands s st in
            let ls : List CacheLine = q.lines in
            let now : copies address (change f k u).processors ≡ set (only_from 0 k (copies address (bus_read (line_of address) s).processors)) k (copy_in address (f q).lines) =
            ap (λ (t : System). copies address t.processors) (change_at f k u q at_q) ∙ copies_set address u.processors k (f q) ∙ ap (λ cs. set cs k (copy_in address (f q).lines)) (past_copies address s refl) in
            (subst (λ (b : ℕ). Word true b value (change f k u)) (sym e)
            (clean_word true address value (change f k u)
            (record {
              at = ap (λ (t : System). word_at t.memory address) (change_at f k u q at_q) ∙ past_value s st;
              shared = subst (IsShared value) (sym now)
                  (shared_written value 0 k k (copy_in address (f q).lines) (copies address (bus_read (line_of address) s).processors)
                  (subst (λ (c : Copy). IsShared value (c ∷ [])) (sym (ap (option_map (look address)) (find_change_same (line_of address) (write_clean (word_of address) value) (λ l. refl) q.lines)))
                  (two (find_line (line_of address) q.lines) refl (fit_at ws u.processors k q stu.fit at_q)))
                  (omega arith));
            })
            (λ h. absurd (cc))))
          where
            two : (o : Option CacheLine) → find_line (line_of address) (change_line (line_of address) clean_line p.lines) ≡ o → FitsMemory ws (with_lines (change_line (line_of address) clean_line) p) → IsShared value (option_map (look address) (option_map (write_clean (word_of address) value) o) ∷ [])
            two None is fit = tt
            two (Some l) is fit =
                let eight = fits_eight ws l (found_passes (fits ws) (line_of address) _ l fit.lines_fit is) in
                subst (λ (c : ℕ × Bool). IsShared value (Some c ∷ [])) (sym (look_clean address (word_of address) value l refl (word_small address) eight)) (refl, tt)

    pub past_missing : (may : Bool) (a x : ℕ) (s : System) (p : Processor) → slice_get s.processors k ≡ Some p → Misses (line_of address) k s → a % 8 ≡ 0 → Stands ws s → Word may a x s → Put may a x value (store_past k address value s) (a == address)
    past_missing may a x s p at misses whole st w = one (a == address) refl
      where
        one : (b : Bool) → (a == address) ≡ b → Put may a x value (store_past k address value s) b
        one false is = past_put_other may a x s whole (eqb-false a address is) st w
        one true is =
            let e : a ≡ address = eqb-true a address is in
            let u : System = store_past k address value s in
            let cs : List Copy = copies address (bus_read (line_of address) s).processors in
            let q : Processor = with_lines (change_line (line_of address) clean_line) p in
            let at_q : slice_get (bus_read (line_of address) s).processors k ≡ Some q = slice_get-map (with_lines (change_line (line_of address) clean_line)) s.processors k ∙ ap (option_map (with_lines (change_line (line_of address) clean_line))) at in
            let none : copy_in address q.lines ≡ None = ap (option_map (look address)) (none_changed (line_of address) clean_line (λ l. refl) p.lines (misses p at)) in
            let same : set (only_from 0 k cs) k None ≡ only_from 0 k cs = copy_set (only_from 0 k cs) k None (only_get 0 k k cs (omega arith) ∙ copies_at address (bus_read (line_of address) s).processors k q at_q ∙ ap (λ (c : Copy). Some c) none) in
            (subst (λ (b : ℕ). Word true b value u) (sym e)
            (clean_word true address value u
            (record { at = past_value s st; shared = subst (IsShared value) (same ∙ sym (past_copies address s refl)) (shared_written value 0 k k None cs tt (omega arith)) })
            (λ h. absurd (cc))))

    -- ---- WB that hits

    pub hit_stands : (s : System) → Stands ws s → Stands ws (store_hit k address value s)
    hit_stands s st = stands_dirty address value k _ (stands_others ws aligned k (line_of address) _ (stands_back_others ws aligned k (line_of address) s st))

    pub hit_word : (may : Bool) (a x : ℕ) (s : System) (p : Processor) (l : CacheLine) → slice_get s.processors k ≡ Some p → find_line (line_of address) p.lines ≡ Some l → a % 8 ≡ 0 → Stands ws s → Word may a x s → Put may a x value (store_hit k address value s) (a == address)
    hit_word may a x s p l at found whole st w = one (a == address) refl
      where
        one : (b : Bool) → (a == address) ≡ b → Put may a x value (store_hit k address value s) b
        one false is =
            let apart : a ≢ address = eqb-false a address is in
            leaves_word may a x (invalidate_others k (line_of address) (write_back_others k (line_of address) s)) _ (leaves_dirty a address value k _ whole whole' apart) (over_word may k (line_of address) a x p l s whole st at found w)
        one true is =
            let e : a ≡ address = eqb-true a address is in
            let u : System = invalidate_others k (line_of address) (write_back_others k (line_of address) s) in
            let at_u : slice_get u.processors k ≡ Some p = others_get _ 0 k k s.processors (omega arith) ∙ at in
            let within : k < length (copies address s.processors) = let b = slice_get_within s.processors k p at in let c = copies_length address s.processors in omega arith in
            (subst (λ (b : ℕ). Word true b value (store_hit k address value s)) (sym e)
            (owned_word address value k u p l (copies address s.processors) (stands_others ws aligned k (line_of address) _ (stands_back_others ws aligned k (line_of address) s st)) at_u found within
            (λ c. ap (λ cs. set cs k c) (others_same ws aligned k (line_of address) address (write_back_others k (line_of address) s) refl))))

    -- ---- WB that misses and fills

    module _ (s : System) (p : Processor) (at : slice_get s.processors k ≡ Some p) (misses : Misses (line_of address) k s) (st : Stands ws s) where
      pub misses_past : Misses (line_of address) k (invalidate_others k (line_of address) (bus_read (line_of address) s))
      misses_past q at_q =
          let same : Some q ≡ Some (with_lines (change_line (line_of address) clean_line) p) = sym at_q ∙ past_at k (line_of address) s p at in
          let e : q ≡ with_lines (change_line (line_of address) clean_line) p = cc in
          ap (λ (r : Processor). find_line (line_of address) r.lines) e ∙ none_changed (line_of address) clean_line (λ l. refl) p.lines (misses p at)

      pub filling_stands : Stands ws (store_filling k address value s)
      filling_stands = stands_dirty address value k _ (stands_fill k (line_of address) _ _ (past_at k (line_of address) s p at) (stands_past k (line_of address) s st) misses_past placed)

      pub filling_word : (may : Bool) (a x : ℕ) → a % 8 ≡ 0 → Word may a x s → Put may a x value (store_filling k address value s) (a == address)
      filling_word may a x whole w = one (a == address) refl
        where
          filled : (b : Bool) → (line_of a == line_of address) ≡ b → Word may a x (fill_line k (line_of address) (invalidate_others k (line_of address) (bus_read (line_of address) s)))
          filled true is =
              let same : line_of a ≡ line_of address = eqb-true (line_of a) (line_of address) is in
              clean_word may a x _
              (fill_clean k (line_of address) _ _ (past_at k (line_of address) s p at) (stands_past k (line_of address) s st) misses_past placed a x whole same (past_clean may k (line_of address) a x s whole same st w))
              (λ h. fill_writes k (line_of address) _ _ (past_at k (line_of address) s p at) (stands_past k (line_of address) s st) misses_past placed a same (past_writes k (line_of address) a s (w.writes h)))
          filled false is =
              fill_other k (line_of address) _ _ (past_at k (line_of address) s p at) (stands_past k (line_of address) s st) misses_past placed may a x whole (eqb-false (line_of a) (line_of address) is) (past_word may k (line_of address) a x s whole st w)

          one : (b : Bool) → (a == address) ≡ b → Put may a x value (store_filling k address value s) b
          one false is = leaves_word may a x (fill_line k (line_of address) (invalidate_others k (line_of address) (bus_read (line_of address) s))) _ (leaves_dirty a address value k _ whole whole' (eqb-false a address is)) (filled (line_of a == line_of address) refl)
          one true is =
              let e : a ≡ address = eqb-true a address is in
              let v : System = invalidate_others k (line_of address) (bus_read (line_of address) s) in
              let f : System = fill_line k (line_of address) v in
              let at_v = past_at k (line_of address) s p at in
              let stv = stands_past k (line_of address) s st in
              let has = filled_at k (line_of address) v _ at_v stv misses_past placed in
              let q = has.0 in
              let cs : List Copy = copies address (bus_read (line_of address) s).processors in
              let only : copies address v.processors ≡ only_from 0 k cs = others_same ws aligned k (line_of address) address (bus_read (line_of address) s) refl in
              let within : k < length cs = let b = slice_get_within s.processors k p at in let c = copies_length address (bus_read (line_of address) s).processors in let d = map_length s.processors in omega arith in
              (subst (λ (b : ℕ). Word true b value (store_filling k address value s)) (sym e)
              (owned_word address value k f q _ cs (stands_fill k (line_of address) v _ at_v stv misses_past placed) has.1 has.2 within
              (λ c. ap (λ ds. set ds k c) (fill_copies k (line_of address) v _ at_v stv misses_past placed address (word_at v.memory address) whole' refl refl)
              ∙ set_twice (copies address v.processors) k _ c
              ∙ ap (λ ds. set ds k c) only)))
            where
              map_length : (ps : List Processor) → length (map (with_lines (change_line (line_of address) clean_line)) ps) ≡ length ps
              map_length [] = refl
              map_length (r ∷ ps) = ap suc (map_length ps)
