-- Accesses and controls keep each word's copies in agreement, and change no other word than the one that they store.
use Rattle.std.proofs.Common.{◌≡◌, ◌≢◌, ℕ, zero, suc, ◌+◌, ◌-◌, ◌*◌, ◌/◌, ◌%◌, ◌<◌, ◌==◌, List, [], ◌∷◌, length, set, Some, None, Option, Bool, true, false, refl, sym, ap, subst, ◌∙◌, arith, ⊎_elim, eq-eqb}
use Rattle.std.specs.Prelude.{slice_get, slice_index, slice_set, if◌then◌else◌, ◌&&◌, is_some, nat_lt, nat_le}
use Rattle.std.specs.Option.{option_map_or, option_map}
use Rattle.std.proofs.lemmas.Bool.{eqb-true, eqb-false, ltb-true, leb-true, lt-ltb, le-leb}
use Rattle.std.proofs.lemmas.List.{get_or-set_same, get_or-set_other, length-set}
use Rattle.mt_cache.specs.declared.line.CacheLine.{CacheLine}
use Rattle.mt_machine.specs.Memory.{Memory, Window, word_count, word_at, place, place_in, word_address, line_of, word_of, write_back}
use Rattle.mt_cache.specs.Lines.{is_dirty, find_line, without_line, write_dirty, write_clean, oldest_of_full}
use Rattle.mt_machine.specs.System.{Processor, System, change, lines_of}
use Rattle.mt_machine.specs.Bus.{with_lines, others_from, make_room}
use Rattle.mt_laws.proofs.Barrier.Ranks.{and_left, and_right}
use Rattle.mt_laws.proofs.Words.MemoryLaws.{AllAligned}
use Rattle.mt_laws.proofs.Words.BitLaws.{set_same, set_other, clear_same, clear_other, set_below, clear_below}
use Rattle.mt_laws.proofs.Words.Copies.{Copy, settle, IsShared, Shows, set_same as copy_set, shared_at, shared_set, loses}
use Rattle.mt_laws.proofs.Words.LineLaws.{fits, is_placed, look, write_back_same, write_back_other, write_back_windows, write_back_length}
use Rattle.mt_laws.proofs.Words.LineLists.{copy_in, found_passes, find_hit, find_without_other, find_without_same, copy_without_same, copy_without_other}
use Rattle.mt_laws.proofs.Clearing.Renewed.{at_change}
use Rattle.mt_laws.proofs.Words.BusLaws.{HasWindows, Stands, copies, unwritten, Stays, Word, LeavesWord, leaves_word, leaves_same, leaves_then, fits_placed, fits_eight, fits_bits, fits_of, fit_at, stands_change, copies_set, copies_at, writes_set, writes_at, leaves_change, fits_without}
use Rattle.mt_laws.proofs.Words.Lengths.{oldest_none, oldest_some}

-- ---- lines that are written

length_eight : (xs : List ℕ) (i v : ℕ) → length xs ≡ 8 → length (slice_set xs i v) ≡ 8
length_eight xs i v h = length-set xs i v ∙ h

pub fits_dirty : (ws : List Window) (w v : ℕ) → w < 8 → (l : CacheLine) → fits ws l ≡ true → fits ws (write_dirty w v l) ≡ true
fits_dirty ws w v small l h =
    fits_of ws (write_dirty w v l) (fits_placed ws l h) (length_eight l.words w v (fits_eight ws l h)) (set_below l.dirty w (fits_bits ws l h) small)

pub fits_clean : (ws : List Window) (w v : ℕ) → (l : CacheLine) → fits ws l ≡ true → fits ws (write_clean w v l) ≡ true
fits_clean ws w v l h =
    fits_of ws (write_clean w v l) (fits_placed ws l h) (length_eight l.words w v (fits_eight ws l h)) (clear_below l.dirty w (fits_bits ws l h))

pub look_dirty : (a w v : ℕ) (l : CacheLine) → word_of a ≡ w → w < 8 → length l.words ≡ 8 → look a (write_dirty w v l) ≡ (v, true)
look_dirty a w v l is small eight =
    let value : slice_index (slice_set l.words w v) (word_of a) ≡ v = ap (slice_index (slice_set l.words w v)) is ∙ get_or-set_same l.words w v 0 (omega arith) in
    let dirty = ap (λ i. is_dirty (write_dirty w v l) i) is ∙ set_same l.dirty w in
    λ i. (value i, dirty i)

pub look_clean : (a w v : ℕ) (l : CacheLine) → word_of a ≡ w → w < 8 → length l.words ≡ 8 → look a (write_clean w v l) ≡ (v, false)
look_clean a w v l is small eight =
    let value : slice_index (slice_set l.words w v) (word_of a) ≡ v = ap (slice_index (slice_set l.words w v)) is ∙ get_or-set_same l.words w v 0 (omega arith) in
    let dirty = ap (λ i. is_dirty (write_clean w v l) i) is ∙ clear_same l.dirty w small in
    λ i. (value i, dirty i)

pub look_dirty_other : (a w v : ℕ) (l : CacheLine) → word_of a ≢ w → look a (write_dirty w v l) ≡ look a l
look_dirty_other a w v l other =
    let value : slice_index (slice_set l.words w v) (word_of a) ≡ slice_index l.words (word_of a) = get_or-set_other l.words w (word_of a) v 0 other in
    let dirty = set_other l.dirty w (word_of a) other in
    λ i. (value i, dirty i)

pub look_clean_other : (a w v : ℕ) (l : CacheLine) → w < 8 → word_of a < 8 → word_of a ≢ w → look a (write_clean w v l) ≡ look a l
look_clean_other a w v l small within other =
    let value : slice_index (slice_set l.words w v) (word_of a) ≡ slice_index l.words (word_of a) = get_or-set_other l.words w (word_of a) v 0 other in
    let dirty = clear_other l.dirty w (word_of a) small within other in
    λ i. (value i, dirty i)

-- ---- words and their lines

pub word_small : (a : ℕ) → word_of a < 8
word_small a = omega arith

-- two words of one line and one place in it are one
pub same_word : (a b : ℕ) → a % 8 ≡ 0 → b % 8 ≡ 0 → line_of a ≡ line_of b → word_of a ≡ word_of b → a ≡ b
same_word a b wa wb l w = omega arith

line_placed_in : (ws : List Window) (before n w i : ℕ) → AllAligned ws → w < 8 → place_in ws before (word_address n w) ≡ Some i → (j : ℕ) × (place_in ws before (word_address n 0) ≡ Some j)
line_placed_in [] before n w i aligned small h = absurd (cc)
line_placed_in (v ∷ ws) before n w i aligned small h =
    one (nat_le v.base (word_address n 0) && nat_lt (word_address n 0) (v.base + 64 * v.lines)) (nat_le v.base (word_address n w) && nat_lt (word_address n w) (v.base + 64 * v.lines)) refl refl
    (λ g. line_placed_in ws (before + 8 * v.lines) n w i aligned.1 small g) h
  where
    one : (x y : Bool) → (nat_le v.base (word_address n 0) && nat_lt (word_address n 0) (v.base + 64 * v.lines)) ≡ x → (nat_le v.base (word_address n w) && nat_lt (word_address n w) (v.base + 64 * v.lines)) ≡ y
        → (place_in ws (before + 8 * v.lines) (word_address n w) ≡ Some i → (j : ℕ) × (place_in ws (before + 8 * v.lines) (word_address n 0) ≡ Some j))
        → (if y then Some (before + (word_address n w - v.base) / 8) else place_in ws (before + 8 * v.lines) (word_address n w)) ≡ Some i
        → (j : ℕ) × ((if x then Some (before + (word_address n 0 - v.base) / 8) else place_in ws (before + 8 * v.lines) (word_address n 0)) ≡ Some j)
    one true y is_x is_y rest g = (before + (word_address n 0 - v.base) / 8, refl)
    one false true is_x is_y rest g =
        let al = aligned.0 in
        let low = leb-true v.base (word_address n w) (and_left _ _ is_y) in
        let up = ltb-true (word_address n w) (v.base + 64 * v.lines) (and_right (nat_le v.base (word_address n w)) _ is_y) in
        let low' : nat_le v.base (word_address n 0) ≡ true = le-leb v.base (word_address n 0) (omega arith) in
        let up' : nat_lt (word_address n 0) (v.base + 64 * v.lines) ≡ true = lt-ltb (word_address n 0) (v.base + 64 * v.lines) (omega arith) in
        absurd (let e : (nat_le v.base (word_address n 0) && nat_lt (word_address n 0) (v.base + 64 * v.lines)) ≡ true = ap (λ b. b && nat_lt (word_address n 0) (v.base + 64 * v.lines)) low' ∙ up' in cc)
    one false false is_x is_y rest g = rest g

-- the line of a word that has a place is in memory
pub line_placed : (ws : List Window) (m : Memory) (a : ℕ) → AllAligned ws → HasWindows ws m → is_some (place m a) ≡ true → (is_placed ws (line_of a) ≡ true) × (a % 8 ≡ 0)
line_placed ws m a aligned has h = one (a % 8 == 0) refl h
  where
    one : (b : Bool) → (a % 8 == 0) ≡ b → is_some (if b then place_in m.windows 0 a else None) ≡ true → (is_placed ws (line_of a) ≡ true) × (a % 8 ≡ 0)
    one false is g = absurd (cc)
    one true is g = two (place_in m.windows 0 a) refl g
      where
        two : (o : Option ℕ) → place_in m.windows 0 a ≡ o → is_some o ≡ true → (is_placed ws (line_of a) ≡ true) × (a % 8 ≡ 0)
        two None at g = absurd (cc)
        two (Some i) at g =
            let whole : a % 8 ≡ 0 = eqb-true (a % 8) 0 is in
            let same : word_address (line_of a) (word_of a) ≡ a = omega arith in
            let there : place_in ws 0 (word_address (line_of a) (word_of a)) ≡ Some i = ap (place_in ws 0) same ∙ ap (λ v. place_in v 0 a) (sym has.windows) ∙ at in
            let found = line_placed_in ws 0 (line_of a) (word_of a) i aligned (word_small a) there in
            (ap is_some found.1, whole)

-- ---- a change of one processor that stands

pub change_at : (f : Processor → Processor) (k : ℕ) (s : System) (p : Processor) → slice_get s.processors k ≡ Some p → change f k s ≡ record s { processors = set s.processors k (f p) }
change_at f k s p at = ap (λ (o : Option Processor). option_map_or (λ q. record s { processors = set s.processors k (f q) }) o s) at

get_set : (ps : List Processor) (k : ℕ) (p q : Processor) → slice_get ps k ≡ Some p → slice_get (set ps k q) k ≡ Some q
get_set [] k p q at = absurd (cc)
get_set (x ∷ ps) zero p q at = refl
get_set (x ∷ ps) (suc k) p q at = get_set ps k p q at

pub changed_at : (f : Processor → Processor) (k : ℕ) (s : System) (p : Processor) → slice_get s.processors k ≡ Some p → slice_get (change f k s).processors k ≡ Some (f p)
changed_at f k s p at = ap (λ (t : System). slice_get t.processors k) (change_at f k s p at) ∙ get_set s.processors k p (f p) at

pub others_get : (f : Processor → Processor) (i k j : ℕ) (ps : List Processor) → i + j ≡ k → slice_get (others_from i k f ps) j ≡ slice_get ps j
others_get f i k j [] e = refl
others_get f i k zero (p ∷ ps) e = one (i == k) (eq-eqb i k (omega arith))
  where
    one : (b : Bool) → b ≡ true → Some (if b then p else f p) ≡ Some p
    one true is = refl
    one false is = absurd (cc)
others_get f i k (suc j) (p ∷ ps) e = others_get f (i + 1) k j ps (omega arith)

-- the processor's buffers alone change, and its word is written in one only where it may be
pub word_buffers : (may : Bool) (a x : ℕ) (f : Processor → Processor) (k : ℕ) (s : System) → ((p : Processor) → (f p).lines ≡ p.lines) → (may ≡ false → (p : Processor) → unwritten a p.buffers ≡ true → unwritten a (f p).buffers ≡ true) → Word may a x s → Word may a x (change f k s)
word_buffers true a x f k s lines writes w = record { shows = shown (slice_get s.processors k) refl; writes = λ h. absurd (cc) }
  where
    shown : (o : Option Processor) → slice_get s.processors k ≡ o → Shows (word_at (option_map_or (λ p. record s { processors = set s.processors k (f p) }) o s).memory a) (copies a (option_map_or (λ p. record s { processors = set s.processors k (f p) }) o s).processors) x
    shown None is = w.shows
    shown (Some p) is = subst (λ (cs : List Copy). Shows (word_at s.memory a) cs x) (sym (copies_set a s.processors k (f p) ∙ ap (λ ls. set (copies a s.processors) k (copy_in a ls)) (lines p) ∙ copy_set (copies a s.processors) k (copy_in a p.lines) (copies_at a s.processors k p is))) w.shows
word_buffers false a x f k s lines writes w =
    leaves_word false a x s (change f k s) (leaves_change a f k s (λ p at. ap (copy_in a) (lines p)) (λ p at h. writes refl p h)) w

-- ---- room for a line

pub oldest_is : (size : ℕ) (ls : List CacheLine) (l : CacheLine) → oldest_of_full size ls ≡ Some l → (rest : List CacheLine) × (ls ≡ l ∷ rest)
oldest_is size [] l h = absurd (cc)
oldest_is size (x ∷ ls) l h = (ls, one (length ls + 1 == size) h)
  where
    one : (b : Bool) → (if b then Some x else None) ≡ Some l → x ∷ ls ≡ l ∷ ls
    one true g = let e : x ≡ l = cc in ap (λ (y : CacheLine). y ∷ ls) e
    one false g = absurd (cc)

pub oldest_found : (size : ℕ) (ls : List CacheLine) (l : CacheLine) → oldest_of_full size ls ≡ Some l → find_line l.number ls ≡ Some l
oldest_found size ls l h =
    let r = oldest_is size ls l h in
    ap (find_line l.number) r.1 ∙ find_hit l.number l r.0 (eq-eqb l.number l.number refl)

stays_loses : (may : Bool) (v x : ℕ) (cs : List Copy) (k : ℕ) (c : Copy) → slice_get cs k ≡ Some c → Stays may v cs x → Stays may (settle v c) (set cs k None) x
stays_loses true v x cs k c at h = loses v x cs k c at h
stays_loses false v x cs k c at h =
    let w = (shared_at v cs k c h.1 at).0 in
    (w ∙ h.0, subst (λ (y : ℕ). IsShared y (set cs k None)) (sym w) (shared_set v cs k None tt h.1))

-- the processor has no line of this number
abbrev pub Misses : ℕ → ℕ → System → Type 0
Misses n k s = (p : Processor) → slice_get s.processors k ≡ Some p → find_line n p.lines ≡ None

pub lines_at : (k : ℕ) (s : System) (p : Processor) → slice_get s.processors k ≡ Some p → lines_of s k ≡ p.lines
lines_at k s p at = ap (λ (o : Option Processor). option_map_or (λ q. q.lines) o []) at

pub misses_of : (n k : ℕ) (s : System) → find_line n (lines_of s k) ≡ None → Misses n k s
misses_of n k s h p at = ap (find_line n) (sym (lines_at k s p at)) ∙ h

none_without : (n m : ℕ) (ls : List CacheLine) → find_line n ls ≡ None → find_line n (without_line m ls) ≡ None
none_without n m ls h = one (n == m) refl
  where
    one : (b : Bool) → (n == m) ≡ b → find_line n (without_line m ls) ≡ None
    one true is = ap (λ i. find_line i (without_line m ls)) (eqb-true n m is) ∙ find_without_same m ls
    one false is = find_without_other n m ls (eqb-false n m is) ∙ h

module _ (ws : List Window) (aligned : AllAligned ws) where
  pub stands_room : (k : ℕ) (s : System) → Stands ws s → Stands ws (make_room k s)
  stands_room k s st = one (oldest_of_full 64 (lines_of s k))
    where
      one : (o : Option CacheLine) → Stands ws (option_map_or (λ l. change (with_lines (without_line l.number)) k (record s { memory = write_back s.memory l })) o s)
      one None = st
      one (Some l) = stands_change ws (with_lines (without_line l.number)) k (record s { memory = write_back s.memory l })
          (λ p at h. fits_without ws l.number p h)
          (record { memory = record { windows = write_back_windows s.memory l ∙ st.memory.windows; counted = write_back_length s.memory l ∙ st.memory.counted }; fit = st.fit })

  -- and then one more line has room
  pub few_room : (k : ℕ) (s : System) → Stands ws s → (q : Processor) → slice_get (make_room k s).processors k ≡ Some q → length q.lines < 64
  few_room k s st q = one (oldest_of_full 64 (lines_of s k)) refl
    where
      one : (o : Option CacheLine) → oldest_of_full 64 (lines_of s k) ≡ o → slice_get (option_map_or (λ l. change (with_lines (without_line l.number)) k (record s { memory = write_back s.memory l })) o s).processors k ≡ Some q → length q.lines < 64
      one None is at = oldest_none 64 q.lines (omega arith) (fit_at ws s.processors k q st.fit at).few_lines (ap (oldest_of_full 64) (sym (lines_at k s q at)) ∙ is)
      one (Some l) is at =
          ⊎_elim
          (λ (e : (k ≡ k) × (x : Processor) × (slice_get s.processors k ≡ Some x) × (with_lines (without_line l.number) x ≡ q)).
          subst (λ (p : Processor). length p.lines < 64) e.3
          (oldest_some 64 e.1.lines l (fit_at ws s.processors k e.1 st.fit e.2).few_lines (ap (oldest_of_full 64) (sym (lines_at k s e.1 e.2)) ∙ is)))
          (λ (e : (k ≢ k) × (slice_get s.processors k ≡ Some q)). absurd (e.0 refl))
          (at_change (with_lines (without_line l.number)) k (record s { memory = write_back s.memory l }) k q at)

  pub misses_room : (n k : ℕ) (s : System) → Misses n k s → Misses n k (make_room k s)
  misses_room n k s h = one (oldest_of_full 64 (lines_of s k))
    where
      one : (o : Option CacheLine) → Misses n k (option_map_or (λ l. change (with_lines (without_line l.number)) k (record s { memory = write_back s.memory l })) o s)
      one None = h
      one (Some l) = λ q at.
          ⊎_elim
          (λ (e : (k ≡ k) × (x : Processor) × (slice_get s.processors k ≡ Some x) × (with_lines (without_line l.number) x ≡ q)). ap (λ (p : Processor). find_line n p.lines) (sym e.3) ∙ none_without n l.number e.1.lines (h e.1 e.2))
          (λ (e : (k ≢ k) × (slice_get s.processors k ≡ Some q)). absurd (e.0 refl))
          (at_change (with_lines (without_line l.number)) k (record s { memory = write_back s.memory l }) k q at)

  -- where processor k stands
  module _ (k : ℕ) (s : System) (p : Processor) (at : slice_get s.processors k ≡ Some p) (st : Stands ws s) where
    there : AllAligned s.memory.windows
    there = subst AllAligned (sym st.memory.windows) aligned

    -- the oldest line goes: its words are written back
    evict_same : (may : Bool) (a x : ℕ) (l : CacheLine) → a % 8 ≡ 0 → line_of a ≡ l.number → find_line l.number p.lines ≡ Some l → Word may a x s → Word may a x (change (with_lines (without_line l.number)) k (record s { memory = write_back s.memory l }))
    evict_same may a x l whole same found w =
        subst (Word may a x) (sym (change_at (with_lines (without_line l.number)) k (record s { memory = write_back s.memory l }) p at))
        (record {
          shows = subst (λ (cs : List Copy). Stays may (word_at (write_back s.memory l) a) cs x) (sym copies_after)
              (subst (λ (v : ℕ). Stays may v (set (copies a s.processors) k None) x) (sym back)
              (stays_loses may (word_at s.memory a) x (copies a s.processors) k (Some (look a l)) has w.shows));
          writes = λ h. writes_set a s.processors k (with_lines (without_line l.number) p) (writes_at a s.processors k p (w.writes h) at) (w.writes h);
        })
      where
        has : slice_get (copies a s.processors) k ≡ Some (Some (look a l))
        has = copies_at a s.processors k p at ∙ ap (λ n. Some (option_map (look a) (find_line n p.lines))) same ∙ ap (λ o. Some (option_map (look a) o)) found

        copies_after : copies a (set s.processors k (with_lines (without_line l.number) p)) ≡ set (copies a s.processors) k None
        copies_after = copies_set a s.processors k (with_lines (without_line l.number) p) ∙ ap (set (copies a s.processors) k) (copy_without_same a l.number p.lines same)

        back : word_at (write_back s.memory l) a ≡ settle (word_at s.memory a) (Some (look a l))
        back = write_back_same l a whole same s.memory there
            (ap (λ v. is_placed v l.number) st.memory.windows ∙ fits_placed ws l (found_passes (fits ws) l.number p.lines l (fit_at ws s.processors k p st.fit at).lines_fit found))
            (st.memory.counted ∙ ap word_count (sym st.memory.windows))

    evict_other : (a : ℕ) (l : CacheLine) → line_of a ≢ l.number → LeavesWord a s (change (with_lines (without_line l.number)) k (record s { memory = write_back s.memory l }))
    evict_other a l other =
        leaves_then a s (record s { memory = write_back s.memory l }) _
        (record { word = write_back_other l a s.memory there other; same = refl; writes = λ h. h })
        (leaves_change a (with_lines (without_line l.number)) k (record s { memory = write_back s.memory l }) (λ q at. copy_without_other a l.number q.lines other) (λ q at h. h))

    pub room_word : (may : Bool) (a x : ℕ) → a % 8 ≡ 0 → Word may a x s → Word may a x (make_room k s)
    room_word may a x whole w = one (oldest_of_full 64 (lines_of s k)) refl
      where
        one : (o : Option CacheLine) → oldest_of_full 64 (lines_of s k) ≡ o → Word may a x (option_map_or (λ l. change (with_lines (without_line l.number)) k (record s { memory = write_back s.memory l })) o s)
        one None is = w
        one (Some l) is = two (line_of a == l.number) refl
          where
            found : find_line l.number p.lines ≡ Some l
            found = oldest_found 64 p.lines l (ap (oldest_of_full 64) (sym (lines_at k s p at)) ∙ is)

            two : (b : Bool) → (line_of a == l.number) ≡ b → Word may a x (change (with_lines (without_line l.number)) k (record s { memory = write_back s.memory l }))
            two true e = evict_same may a x l whole (eqb-true (line_of a) l.number e) found w
            two false e = leaves_word may a x s _ (evict_other a l (eqb-false (line_of a) l.number e)) w

    -- a line that the cache has not stays as it is
    pub leaves_room : (n a : ℕ) → line_of a ≡ n → Misses n k s → LeavesWord a s (make_room k s)
    leaves_room n a same misses = one (oldest_of_full 64 (lines_of s k)) refl
      where
        one : (o : Option CacheLine) → oldest_of_full 64 (lines_of s k) ≡ o → LeavesWord a s (option_map_or (λ l. change (with_lines (without_line l.number)) k (record s { memory = write_back s.memory l })) o s)
        one None is = leaves_same a s
        one (Some l) is =
            let found : find_line l.number p.lines ≡ Some l = oldest_found 64 p.lines l (ap (oldest_of_full 64) (sym (lines_at k s p at)) ∙ is) in
            evict_other a l (λ e. absurd (let none : find_line l.number p.lines ≡ None = ap (λ i. find_line i p.lines) (sym e ∙ same) ∙ misses p at in cc))

    pub room_at : (q : Option Processor) → slice_get (make_room k s).processors k ≡ q → (r : Processor) × (q ≡ Some r)
    room_at (Some r) is = (r, refl)
    room_at None is = absurd (one (oldest_of_full 64 (lines_of s k)) is)
      where
        one : (o : Option CacheLine) → slice_get (option_map_or (λ l. change (with_lines (without_line l.number)) k (record s { memory = write_back s.memory l })) o s).processors k ≡ None → ⊥
        one None g = absurd (cc)
        one (Some l) g = let h = changed_at (with_lines (without_line l.number)) k (record s { memory = write_back s.memory l }) p at in absurd (cc)
