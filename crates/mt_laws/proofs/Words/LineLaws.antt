-- What a list of lines has of one word, and how write-backs, changes and removals of a line act on it.
use Rattle.std.proofs.Common.{◌≡◌, ◌≢◌, ℕ, zero, suc, ◌+◌, ◌-◌, ◌*◌, ◌/◌, ◌%◌, ◌<◌, ◌==◌, List, [], ◌∷◌, length, set, get_or, Some, None, Option, Bool, true, false, refl, sym, ap, subst, ◌∙◌, arith, eq-eqb}
use Rattle.std.specs.Prelude.{if◌then◌else◌, nat_lt, nat_le, ◌&&◌, ◌||◌, is_some, slice_index}
use Rattle.std.specs.List.{fold, list_all, list_any}
use Rattle.std.specs.Option.{option_map_or}
use Rattle.std.proofs.lemmas.Bool.{eqb-true, eqb-false, ltb-true, leb-true, lt-ltb, le-leb}
use Rattle.std.proofs.lemmas.List.{get_or-set_same, length-set}
use Rattle.mt_cache.specs.declared.line.CacheLine.{CacheLine}
use Rattle.mt_machine.specs.Memory.{Memory, Window, word_count, place_in, place, word_at, put_word, word_address, line_of, word_of, write_back_word, write_back}
use Rattle.mt_cache.specs.Lines.{eight, is_dirty}
use Rattle.mt_laws.proofs.Barrier.Ranks.{and_left, and_right}
use Rattle.mt_laws.proofs.Words.MemoryLaws.{AllAligned, put_other}
use Rattle.mt_laws.proofs.Words.Copies.{settle}

-- ---- memory

pub put_windows : (m : Memory) (a v : ℕ) → (put_word m a v).windows ≡ m.windows
put_windows m a v = one (place m a)
  where
    one : (x : Option ℕ) → (option_map_or (λ i. record m { words = set m.words i v }) x m).windows ≡ m.windows
    one None = refl
    one (Some i) = refl

pub put_length : (m : Memory) (a v : ℕ) → length (put_word m a v).words ≡ length m.words
put_length m a v = one (place m a)
  where
    one : (x : Option ℕ) → length (option_map_or (λ i. record m { words = set m.words i v }) x m).words ≡ length m.words
    one None = refl
    one (Some i) = length-set m.words i v

pub put_same : (m : Memory) (a v i : ℕ) → place m a ≡ Some i → i < length m.words → word_at (put_word m a v) a ≡ v
put_same m a v i is within =
    ap (λ (x : Option ℕ). word_at (option_map_or (λ j. record m { words = set m.words j v }) x m) a) is
    ∙ ap (λ (x : Option ℕ). option_map_or (λ j. get_or (set m.words i v) j 0) x 0) is
    ∙ get_or-set_same m.words i v 0 within

-- a window that has a line has its eight words
words_placed : (ws : List Window) (before n w i : ℕ) → AllAligned ws → w < 8 → place_in ws before (word_address n 0) ≡ Some i → (j : ℕ) × (place_in ws before (word_address n w) ≡ Some j) × (j < before + word_count ws)
words_placed [] before n w i aligned small h = absurd (cc)
words_placed (v ∷ ws) before n w i aligned small h =
    one (nat_le v.base (word_address n 0) && nat_lt (word_address n 0) (v.base + 64 * v.lines)) (nat_le v.base (word_address n w) && nat_lt (word_address n w) (v.base + 64 * v.lines)) refl refl
    (λ g. words_placed ws (before + 8 * v.lines) n w i aligned.1 small g) h
  where
    Found : Option ℕ → Type 0
    Found x = (j : ℕ) × (x ≡ Some j) × (j < before + (8 * v.lines + word_count ws))

    one : (x y : Bool) → (nat_le v.base (word_address n 0) && nat_lt (word_address n 0) (v.base + 64 * v.lines)) ≡ x → (nat_le v.base (word_address n w) && nat_lt (word_address n w) (v.base + 64 * v.lines)) ≡ y
        → (place_in ws (before + 8 * v.lines) (word_address n 0) ≡ Some i → (j : ℕ) × (place_in ws (before + 8 * v.lines) (word_address n w) ≡ Some j) × (j < before + 8 * v.lines + word_count ws))
        → (if x then Some (before + (word_address n 0 - v.base) / 8) else place_in ws (before + 8 * v.lines) (word_address n 0)) ≡ Some i
        → (j : ℕ) × ((if y then Some (before + (word_address n w - v.base) / 8) else place_in ws (before + 8 * v.lines) (word_address n w)) ≡ Some j) × (j < before + (8 * v.lines + word_count ws))
    one true true is_x is_y rest g =
        let low = leb-true v.base (word_address n w) (and_left _ _ is_y) in
        let up = ltb-true (word_address n w) (v.base + 64 * v.lines) (and_right (nat_le v.base (word_address n w)) _ is_y) in
        (before + (word_address n w - v.base) / 8, refl, omega arith)
    one true false is_x is_y rest g =
        let al = aligned.0 in
        let low = leb-true v.base (word_address n 0) (and_left _ _ is_x) in
        let up = ltb-true (word_address n 0) (v.base + 64 * v.lines) (and_right (nat_le v.base (word_address n 0)) _ is_x) in
        let low' : nat_le v.base (word_address n w) ≡ true = le-leb v.base (word_address n w) (omega arith) in
        let up' : nat_lt (word_address n w) (v.base + 64 * v.lines) ≡ true = lt-ltb (word_address n w) (v.base + 64 * v.lines) (omega arith) in
        absurd (let e : (nat_le v.base (word_address n w) && nat_lt (word_address n w) (v.base + 64 * v.lines)) ≡ true = ap (λ b. b && nat_lt (word_address n w) (v.base + 64 * v.lines)) low' ∙ up' in cc)
    one false true is_x is_y rest g =
        let al = aligned.0 in
        let low = leb-true v.base (word_address n w) (and_left _ _ is_y) in
        let up = ltb-true (word_address n w) (v.base + 64 * v.lines) (and_right (nat_le v.base (word_address n w)) _ is_y) in
        let low' : nat_le v.base (word_address n 0) ≡ true = le-leb v.base (word_address n 0) (omega arith) in
        let up' : nat_lt (word_address n 0) (v.base + 64 * v.lines) ≡ true = lt-ltb (word_address n 0) (v.base + 64 * v.lines) (omega arith) in
        absurd (let e : (nat_le v.base (word_address n 0) && nat_lt (word_address n 0) (v.base + 64 * v.lines)) ≡ true = ap (λ b. b && nat_lt (word_address n 0) (v.base + 64 * v.lines)) low' ∙ up' in cc)
    one false false is_x is_y rest g = let r = rest g in (r.0, r.1, (let b = r.2 in omega arith))

-- ---- lines that fit: in memory, with eight words and a bit for each

abbrev pub is_placed : List Window → ℕ → Bool
is_placed ws n = is_some (place_in ws 0 (word_address n 0))

abbrev pub fits : List Window → CacheLine → Bool
fits ws l = is_placed ws l.number && ((length l.words == 8) && nat_lt l.dirty 256)

abbrev pub is_word : ℕ → Bool
is_word a = a % 8 == 0

some_of : (x : Option ℕ) → is_some x ≡ true → (i : ℕ) × (x ≡ Some i)
some_of None h = absurd (cc)
some_of (Some i) h = (i, refl)

pub word_in_line : (a : ℕ) → a % 8 ≡ 0 → (a ≡ word_address (line_of a) (word_of a)) × (word_of a < 8)
word_in_line a h = (omega arith, omega arith)

-- the word of a line that memory has, has a place
pub word_placed : (m : Memory) (n a : ℕ) → AllAligned m.windows → is_placed m.windows n ≡ true → a % 8 ≡ 0 → line_of a ≡ n → (j : ℕ) × (place m a ≡ Some j) × (j < word_count m.windows)
word_placed m n a aligned placed whole same =
    let at = some_of (place_in m.windows 0 (word_address n 0)) placed in
    let found = words_placed m.windows 0 n (word_of a) at.0 aligned (omega arith) at.1 in
    let is : word_address n (word_of a) ≡ a = omega arith in
    (found.0, ap (λ b. if b then place_in m.windows 0 a else None) (eq-eqb (a % 8) 0 whole) ∙ ap (place_in m.windows 0) (sym is) ∙ found.1, (let b = found.2 in omega arith))

-- ---- write-backs

pub back_windows : (l : CacheLine) (w : ℕ) (m : Memory) → (write_back_word l m w).windows ≡ m.windows
back_windows l w m = one (is_dirty l w)
  where
    one : (b : Bool) → (if b then put_word m (word_address l.number w) (slice_index l.words w) else m).windows ≡ m.windows
    one true = put_windows m (word_address l.number w) (slice_index l.words w)
    one false = refl

pub back_length : (l : CacheLine) (w : ℕ) (m : Memory) → length (write_back_word l m w).words ≡ length m.words
back_length l w m = one (is_dirty l w)
  where
    one : (b : Bool) → length (if b then put_word m (word_address l.number w) (slice_index l.words w) else m).words ≡ length m.words
    one true = put_length m (word_address l.number w) (slice_index l.words w)
    one false = refl

fold_windows : (l : CacheLine) (ws : List ℕ) (m : Memory) → (fold (write_back_word l) m ws).windows ≡ m.windows
fold_windows l [] m = refl
fold_windows l (w ∷ ws) m = fold_windows l ws (write_back_word l m w) ∙ back_windows l w m

fold_length : (l : CacheLine) (ws : List ℕ) (m : Memory) → length (fold (write_back_word l) m ws).words ≡ length m.words
fold_length l [] m = refl
fold_length l (w ∷ ws) m = fold_length l ws (write_back_word l m w) ∙ back_length l w m

pub write_back_windows : (m : Memory) (l : CacheLine) → (write_back m l).windows ≡ m.windows
write_back_windows m l = fold_windows l eight m

pub write_back_length : (m : Memory) (l : CacheLine) → length (write_back m l).words ≡ length m.words
write_back_length m l = fold_length l eight m

-- the word at another address stays
back_other : (l : CacheLine) (w a : ℕ) (m : Memory) → AllAligned m.windows → word_address l.number w ≢ a → word_at (write_back_word l m w) a ≡ word_at m a
back_other l w a m aligned apart = one (is_dirty l w)
  where
    one : (b : Bool) → word_at (if b then put_word m (word_address l.number w) (slice_index l.words w) else m) a ≡ word_at m a
    one true = put_other m (word_address l.number w) a (slice_index l.words w) aligned apart
    one false = refl

fold_other : (l : CacheLine) (a : ℕ) → line_of a ≢ l.number → (ws : List ℕ) (m : Memory) → AllAligned m.windows → list_all (λ w. nat_lt w 8) ws ≡ true → word_at (fold (write_back_word l) m ws) a ≡ word_at m a
fold_other l a other [] m aligned all = refl
fold_other l a other (w ∷ ws) m aligned all =
    let low = ltb-true w 8 (and_left _ _ all) in
    fold_other l a other ws (write_back_word l m w) (subst AllAligned (sym (back_windows l w m)) aligned) (and_right (nat_lt w 8) _ all)
    ∙ back_other l w a m aligned (λ e. other (omega arith))

pub write_back_other : (l : CacheLine) (a : ℕ) (m : Memory) → AllAligned m.windows → line_of a ≢ l.number → word_at (write_back m l) a ≡ word_at m a
write_back_other l a m aligned other = fold_other l a other eight m aligned refl

-- what a line has of a word
abbrev pub look : ℕ → CacheLine → ℕ × Bool
look a l = (slice_index l.words (word_of a), is_dirty l (word_of a))

abbrev written : ℕ → CacheLine → Bool → ℕ → ℕ
written a l now v = if now then settle v (Some (look a l)) else v

module _ (l : CacheLine) (a : ℕ) (whole : a % 8 ≡ 0) (same : line_of a ≡ l.number) where
  back_same : (m : Memory) → AllAligned m.windows → is_placed m.windows l.number ≡ true → length m.words ≡ word_count m.windows → word_at (write_back_word l m (word_of a)) a ≡ settle (word_at m a) (Some (look a l))
  back_same m aligned placed counted = one (is_dirty l (word_of a))
    where
      at : word_address l.number (word_of a) ≡ a
      at = omega arith

      one : (b : Bool) → word_at (if b then put_word m (word_address l.number (word_of a)) (slice_index l.words (word_of a)) else m) a ≡ settle (word_at m a) (Some (slice_index l.words (word_of a), b))
      one false = refl
      one true =
          let found = word_placed m l.number a aligned placed whole same in
          ap (λ (x : ℕ). word_at (put_word m x (slice_index l.words (word_of a))) a) at
          ∙ put_same m a (slice_index l.words (word_of a)) found.0 found.1 (let b = found.2 in omega arith)

  settle_twice : (v x : ℕ) (d : Bool) → settle (settle v (Some (x, d))) (Some (x, d)) ≡ settle v (Some (x, d))
  settle_twice v x true = refl
  settle_twice v x false = refl

  fold_same : (ws : List ℕ) (m : Memory) → AllAligned m.windows → is_placed m.windows l.number ≡ true → length m.words ≡ word_count m.windows → list_all (λ w. nat_lt w 8) ws ≡ true
      → word_at (fold (write_back_word l) m ws) a ≡ written a l (list_any (λ w. w == word_of a) ws) (word_at m a)
  fold_same [] m aligned placed counted all = refl
  fold_same (w ∷ ws) m aligned placed counted all =
      let n : Memory = write_back_word l m w in
      let windows : n.windows ≡ m.windows = back_windows l w m in
      fold_same ws n (subst AllAligned (sym windows) aligned) (ap (λ v. is_placed v l.number) windows ∙ placed) (back_length l w m ∙ counted ∙ ap word_count (sym windows)) (and_right (nat_lt w 8) _ all)
      ∙ one (w == word_of a) refl (list_any (λ v. v == word_of a) ws)
    where
      one : (b : Bool) → (w == word_of a) ≡ b → (r : Bool) → written a l r (word_at (write_back_word l m w) a) ≡ written a l (b || r) (word_at m a)
      one true is r =
          let e : w ≡ word_of a = eqb-true w (word_of a) is in
          ap (λ (x : ℕ). written a l r (word_at (write_back_word l m x) a)) e ∙ ap (written a l r) (back_same m aligned placed counted) ∙ two r
        where
          two : (r : Bool) → written a l r (settle (word_at m a) (Some (look a l))) ≡ settle (word_at m a) (Some (look a l))
          two true = settle_twice (word_at m a) (slice_index l.words (word_of a)) (is_dirty l (word_of a))
          two false = refl
      one false is r =
          let low = ltb-true w 8 (and_left _ _ all) in
          ap (written a l r) (back_other l w a m aligned (λ e. eqb-false w (word_of a) is (omega arith)))

  has_eight : (w : ℕ) → w < 8 → list_any (λ v. v == w) eight ≡ true
  has_eight zero h = refl
  has_eight (suc zero) h = refl
  has_eight (suc (suc zero)) h = refl
  has_eight (suc (suc (suc zero))) h = refl
  has_eight (suc (suc (suc (suc zero)))) h = refl
  has_eight (suc (suc (suc (suc (suc zero))))) h = refl
  has_eight (suc (suc (suc (suc (suc (suc zero)))))) h = refl
  has_eight (suc (suc (suc (suc (suc (suc (suc zero))))))) h = refl
  has_eight (suc (suc (suc (suc (suc (suc (suc (suc w)))))))) h = absurd (omega arith)

  pub write_back_same : (m : Memory) → AllAligned m.windows → is_placed m.windows l.number ≡ true → length m.words ≡ word_count m.windows → word_at (write_back m l) a ≡ settle (word_at m a) (Some (look a l))
  write_back_same m aligned placed counted =
      fold_same eight m aligned placed counted refl ∙ ap (λ b. written a l b (word_at m a)) (has_eight (word_of a) (omega arith))
