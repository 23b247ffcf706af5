-- Each bus operation acts on its own line as on one word's copies, and leaves every other line.
use Rattle.std.proofs.Common.{◌≡◌, ◌≢◌, ℕ, zero, suc, ◌+◌, ◌%◌, ◌<◌, ◌≤◌, ◌==◌, List, [], ◌∷◌, length, set, Some, None, Option, Bool, true, false, refl, sym, ap, subst, ◌∙◌, arith, inl, eq-eqb}
use Rattle.std.specs.Prelude.{slice_get, if◌then◌else◌, ◌&&◌, not, map}
use Rattle.std.specs.List.{fold, list_all, remove}
use Rattle.std.specs.Option.{option_map_or}
use Rattle.std.proofs.lemmas.Bool.{eqb-true, eqb-false, ltb-true, lt-ltb}
use Rattle.mt_cache.specs.declared.line.CacheLine.{CacheLine}
use Rattle.mt_machine.specs.Memory.{Memory, Window, word_count, word_at, line_of, word_of, write_back, write_back_of}
use Rattle.mt_cache.specs.Lines.{is_dirty, has_number, find_line, without_line, change_line, clean_line}
use Rattle.mt_machine.specs.System.{Processor, System, change, buffers_of}
use Rattle.mt_machine.specs.Bus.{with_lines, with_buffers, bus_read, invalidate, others_from, invalidate_others, write_back_others, empty_buffer, drain, drain_line}
use Rattle.mt_laws.proofs.Barrier.Ranks.{and_left, and_right}
use Rattle.mt_laws.proofs.Words.MemoryLaws.{AllAligned}
use Rattle.mt_laws.proofs.Words.BitLaws.{no_bit}
use Rattle.mt_laws.proofs.Words.Copies.{Copy, settle, cleaned, IsClear, IsShared, Shows, only_from, clear_shared, all_clear, read_settles, read_cleans, shared_only, shared_removed, takes_over}
use Rattle.mt_laws.proofs.Words.LineLaws.{fits, is_placed, look, write_back_same, write_back_other, write_back_windows, write_back_length}
use Rattle.mt_laws.proofs.Words.Lengths.{change_length, without_length}
use Rattle.mt_laws.proofs.Words.LineLists.{copy_in, Apart, apart_without, apart_change, passes_without, passes_changed, found_passes, copy_without_same, copy_without_other, copy_change_other, copy_change_same, of_word, of_other, of_windows, of_length}

-- ---- what a system keeps of its lines

pub record FitsMemory (ws : List Window) (p : Processor) : Type 0 where
  pub lines_apart : Apart p.lines
  pub lines_fit : list_all (fits ws) p.lines ≡ true
  pub buffers_apart : Apart p.buffers
  pub buffers_fit : list_all (fits ws) p.buffers ≡ true
  pub few_lines : length p.lines ≤ 64
  pub few_buffers : length p.buffers ≤ 4

abbrev pub AllFit : List Window → List Processor → Type 0
AllFit ws [] = Unit {0}
AllFit ws (p ∷ ps) = FitsMemory ws p × AllFit ws ps

pub record HasWindows (ws : List Window) (m : Memory) : Type 0 where
  pub windows : m.windows ≡ ws
  pub counted : length m.words ≡ word_count ws

pub record Stands (ws : List Window) (s : System) : Type 0 where
  pub memory : HasWindows ws s.memory
  pub fit : AllFit ws s.processors

-- ---- one word of a system

abbrev pub copies : ℕ → List Processor → List Copy
copies a ps = map (λ p. copy_in a p.lines) ps

-- the buffer has not this word to write
abbrev pub is_unwritten : ℕ → CacheLine → Bool
is_unwritten a l = not (has_number (line_of a) l && is_dirty l (word_of a))

abbrev pub unwritten : ℕ → List CacheLine → Bool
unwritten a ls = list_all (is_unwritten a) ls

abbrev pub all_unwritten : ℕ → List Processor → Bool
all_unwritten a ps = list_all (λ p. unwritten a p.buffers) ps

-- the word's value is x; where it may not have been stored, memory has it
abbrev pub Stays : Bool → ℕ → List Copy → ℕ → Type 0
Stays true v cs x = Shows v cs x
Stays false v cs x = (v ≡ x) × IsShared v cs

pub record Word (may : Bool) (a x : ℕ) (s : System) : Type 0 where
  pub shows : Stays may (word_at s.memory a) (copies a s.processors) x
  pub writes : may ≡ false → all_unwritten a s.processors ≡ true

-- memory has the word, and no cache has it dirty, or none has it at all
pub record Clean (a x : ℕ) (s : System) : Type 0 where
  pub at : word_at s.memory a ≡ x
  pub shared : IsShared x (copies a s.processors)

pub record Bare (a x : ℕ) (s : System) : Type 0 where
  pub at : word_at s.memory a ≡ x
  pub clear : IsClear (copies a s.processors)

-- the same where the word's own buffer may have been emptied
abbrev pub After : Bool → ℕ → ℕ → System → Type 0
After may a x s = (y : ℕ) × (may ≡ false → y ≡ x) × Word may a y s

pub record LeavesWord (a : ℕ) (s t : System) : Type 0 where
  pub word : word_at t.memory a ≡ word_at s.memory a
  pub same : copies a t.processors ≡ copies a s.processors
  pub writes : all_unwritten a s.processors ≡ true → all_unwritten a t.processors ≡ true

pub stays_shows : (may : Bool) (v : ℕ) (cs : List Copy) (x : ℕ) → Stays may v cs x → Shows v cs x
stays_shows true v cs x h = h
stays_shows false v cs x h = inl h

pub clean_stays : (may : Bool) (v : ℕ) (cs : List Copy) (x : ℕ) → v ≡ x → IsShared x cs → Stays may v cs x
clean_stays true v cs x e h = inl (e, subst (λ (y : ℕ). IsShared y cs) (sym e) h)
clean_stays false v cs x e h = (e, subst (λ (y : ℕ). IsShared y cs) (sym e) h)

pub clean_word : (may : Bool) (a x : ℕ) (s : System) → Clean a x s → (may ≡ false → all_unwritten a s.processors ≡ true) → Word may a x s
clean_word may a x s c w = record { shows = clean_stays may (word_at s.memory a) (copies a s.processors) x c.at c.shared; writes = w }

pub bare_clean : (a x : ℕ) (s : System) → Bare a x s → Clean a x s
bare_clean a x s b = record { at = b.at; shared = clear_shared x (copies a s.processors) b.clear }

pub leaves_word : (may : Bool) (a x : ℕ) (s t : System) → LeavesWord a s t → Word may a x s → Word may a x t
leaves_word may a x s t l w = record {
  shows = subst (λ (cs : List Copy). Stays may (word_at t.memory a) cs x) (sym l.same) (subst (λ (v : ℕ). Stays may v (copies a s.processors) x) (sym l.word) w.shows);
  writes = λ h. l.writes (w.writes h);
}

pub leaves_same : (a : ℕ) (s : System) → LeavesWord a s s
leaves_same a s = record { word = refl; same = refl; writes = λ h. h }

pub leaves_then : (a : ℕ) (s t u : System) → LeavesWord a s t → LeavesWord a t u → LeavesWord a s u
leaves_then a s t u l k = record { word = k.word ∙ l.word; same = k.same ∙ l.same; writes = λ h. k.writes (l.writes h) }

pub after_word : (may : Bool) (a x : ℕ) (s : System) → Word may a x s → After may a x s
after_word may a x s w = (x, (λ h. refl), w)

pub after_then : (may : Bool) (a x : ℕ) (s t : System) → After may a x s → ((y : ℕ) → Word may a y s → After may a y t) → After may a x t
after_then may a x s t first second =
    let r = second first.0 first.2 in (r.0, (λ h. r.1 h ∙ first.1 h), r.2)

-- ---- lines that fit

pub fits_placed : (ws : List Window) (l : CacheLine) → fits ws l ≡ true → is_placed ws l.number ≡ true
fits_placed ws l h = and_left _ _ h

pub fits_eight : (ws : List Window) (l : CacheLine) → fits ws l ≡ true → length l.words ≡ 8
fits_eight ws l h = eqb-true (length l.words) 8 (and_left _ _ (and_right (is_placed ws l.number) _ h))

pub fits_bits : (ws : List Window) (l : CacheLine) → fits ws l ≡ true → l.dirty < 256
fits_bits ws l h = ltb-true l.dirty 256 (and_right (length l.words == 8) _ (and_right (is_placed ws l.number) _ h))

and_true : (a b : Bool) → a ≡ true → b ≡ true → (a && b) ≡ true
and_true true b h g = g
and_true false b h g = absurd (cc)

pub fits_of : (ws : List Window) (l : CacheLine) → is_placed ws l.number ≡ true → length l.words ≡ 8 → l.dirty < 256 → fits ws l ≡ true
fits_of ws l placed eight bits = and_true _ _ placed (and_true _ _ (eq-eqb (length l.words) 8 eight) (lt-ltb l.dirty 256 bits))

pub fits_cleaned : (ws : List Window) (l : CacheLine) → fits ws l ≡ true → fits ws (clean_line l) ≡ true
fits_cleaned ws l h = fits_of ws (clean_line l) (fits_placed ws l h) (fits_eight ws l h) (omega arith)

pub fit_at : (ws : List Window) (ps : List Processor) (k : ℕ) (p : Processor) → AllFit ws ps → slice_get ps k ≡ Some p → FitsMemory ws p
fit_at ws [] k p h at = absurd (cc)
fit_at ws (q ∷ ps) zero p h at = let e : q ≡ p = cc in subst (FitsMemory ws) e h.0
fit_at ws (q ∷ ps) (suc k) p h at = fit_at ws ps k p h.1 at

pub fit_map : (ws : List Window) (f : Processor → Processor) → ((p : Processor) → FitsMemory ws p → FitsMemory ws (f p)) → (ps : List Processor) → AllFit ws ps → AllFit ws (map f ps)
fit_map ws f keeps [] h = h
fit_map ws f keeps (p ∷ ps) h = (keeps p h.0, fit_map ws f keeps ps h.1)

fit_others : (ws : List Window) (f : Processor → Processor) → ((p : Processor) → FitsMemory ws p → FitsMemory ws (f p)) → (i k : ℕ) (ps : List Processor) → AllFit ws ps → AllFit ws (others_from i k f ps)
fit_others ws f keeps i k [] h = h
fit_others ws f keeps i k (p ∷ ps) h = (one (i == k), fit_others ws f keeps (i + 1) k ps h.1)
  where
    one : (b : Bool) → FitsMemory ws (if b then p else f p)
    one true = h.0
    one false = keeps p h.0

pub fit_set : (ws : List Window) (ps : List Processor) (k : ℕ) (q : Processor) → FitsMemory ws q → AllFit ws ps → AllFit ws (set ps k q)
fit_set ws [] k q n h = h
fit_set ws (p ∷ ps) zero q n h = (n, h.1)
fit_set ws (p ∷ ps) (suc k) q n h = (h.0, fit_set ws ps k q n h.1)

fit_remove : (ws : List Window) (ps : List Processor) (k : ℕ) → AllFit ws ps → AllFit ws (remove ps k)
fit_remove ws [] zero h = h
fit_remove ws [] (suc k) h = h
fit_remove ws (p ∷ ps) zero h = h.1
fit_remove ws (p ∷ ps) (suc k) h = (h.0, fit_remove ws ps k h.1)

pub fits_without : (ws : List Window) (n : ℕ) (p : Processor) → FitsMemory ws p → FitsMemory ws (with_lines (without_line n) p)
fits_without ws n p h = record {
  lines_apart = apart_without n p.lines h.lines_apart;
  lines_fit = passes_without (fits ws) n p.lines h.lines_fit;
  buffers_apart = h.buffers_apart;
  buffers_fit = h.buffers_fit;
  few_lines = (let b = without_length n p.lines in let c = h.few_lines in omega arith);
  few_buffers = h.few_buffers;
}

pub fits_changed : (ws : List Window) (n : ℕ) (f : CacheLine → CacheLine) → ((l : CacheLine) → (f l).number ≡ l.number) → ((l : CacheLine) → fits ws l ≡ true → fits ws (f l) ≡ true) → (p : Processor) → FitsMemory ws p → FitsMemory ws (with_lines (change_line n f) p)
fits_changed ws n f number keeps p h = record {
  lines_apart = apart_change n f number p.lines h.lines_apart;
  lines_fit = passes_changed (fits ws) n f keeps p.lines h.lines_fit;
  buffers_apart = h.buffers_apart;
  buffers_fit = h.buffers_fit;
  few_lines = (let b = change_length n f p.lines in let c = h.few_lines in omega arith);
  few_buffers = h.few_buffers;
}

-- ---- a change of one processor

pub change_case : (P : System → Type 0) (f : Processor → Processor) (k : ℕ) (s : System) → P s → ((p : Processor) → slice_get s.processors k ≡ Some p → P (record s { processors = set s.processors k (f p) })) → P (change f k s)
change_case P f k s none some = one (slice_get s.processors k) refl
  where
    one : (o : Option Processor) → slice_get s.processors k ≡ o → P (option_map_or (λ p. record s { processors = set s.processors k (f p) }) o s)
    one None is = none
    one (Some p) is = some p is

pub stands_change : (ws : List Window) (f : Processor → Processor) (k : ℕ) (s : System) → ((p : Processor) → slice_get s.processors k ≡ Some p → FitsMemory ws p → FitsMemory ws (f p)) → Stands ws s → Stands ws (change f k s)
stands_change ws f k s keeps st =
    change_case (Stands ws) f k s st (λ p at. record { memory = st.memory; fit = fit_set ws s.processors k (f p) (keeps p at (fit_at ws s.processors k p st.fit at)) st.fit })

pub copies_set : (a : ℕ) (ps : List Processor) (k : ℕ) (q : Processor) → copies a (set ps k q) ≡ set (copies a ps) k (copy_in a q.lines)
copies_set a [] k q = refl
copies_set a (p ∷ ps) zero q = refl
copies_set a (p ∷ ps) (suc k) q = ap (λ cs. copy_in a p.lines ∷ cs) (copies_set a ps k q)

pub copies_at : (a : ℕ) (ps : List Processor) (k : ℕ) (p : Processor) → slice_get ps k ≡ Some p → slice_get (copies a ps) k ≡ Some (copy_in a p.lines)
copies_at a [] k p at = absurd (cc)
copies_at a (q ∷ ps) zero p at = let e : q ≡ p = cc in ap (λ (r : Processor). Some (copy_in a r.lines)) e
copies_at a (q ∷ ps) (suc k) p at = copies_at a ps k p at

set_kept : (cs : List Copy) (k : ℕ) (c : Copy) → slice_get cs k ≡ Some c → set cs k c ≡ cs
set_kept [] k c at = absurd (cc)
set_kept (x ∷ cs) zero c at = let e : x ≡ c = cc in ap (λ (y : Copy). y ∷ cs) (sym e)
set_kept (x ∷ cs) (suc k) c at = ap (λ ys. x ∷ ys) (set_kept cs k c at)

pub writes_set : (a : ℕ) (ps : List Processor) (k : ℕ) (q : Processor) → unwritten a q.buffers ≡ true → all_unwritten a ps ≡ true → all_unwritten a (set ps k q) ≡ true
writes_set a [] k q n h = h
writes_set a (p ∷ ps) zero q n h = and_true _ _ n (and_right (unwritten a p.buffers) _ h)
writes_set a (p ∷ ps) (suc k) q n h = and_true _ _ (and_left _ _ h) (writes_set a ps k q n (and_right (unwritten a p.buffers) _ h))

pub writes_at : (a : ℕ) (ps : List Processor) (k : ℕ) (p : Processor) → all_unwritten a ps ≡ true → slice_get ps k ≡ Some p → unwritten a p.buffers ≡ true
writes_at a [] k p h at = absurd (cc)
writes_at a (q ∷ ps) zero p h at = let e : q ≡ p = cc in ap (λ (r : Processor). unwritten a r.buffers) (sym e) ∙ and_left _ _ h
writes_at a (q ∷ ps) (suc k) p h at = writes_at a ps k p (and_right (unwritten a q.buffers) _ h) at

-- a change that leaves the word in the cache, and writes it in no buffer
pub leaves_change : (a : ℕ) (f : Processor → Processor) (k : ℕ) (s : System) → ((p : Processor) → slice_get s.processors k ≡ Some p → copy_in a (f p).lines ≡ copy_in a p.lines) → ((p : Processor) → slice_get s.processors k ≡ Some p → unwritten a p.buffers ≡ true → unwritten a (f p).buffers ≡ true) → LeavesWord a s (change f k s)
leaves_change a f k s same writes =
    change_case (LeavesWord a s) f k s (leaves_same a s)
    (λ p at. record {
      word = refl;
      same = copies_set a s.processors k (f p) ∙ ap (set (copies a s.processors) k) (same p at) ∙ set_kept (copies a s.processors) k (copy_in a p.lines) (copies_at a s.processors k p at);
      writes = λ h. writes_set a s.processors k (f p) (writes p at (writes_at a s.processors k p h at)) h;
    })

-- ---- the lists of all processors

copies_map_same : (a : ℕ) (f : Processor → Processor) → ((p : Processor) → copy_in a (f p).lines ≡ copy_in a p.lines) → (ps : List Processor) → copies a (map f ps) ≡ copies a ps
copies_map_same a f same [] = refl
copies_map_same a f same (p ∷ ps) = λ i. same p i ∷ copies_map_same a f same ps i

copies_map : (a : ℕ) (f : Processor → Processor) (g : Copy → Copy) → ((p : Processor) → copy_in a (f p).lines ≡ g (copy_in a p.lines)) → (ps : List Processor) → copies a (map f ps) ≡ map g (copies a ps)
copies_map a f g acts [] = refl
copies_map a f g acts (p ∷ ps) = λ i. acts p i ∷ copies_map a f g acts ps i

copies_others_same : (a : ℕ) (f : Processor → Processor) → ((p : Processor) → copy_in a (f p).lines ≡ copy_in a p.lines) → (i k : ℕ) (ps : List Processor) → copies a (others_from i k f ps) ≡ copies a ps
copies_others_same a f same i k [] = refl
copies_others_same a f same i k (p ∷ ps) = λ j. one (i == k) j ∷ copies_others_same a f same (i + 1) k ps j
  where
    one : (b : Bool) → copy_in a (if b then p else f p).lines ≡ copy_in a p.lines
    one true = refl
    one false = same p

pub copies_others : (a : ℕ) (f : Processor → Processor) → ((p : Processor) → copy_in a (f p).lines ≡ None) → (i k : ℕ) (ps : List Processor) → copies a (others_from i k f ps) ≡ only_from i k (copies a ps)
copies_others a f none i k [] = refl
copies_others a f none i k (p ∷ ps) = λ j. one (i == k) j ∷ copies_others a f none (i + 1) k ps j
  where
    one : (b : Bool) → copy_in a (if b then p else f p).lines ≡ (if b then copy_in a p.lines else None)
    one true = refl
    one false = none p

copies_remove : (a : ℕ) (ps : List Processor) (k : ℕ) → copies a (remove ps k) ≡ remove (copies a ps) k
copies_remove a [] zero = refl
copies_remove a [] (suc k) = refl
copies_remove a (p ∷ ps) zero = refl
copies_remove a (p ∷ ps) (suc k) = ap (λ cs. copy_in a p.lines ∷ cs) (copies_remove a ps k)

writes_map : (a : ℕ) (f : List CacheLine → List CacheLine) (ps : List Processor) → all_unwritten a (map (with_lines f) ps) ≡ all_unwritten a ps
writes_map a f [] = refl
writes_map a f (p ∷ ps) = ap (λ b. unwritten a p.buffers && b) (writes_map a f ps)

writes_others : (a : ℕ) (f : List CacheLine → List CacheLine) (i k : ℕ) (ps : List Processor) → all_unwritten a (others_from i k (with_lines f) ps) ≡ all_unwritten a ps
writes_others a f i k [] = refl
writes_others a f i k (p ∷ ps) = λ j. one (i == k) j && writes_others a f (i + 1) k ps j
  where
    one : (b : Bool) → unwritten a (if b then p else with_lines f p).buffers ≡ unwritten a p.buffers
    one true = refl
    one false = refl

-- ---- write-backs by several processors

fold_memory : (ws : List Window) (n : ℕ) (ps : List Processor) (m : Memory) → HasWindows ws m → HasWindows ws (fold (λ m p. write_back_of n m p.lines) m ps)
fold_memory ws n [] m h = h
fold_memory ws n (p ∷ ps) m h =
    fold_memory ws n ps (write_back_of n m p.lines) (record { windows = of_windows n m p.lines ∙ h.windows; counted = of_length n m p.lines ∙ h.counted })

module _ (ws : List Window) (aligned : AllAligned ws) where
  back_word : (n a : ℕ) → a % 8 ≡ 0 → line_of a ≡ n → (p : Processor) (m : Memory) → HasWindows ws m → FitsMemory ws p → word_at (write_back_of n m p.lines) a ≡ settle (word_at m a) (copy_in a p.lines)
  back_word n a whole same p m h fit =
      of_word m p.lines (subst AllAligned (sym h.windows) aligned) (h.counted ∙ ap word_count (sym h.windows)) fit.lines_apart
      (subst (λ (v : List Window). list_all (fits v) p.lines ≡ true) (sym h.windows) fit.lines_fit) n a whole same

  back_other : (n a : ℕ) → line_of a ≢ n → (p : Processor) (m : Memory) → HasWindows ws m → FitsMemory ws p → word_at (write_back_of n m p.lines) a ≡ word_at m a
  back_other n a other p m h fit =
      of_other m p.lines (subst AllAligned (sym h.windows) aligned) (h.counted ∙ ap word_count (sym h.windows)) fit.lines_apart
      (subst (λ (v : List Window). list_all (fits v) p.lines ≡ true) (sym h.windows) fit.lines_fit) n a other

  fold_word : (n a : ℕ) → a % 8 ≡ 0 → line_of a ≡ n → (ps : List Processor) (m : Memory) → HasWindows ws m → AllFit ws ps → word_at (fold (λ m p. write_back_of n m p.lines) m ps) a ≡ fold settle (word_at m a) (copies a ps)
  fold_word n a whole same [] m h fit = refl
  fold_word n a whole same (p ∷ ps) m h fit =
      fold_word n a whole same ps (write_back_of n m p.lines) (record { windows = of_windows n m p.lines ∙ h.windows; counted = of_length n m p.lines ∙ h.counted }) fit.1
      ∙ ap (λ v. fold settle v (copies a ps)) (back_word n a whole same p m h fit.0)

  fold_other : (n a : ℕ) → line_of a ≢ n → (ps : List Processor) (m : Memory) → HasWindows ws m → AllFit ws ps → word_at (fold (λ m p. write_back_of n m p.lines) m ps) a ≡ word_at m a
  fold_other n a other [] m h fit = refl
  fold_other n a other (p ∷ ps) m h fit =
      fold_other n a other ps (write_back_of n m p.lines) (record { windows = of_windows n m p.lines ∙ h.windows; counted = of_length n m p.lines ∙ h.counted }) fit.1
      ∙ back_other n a other p m h fit.0

  -- ---- a bus read

  pub stands_read : (n : ℕ) (s : System) → Stands ws s → Stands ws (bus_read n s)
  stands_read n s st = record {
    memory = fold_memory ws n s.processors s.memory st.memory;
    fit = fit_map ws (with_lines (change_line n clean_line)) (λ p h. fits_changed ws n clean_line (λ l. refl) (fits_cleaned ws) p h) s.processors st.fit;
  }

  pub leaves_read : (n a : ℕ) (s : System) → line_of a ≢ n → Stands ws s → LeavesWord a s (bus_read n s)
  leaves_read n a s other st = record {
    word = fold_other n a other s.processors s.memory st.memory st.fit;
    same = copies_map_same a (with_lines (change_line n clean_line)) (λ p. copy_change_other a n clean_line (λ l. refl) p.lines other) s.processors;
    writes = λ h. writes_map a (change_line n clean_line) s.processors ∙ h;
  }

  pub read_writes : (n a : ℕ) (s : System) → all_unwritten a s.processors ≡ true → all_unwritten a (bus_read n s).processors ≡ true
  read_writes n a s h = writes_map a (change_line n clean_line) s.processors ∙ h

  pub read_same : (may : Bool) (n a x : ℕ) (s : System) → a % 8 ≡ 0 → line_of a ≡ n → Stands ws s → Word may a x s → Clean a x (bus_read n s)
  read_same may n a x s whole same st w =
      let shows = stays_shows may (word_at s.memory a) (copies a s.processors) x w.shows in
      record {
        at = fold_word n a whole same s.processors s.memory st.memory st.fit ∙ read_settles (word_at s.memory a) x (copies a s.processors) shows;
        shared = subst (IsShared x)
            (sym (copies_map a (with_lines (change_line n clean_line)) cleaned (λ p. copy_change_same a n clean_line cleaned (λ l. refl) refl (λ l. ap (λ (b : Bool). Some ((look a l).0, b)) (no_bit (word_of a))) p.lines same) s.processors))
            (read_cleans (word_at s.memory a) x (copies a s.processors) shows);
      }

  -- ---- a line that all caches lose

  pub stands_invalidate : (n : ℕ) (s : System) → Stands ws s → Stands ws (invalidate n s)
  stands_invalidate n s st = record { memory = st.memory; fit = fit_map ws (with_lines (without_line n)) (fits_without ws n) s.processors st.fit }

  pub leaves_invalidate : (n a : ℕ) (s : System) → line_of a ≢ n → LeavesWord a s (invalidate n s)
  leaves_invalidate n a s other = record {
    word = refl;
    same = copies_map_same a (with_lines (without_line n)) (λ p. copy_without_other a n p.lines other) s.processors;
    writes = λ h. writes_map a (without_line n) s.processors ∙ h;
  }

  pub invalidate_same : (n a x : ℕ) (s : System) → line_of a ≡ n → Clean a x s → Bare a x (invalidate n s)
  invalidate_same n a x s same c = record {
    at = c.at;
    clear = subst IsClear (sym (copies_map a (with_lines (without_line n)) (λ (c : Copy). None) (λ p. copy_without_same a n p.lines same) s.processors)) (all_clear (copies a s.processors));
  }

  pub invalidate_writes : (n a : ℕ) (s : System) → all_unwritten a s.processors ≡ true → all_unwritten a (invalidate n s).processors ≡ true
  invalidate_writes n a s h = writes_map a (without_line n) s.processors ∙ h

  -- ---- a line that all other caches lose

  pub stands_others : (k n : ℕ) (s : System) → Stands ws s → Stands ws (invalidate_others k n s)
  stands_others k n s st = record { memory = st.memory; fit = fit_others ws (with_lines (without_line n)) (fits_without ws n) 0 k s.processors st.fit }

  pub leaves_others : (k n a : ℕ) (s : System) → line_of a ≢ n → LeavesWord a s (invalidate_others k n s)
  leaves_others k n a s other = record {
    word = refl;
    same = copies_others_same a (with_lines (without_line n)) (λ p. copy_without_other a n p.lines other) 0 k s.processors;
    writes = λ h. writes_others a (without_line n) 0 k s.processors ∙ h;
  }

  pub others_writes : (k n a : ℕ) (s : System) → all_unwritten a s.processors ≡ true → all_unwritten a (invalidate_others k n s).processors ≡ true
  others_writes k n a s h = writes_others a (without_line n) 0 k s.processors ∙ h

  pub others_same : (k n a : ℕ) (s : System) → line_of a ≡ n → copies a (invalidate_others k n s).processors ≡ only_from 0 k (copies a s.processors)
  others_same k n a s same = copies_others a (with_lines (without_line n)) (λ p. copy_without_same a n p.lines same) 0 k s.processors

  -- ---- a line that cache k takes over

  pub stands_back_others : (k n : ℕ) (s : System) → Stands ws s → Stands ws (write_back_others k n s)
  stands_back_others k n s st = record { memory = fold_memory ws n (remove s.processors k) s.memory st.memory; fit = st.fit }

  pub leaves_back_others : (k n a : ℕ) (s : System) → line_of a ≢ n → Stands ws s → LeavesWord a s (write_back_others k n s)
  leaves_back_others k n a s other st = record {
    word = fold_other n a other (remove s.processors k) s.memory st.memory (fit_remove ws s.processors k st.fit);
    same = refl;
    writes = λ h. h;
  }

  pub over_same : (may : Bool) (k n a x : ℕ) (y : ℕ × Bool) (p : Processor) (s : System) → a % 8 ≡ 0 → line_of a ≡ n → Stands ws s → slice_get s.processors k ≡ Some p → copy_in a p.lines ≡ Some y → Word may a x s
      → Word may a x (invalidate_others k n (write_back_others k n s))
  over_same may k n a x y p s whole same st at has w = record {
    shows = subst (λ (cs : List Copy). Stays may (word_at (write_back_others k n s).memory a) cs x) (sym (others_same k n a (write_back_others k n s) same))
        (subst (λ (v : ℕ). Stays may v (only_from 0 k (copies a s.processors)) x) (sym back) (stays may w.shows));
    writes = λ h. others_writes k n a (write_back_others k n s) (w.writes h);
  }
    where
      back : word_at (write_back_others k n s).memory a ≡ fold settle (word_at s.memory a) (remove (copies a s.processors) k)
      back =
          fold_word n a whole same (remove s.processors k) s.memory st.memory (fit_remove ws s.processors k st.fit)
          ∙ ap (fold settle (word_at s.memory a)) (copies_remove a s.processors k)

      there : slice_get (copies a s.processors) k ≡ Some (Some y)
      there = copies_at a s.processors k p at ∙ ap (λ (c : Copy). Some c) has

      stays : (may : Bool) → Stays may (word_at s.memory a) (copies a s.processors) x → Stays may (fold settle (word_at s.memory a) (remove (copies a s.processors) k)) (only_from 0 k (copies a s.processors)) x
      stays true h = takes_over (word_at s.memory a) x k y (copies a s.processors) there h
      stays false h =
          let v = shared_removed (word_at s.memory a) (copies a s.processors) k h.1 in
          (v ∙ h.0, subst (λ (z : ℕ). IsShared z (only_from 0 k (copies a s.processors))) (sym v) (shared_only (word_at s.memory a) 0 k (copies a s.processors) h.1))

  -- ---- a buffer that is emptied

  pub stands_empty : (s : System) (b : CacheLine) → Stands ws s → Stands ws (empty_buffer s b)
  stands_empty s b st =
      let read : System = invalidate b.number (bus_read b.number s) in
      let r : Stands ws read = stands_invalidate b.number (bus_read b.number s) (stands_read b.number s st) in
      record {
        memory = record { windows = write_back_windows read.memory b ∙ r.memory.windows; counted = write_back_length read.memory b ∙ r.memory.counted };
        fit = r.fit;
      }

  pub flush_same : (may : Bool) (n a x : ℕ) (s : System) → a % 8 ≡ 0 → line_of a ≡ n → Stands ws s → Word may a x s → Bare a x (invalidate n (bus_read n s))
  flush_same may n a x s whole same st w = invalidate_same n a x (bus_read n s) same (read_same may n a x s whole same st w)

  pub flush_writes : (n a : ℕ) (s : System) → all_unwritten a s.processors ≡ true → all_unwritten a (invalidate n (bus_read n s)).processors ≡ true
  flush_writes n a s h = invalidate_writes n a (bus_read n s) (read_writes n a s h)

  pub leaves_flush : (n a : ℕ) (s : System) → line_of a ≢ n → Stands ws s → LeavesWord a s (invalidate n (bus_read n s))
  leaves_flush n a s other st = leaves_then a s (bus_read n s) (invalidate n (bus_read n s)) (leaves_read n a s other st) (leaves_invalidate n a (bus_read n s) other)

  settle_unwritten : (b : CacheLine) (a v : ℕ) → has_number (line_of a) b ≡ true → is_unwritten a b ≡ true → settle v (Some (look a b)) ≡ v
  settle_unwritten b a v number h = one (has_number (line_of a) b) (is_dirty b (word_of a)) number h
    where
      one : (c d : Bool) → c ≡ true → not (c && d) ≡ true → settle v (Some ((look a b).0, d)) ≡ v
      one c false is h = refl
      one true true is h = absurd (cc)
      one false true is h = absurd (cc)

  pub empty_word : (may : Bool) (a x : ℕ) (s : System) (b : CacheLine) → a % 8 ≡ 0 → Stands ws s → fits ws b ≡ true → (may ≡ false → is_unwritten a b ≡ true) → Word may a x s → After may a x (empty_buffer s b)
  empty_word may a x s b whole st fit quiet w = one (line_of a == b.number) refl
    where
      read : System
      read = invalidate b.number (bus_read b.number s)

      r : Stands ws read
      r = stands_invalidate b.number (bus_read b.number s) (stands_read b.number s st)

      there : AllAligned read.memory.windows
      there = subst AllAligned (sym r.memory.windows) aligned

      one : (c : Bool) → (line_of a == b.number) ≡ c → After may a x (empty_buffer s b)
      one false is =
          let other : line_of a ≢ b.number = eqb-false (line_of a) b.number is in
          let l : LeavesWord a s (empty_buffer s b) = leaves_then a s read (empty_buffer s b) (leaves_flush b.number a s other st) (record { word = write_back_other b a read.memory there other; same = refl; writes = λ h. h }) in
          after_word may a x (empty_buffer s b) (leaves_word may a x s (empty_buffer s b) l w)
      one true is =
          let same : line_of a ≡ b.number = eqb-true (line_of a) b.number is in
          let bare = flush_same may b.number a x s whole same st w in
          let back : word_at (write_back read.memory b) a ≡ settle (word_at read.memory a) (Some (look a b)) =
          write_back_same b a whole same read.memory there
          (ap (λ (v : List Window). is_placed v b.number) r.memory.windows ∙ fits_placed ws b fit)
          (r.memory.counted ∙ ap word_count (sym r.memory.windows)) in
          let y : ℕ = settle x (Some (look a b)) in (
            y,
            (λ h. settle_unwritten b a x (eq-eqb b.number (line_of a) (sym same)) (quiet h)),
            clean_word may a y (empty_buffer s b)
                (bare_clean a y (empty_buffer s b) (record { at = back ∙ ap (λ v. settle v (Some (look a b))) bare.at; clear = bare.clear }))
                (λ h. flush_writes b.number a s (w.writes h)),
          )

  pub empties_stand : (bs : List CacheLine) (s : System) → Stands ws s → Stands ws (fold empty_buffer s bs)
  empties_stand [] s st = st
  empties_stand (b ∷ bs) s st = empties_stand bs (empty_buffer s b) (stands_empty s b st)

  empties_word : (may : Bool) (a : ℕ) → a % 8 ≡ 0 → (bs : List CacheLine) (s : System) (x : ℕ) → Stands ws s → list_all (fits ws) bs ≡ true → (may ≡ false → unwritten a bs ≡ true) → Word may a x s → After may a x (fold empty_buffer s bs)
  empties_word may a whole [] s x st fit quiet w = after_word may a x s w
  empties_word may a whole (b ∷ bs) s x st fit quiet w =
      after_then may a x (empty_buffer s b) (fold empty_buffer s (b ∷ bs))
      (empty_word may a x s b whole st (and_left _ _ fit) (λ h. and_left _ _ (quiet h)) w)
      (λ y v. empties_word may a whole bs (empty_buffer s b) y (stands_empty s b st) (and_right (fits ws b) _ fit) (λ h. and_right (is_unwritten a b) _ (quiet h)) v)

  -- ---- the buffers of processor k

  pub buffers_fit_at : (k : ℕ) (s : System) → Stands ws s → list_all (fits ws) (buffers_of s k) ≡ true
  buffers_fit_at k s st = one (slice_get s.processors k) refl
    where
      one : (o : Option Processor) → slice_get s.processors k ≡ o → list_all (fits ws) (option_map_or (λ p. p.buffers) o []) ≡ true
      one None is = refl
      one (Some p) is = (fit_at ws s.processors k p st.fit is).buffers_fit

  pub buffers_unwritten_at : (a k : ℕ) (s : System) → all_unwritten a s.processors ≡ true → unwritten a (buffers_of s k) ≡ true
  buffers_unwritten_at a k s h = one (slice_get s.processors k) refl
    where
      one : (o : Option Processor) → slice_get s.processors k ≡ o → unwritten a (option_map_or (λ p. p.buffers) o []) ≡ true
      one None is = refl
      one (Some p) is = writes_at a s.processors k p h is

  fits_emptied : (p : Processor) → FitsMemory ws p → FitsMemory ws (with_buffers (λ _. []) p)
  fits_emptied p h = record { lines_apart = h.lines_apart; lines_fit = h.lines_fit; buffers_apart = tt; buffers_fit = refl; few_lines = h.few_lines; few_buffers = omega arith }

  pub stands_drain : (k : ℕ) (s : System) → Stands ws s → Stands ws (drain k s)
  stands_drain k s st =
      stands_change ws (with_buffers (λ _. [])) k (fold empty_buffer s (buffers_of s k)) (λ p at h. fits_emptied p h) (empties_stand (buffers_of s k) s st)

  pub drain_word : (may : Bool) (a x k : ℕ) (s : System) → a % 8 ≡ 0 → Stands ws s → Word may a x s → After may a x (drain k s)
  drain_word may a x k s whole st w =
      let gone : System = fold empty_buffer s (buffers_of s k) in
      after_then may a x gone (drain k s)
      (empties_word may a whole (buffers_of s k) s x st (buffers_fit_at k s st) (λ h. buffers_unwritten_at a k s (w.writes h)) w)
      (λ y v. after_word may a y (drain k s) (leaves_word may a y gone (drain k s) (leaves_change a (with_buffers (λ _. [])) k gone (λ p at. refl) (λ p at h. refl)) v))

  fits_less : (n : ℕ) (p : Processor) → FitsMemory ws p → FitsMemory ws (with_buffers (without_line n) p)
  fits_less n p h = record {
    lines_apart = h.lines_apart;
    lines_fit = h.lines_fit;
    buffers_apart = apart_without n p.buffers h.buffers_apart;
    buffers_fit = passes_without (fits ws) n p.buffers h.buffers_fit;
    few_lines = h.few_lines;
    few_buffers = (let b = without_length n p.buffers in let c = h.few_buffers in omega arith);
  }

  -- one buffer is emptied and taken away
  pub stands_one : (k n : ℕ) (s : System) (b : CacheLine) → Stands ws s → Stands ws (change (with_buffers (without_line n)) k (empty_buffer s b))
  stands_one k n s b st = stands_change ws (with_buffers (without_line n)) k (empty_buffer s b) (λ p at h. fits_less n p h) (stands_empty s b st)

  pub one_word : (may : Bool) (a x k n : ℕ) (s : System) (b : CacheLine) → a % 8 ≡ 0 → Stands ws s → fits ws b ≡ true → (may ≡ false → is_unwritten a b ≡ true) → Word may a x s → After may a x (change (with_buffers (without_line n)) k (empty_buffer s b))
  one_word may a x k n s b whole st fit quiet w =
      let gone : System = empty_buffer s b in
      let t : System = change (with_buffers (without_line n)) k gone in
      after_then may a x gone t (empty_word may a x s b whole st fit quiet w)
      (λ y v. after_word may a y t (leaves_word may a y gone t (leaves_change a (with_buffers (without_line n)) k gone (λ p at. refl) (λ p at h. passes_without (is_unwritten a) n p.buffers h)) v))

  pub stands_drain_line : (k n : ℕ) (s : System) → Stands ws s → Stands ws (drain_line k n s)
  stands_drain_line k n s st = one (find_line n (buffers_of s k))
    where
      one : (o : Option CacheLine) → Stands ws (option_map_or (λ b. change (with_buffers (without_line n)) k (empty_buffer s b)) o s)
      one None = st
      one (Some b) = stands_one k n s b st

  pub drain_line_word : (may : Bool) (a x k n : ℕ) (s : System) → a % 8 ≡ 0 → Stands ws s → Word may a x s → After may a x (drain_line k n s)
  drain_line_word may a x k n s whole st w = one (find_line n (buffers_of s k)) refl
    where
      one : (o : Option CacheLine) → find_line n (buffers_of s k) ≡ o → After may a x (option_map_or (λ b. change (with_buffers (without_line n)) k (empty_buffer s b)) o s)
      one None is = after_word may a x s w
      one (Some b) is =
          one_word may a x k n s b whole st
          (found_passes (fits ws) n (buffers_of s k) b (buffers_fit_at k s st) is)
          (λ h. found_passes (is_unwritten a) n (buffers_of s k) b (buffers_unwritten_at a k s (w.writes h)) is)
          w
