-- Lists of windows: what holds from a place on, where words lie, and one window more.
use Rattle.std.proofs.Common.{◌≡◌, ◌∙◌, ap, sym, subst, inl, inr, refl, arith, ℕ, zero, suc, ◌<◌, ◌≤◌, ◌+◌, ◌-◌, ◌*◌, ◌/◌, ◌%◌, ◌^◌, ◌==◌, ◌&&◌, ◌||◌, nat_le, nat_lt, Bool, true, false, IfSome, if◌then◌else◌, List, [], ◌∷◌, ◌++◌, map, length, drop, take, replicate, slice_index_or, Some, None}
use Rattle.std.proofs.lemmas.Bool.{eqb-true, ltb-false, leb-false, leb-true, ltb-true}
use Rattle.std.proofs.lemmas.List.{drop_more, length-append, length-drop, length-replicate, map-append}
use Rattle.std.proofs.lemmas.List.Elements.{All-head, All-tail, All-push}
use Rattle.std.proofs.lemmas.List.Quantifiers.{all_pairs_push}
use Rattle.std.specs.List.{All}
use Rattle.mt_ram.specs.declared.fault.RamFault.TheVariants.{Misaligned, Overlaps, TooMuch}
use Rattle.mt_ram.specs.declared.window.Window.{Window}
use Rattle.mt_machine.specs.Memory as machine
use Rattle.mt_ram.proofs.Front.{grown}
use Rattle.mt_ram.specs.Windows.{IsRam, behind_front, is_overlap, refusal, shares_byte, window, window_of, with_window}

abbrev pub IsBounded : List machine.Window → Type 0
IsBounded ws = All (λ w. machine.window_end w ≤ 2 ^ 52) ws

-- the windows from a place on are the one there and those after it
pub bounded_here : (ws : List Window) (i : ℕ) (d : Window) → i < length ws → IsBounded (map window_of (drop i ws)) → machine.window_end (window_of (slice_index_or ws i d)) ≤ 2 ^ 52
bounded_here ws i d l h =
    All-head (λ w. machine.window_end w ≤ 2 ^ 52) _ _
    (subst (λ (vs : List Window). IsBounded (map window_of vs)) (drop_more ws i d l) h)

pub bounded_after : (ws : List Window) (i : ℕ) (d : Window) → i < length ws → IsBounded (map window_of (drop i ws)) → IsBounded (map window_of (drop (i + 1) ws))
bounded_after ws i d l h =
    All-tail (λ w. machine.window_end w ≤ 2 ^ 52) _ _
    (subst (λ (vs : List Window). IsBounded (map window_of vs)) (drop_more ws i d l) h)

pub words_after : (ws : List Window) (i : ℕ) (d : Window) → i < length ws
    → machine.word_count (map window_of (drop i ws)) ≡ 8 * (slice_index_or ws i d).lines + machine.word_count (map window_of (drop (i + 1) ws))
words_after ws i d l = ap (λ (vs : List Window). machine.word_count (map window_of vs)) (drop_more ws i d l)

pub place_later : (ws : List Window) (i : ℕ) (d : Window) (before address : ℕ) → i < length ws
    → (nat_le (slice_index_or ws i d).base address && nat_lt address (machine.window_end (window_of (slice_index_or ws i d)))) ≡ false
    → machine.place_in (map window_of (drop i ws)) before address ≡ machine.place_in (map window_of (drop (i + 1) ws)) (before + 8 * (slice_index_or ws i d).lines) address
place_later ws i d before address l h =
    ap (λ (vs : List Window). machine.place_in (map window_of vs) before address) (drop_more ws i d l)
    ∙ ap (λ b. if b then Some (before + (address - (slice_index_or ws i d).base) / 8) else machine.place_in (map window_of (drop (i + 1) ws)) (before + 8 * (slice_index_or ws i d).lines) address) h

pub overlap_later : (ws : List Window) (i : ℕ) (d : Window) (w : machine.Window) → i < length ws → shares_byte (window_of (slice_index_or ws i d)) w ≡ false
    → is_overlap (map window_of (drop i ws)) w ≡ is_overlap (map window_of (drop (i + 1) ws)) w
overlap_later ws i d w l h =
    ap (λ (vs : List Window). is_overlap (map window_of vs) w) (drop_more ws i d l)
    ∙ ap (λ b. b || is_overlap (map window_of (drop (i + 1) ws)) w) h

-- ---- where words lie

pub place_within : (ws : List machine.Window) (before address : ℕ) → IfSome (machine.place_in ws before address) (λ i. i < before + machine.word_count ws)
place_within [] before address = tt
place_within (w ∷ ws) before address =
    one (nat_le w.base address) (nat_lt address (machine.window_end w)) refl refl
    (subst (λ (n : ℕ). IfSome (machine.place_in ws (before + 8 * w.lines) address) (λ i. i < n)) (omega arith) (place_within ws (before + 8 * w.lines) address))
  where
    one : (a b : Bool) → nat_le w.base address ≡ a → nat_lt address (machine.window_end w) ≡ b
        → IfSome (machine.place_in ws (before + 8 * w.lines) address) (λ i. i < before + (8 * w.lines + machine.word_count ws))
        → IfSome (if a && b then Some (before + (address - w.base) / 8) else machine.place_in ws (before + 8 * w.lines) address) (λ i. i < before + (8 * w.lines + machine.word_count ws))
    one true true low high later = let l = leb-true _ _ low in let h = ltb-true _ _ high in omega arith
    one true false low high later = later
    one false b low high later = later

-- ---- one window more

not_shared : (v w : machine.Window) → shares_byte v w ≡ false → machine.AreApart v w
not_shared v w h = one (nat_lt v.base (machine.window_end w)) (nat_lt w.base (machine.window_end v)) refl refl h
  where
    one : (a b : Bool) → nat_lt v.base (machine.window_end w) ≡ a → nat_lt w.base (machine.window_end v) ≡ b → (a && b) ≡ false → machine.AreApart v w
    one true true first second e = absurd (cc)
    one true false first second e = inl (ltb-false _ _ second)
    one false b first second e = inr (ltb-false _ _ first)

apart_from_all : (ws : List machine.Window) (w : machine.Window) → is_overlap ws w ≡ false → (k : ℕ) (d : machine.Window) → k < length ws → machine.AreApart (slice_index_or ws k d) w
apart_from_all [] w e = λ k d l. absurd (omega arith)
apart_from_all (v ∷ vs) w e = one (shares_byte v w) refl e (apart_from_all vs w)
  where
    one : (b : Bool) → shares_byte v w ≡ b → (b || is_overlap vs w) ≡ false
        → (is_overlap vs w ≡ false → (k : ℕ) (d : machine.Window) → k < length vs → machine.AreApart (slice_index_or vs k d) w)
        → (k : ℕ) (d : machine.Window) → k < suc (length vs) → machine.AreApart (slice_index_or (v ∷ vs) k d) w
    one true is h rest = absurd (cc)
    one false is h rest = λ k. at k
      where
        at : (k : ℕ) (d : machine.Window) → k < suc (length vs) → machine.AreApart (slice_index_or (v ∷ vs) k d) w
        at zero d l = not_shared v w is
        at (suc k) d l = rest h k d (omega arith)

-- what an accepted window is
pub record IsAdmitted (ws : List machine.Window) (w : machine.Window) : Type 0 where
  pub aligned : w.base % 64 ≡ 0
  pub apart : is_overlap ws w ≡ false
  pub few : machine.word_count ws + 8 * w.lines ≤ 8 * 4096
  pub room : length ws < 16

pub fits : (ws : List machine.Window) (w : machine.Window) → refusal ws w ≡ None → IsAdmitted ws w
fits ws w h = one (w.base % 64 == 0) (is_overlap ws w) (nat_lt (8 * 4096) (machine.word_count ws + 8 * w.lines)) (nat_le 16 (length ws)) refl refl refl refl h
  where
    one : (a b c d : Bool) → (w.base % 64 == 0) ≡ a → is_overlap ws w ≡ b → nat_lt (8 * 4096) (machine.word_count ws + 8 * w.lines) ≡ c → nat_le 16 (length ws) ≡ d
        → (if a then (if b then Some Overlaps else (if c || d then Some TooMuch else None)) else Some Misaligned) ≡ None → IsAdmitted ws w
    one true true c d ea eb ec ed e = absurd (cc)
    one true false true d ea eb ec ed e = absurd (cc)
    one true false false true ea eb ec ed e = absurd (cc)
    one true false false false ea eb ec ed e = record { aligned = eqb-true _ _ ea; apart = eb; few = ltb-false _ _ ec; room = leb-false _ _ ed }
    one false b c d ea eb ec ed e = absurd (cc)

pub words_pushed : (ws : List machine.Window) (w : machine.Window) → machine.word_count (ws ++ w ∷ []) ≡ machine.word_count ws + 8 * w.lines
words_pushed [] w = omega arith
words_pushed (v ∷ vs) w = let e = words_pushed vs w in omega arith

added : (ws : List machine.Window) (w : machine.Window) (xs long : List ℕ) → IsRam ws xs → 0 < w.lines → machine.window_end w ≤ 2 ^ 52 → IsAdmitted ws w
    → drop 18 long ≡ drop 18 xs ++ replicate (8 * w.lines) 0 → take 18 long ≡ replicate 18 0 → IsRam (ws ++ w ∷ []) long
added ws w xs long h some bound f more front =
    let total : length (drop 18 long) ≡ machine.word_count ws + 8 * w.lines =
    ap length more ∙ length-append (drop 18 xs) (replicate (8 * w.lines) 0) ∙ ap (λ n. length (drop 18 xs) + n) (length-replicate (8 * w.lines) 0) ∙ ap (λ n. n + 8 * w.lines) h.memory.counted in
    record {
      memory = record {
        some_lines = All-push (λ v. 0 < v.lines) ws w h.memory.some_lines some;
        aligned = All-push (λ v. v.base % 64 ≡ 0) ws w h.memory.aligned f.aligned;
        bounded = All-push (λ v. machine.window_end v ≤ 2 ^ 52) ws w h.memory.bounded bound;
        apart = all_pairs_push machine.AreApart ws w h.memory.apart (apart_from_all ws w f.apart);
        counted = total ∙ sym (words_pushed ws w);
      };
      few = let few = f.few in omega arith;
      front = inr front;
    }

-- ---- a line that is lent

words_whole : (ws : List machine.Window) → machine.word_count ws ≡ 8 * (machine.word_count ws / 8)
words_whole [] = omega arith
words_whole (w ∷ ws) = let e = words_whole ws in omega arith

pub line_within : (ws : List machine.Window) (xs : List ℕ) (m : machine.Memory) (i : ℕ) → IsRam ws xs → behind_front ws xs ≡ m → i % 8 ≡ 0 → i < length m.words → 18 + i + 8 ≤ length xs
line_within ws xs m i h is line within =
    let inside = subst (λ (n : machine.Memory). i < length n.words) (sym is) within in
    let e = words_whole ws in let counted = h.memory.counted in let left = length-drop 18 xs in omega arith

-- ---- the lists of a memory whose words have grown

pub added_lists : (ws more : List Window) (xs long : List ℕ) (base lines n held : ℕ) (done : Bool)
    → IsRam (map window_of ws) xs → refusal (map window_of ws) (window base lines) ≡ None → 0 < lines → base + 64 * lines ≤ 2 ^ 52
    → more ≡ ws ++ record { base = base; lines = lines } ∷ [] → n ≡ length (drop 18 xs) → held ≡ length xs → done ≡ true
    → long ≡ (if done then take (18 + n + 8 * lines) xs ++ replicate (18 + n + 8 * lines - held) 0 else xs)
    → IsRam (map window_of more) long × (behind_front (map window_of more) long ≡ with_window (window base lines) (behind_front (map window_of ws) xs))
added_lists ws more xs long base lines n held done h fit some bound pushed same len ok is =
    let words = grown xs long (18 + n + 8 * lines) (8 * lines) h.front (ap (λ k. 18 + k + 8 * lines) same)
    (is
    ∙ ap (λ b. if b then take (18 + n + 8 * lines) xs ++ replicate (18 + n + 8 * lines - held) 0 else xs) ok
    ∙ ap (λ k. take (18 + n + 8 * lines) xs ++ replicate (18 + n + 8 * lines - k) 0) len) in
    let windows : map window_of more ≡ map window_of ws ++ window base lines ∷ [] =
    ap (map window_of) pushed ∙ map-append window_of ws (record { base = base; lines = lines } ∷ []) in (
      subst (λ (vs : List machine.Window). IsRam vs long) (sym windows)
          (added (map window_of ws) (window base lines) xs long h some bound (fits (map window_of ws) (window base lines) fit) words.0 words.1),
      (λ i. record { windows = windows i; words = words.0 i }),
    )
