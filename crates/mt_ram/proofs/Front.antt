-- Memory's words behind 18 zeros: which lists these are, and how they change.
use Rattle.std.proofs.Common.{◌≡◌, ◌∙◌, ap, sym, subst, inl, inr, arith, ℕ, ◌≤◌, ◌+◌, ◌-◌, min, List, ◌++◌, length, drop, take, replicate, Vec}
use Rattle.std.proofs.lemmas.List.{append_assoc, drop-append-le, drop-drop, drop-replicate, drop-set-add, drop-take, drop_min, length-append, length-drop, length-replicate, length-set, length-take, length-take-le, nil_from_length, take-append-drop, take-append-le, take-replicate, take-set-le, take-take, take_all}
use Rattle.std.proofs.lemmas.Slice.{between_to_end}
use Rattle.std.specs.Prelude.{slice_range, slice_set}
use Rattle.std.specs.Vec.{with_items_from}
use Rattle.mt_machine.specs.Memory as machine
use Rattle.mt_ram.specs.Windows.{HasFront, IsRam}

front_size : (xs : List ℕ) → take 18 xs ≡ replicate 18 0 → 18 ≤ length xs
front_size xs e = let n : length (take 18 xs) ≡ 18 = ap length e ∙ length-replicate {A = ℕ} 18 0 in let m = length-take 18 xs in omega arith

pub behind_zeros : (k n : ℕ) (xs : List ℕ) → n ≤ k → take k xs ≡ replicate k 0 → drop (k - n) xs ≡ replicate n 0 ++ drop k xs
behind_zeros k n xs few front =
    ap (drop (k - n)) (sym (take-append-drop k xs) ∙ ap (λ ys. ys ++ drop k xs) front)
    ∙ drop-append-le (k - n) (replicate k 0) (drop k xs) (let size = length-replicate {A = ℕ} k 0 in omega arith)
    ∙ ap (λ ys. ys ++ drop k xs) (drop-replicate (k - n) k 0 ∙ ap (λ m. replicate m 0) (let e : k - (k - n) ≡ n = omega arith in e))

pub range_behind : (k i n : ℕ) (xs : List ℕ) → slice_range xs (k + i) (k + i + n) ≡ slice_range (drop k xs) i (i + n)
range_behind k i n xs = ap (λ m. take m (drop (k + i) xs)) (let e : k + i + n - (k + i) ≡ i + n - i = omega arith in e) ∙ ap (take (i + n - i)) (sym (drop-drop i k xs))

pub all_range : (xs : List ℕ) (start size : ℕ) → start ≡ min 18 (length xs) → size ≡ length xs → slice_range xs start size ≡ drop 18 xs
all_range xs start size from to = between_to_end xs start size (omega arith) ∙ ap (λ n. drop n xs) from ∙ drop_min 18 xs

-- zeros alone, and zeros behind a list
all_zeros : (n : ℕ) (ys : List ℕ) → ys ≡ replicate (18 + n) 0 → (drop 18 ys ≡ replicate n 0) × (take 18 ys ≡ replicate 18 0)
all_zeros n ys is = (
  ap (drop 18) is ∙ drop-replicate 18 (18 + n) 0 ∙ ap (λ k. replicate k 0) (let k : 18 + n - 18 ≡ n = omega arith in k),
  ap (take 18) is ∙ take-replicate 18 (18 + n) 0 (omega arith),
)

more_zeros : (n : ℕ) (xs ys : List ℕ) → 18 ≤ length xs → ys ≡ xs ++ replicate n 0 → (drop 18 ys ≡ drop 18 xs ++ replicate n 0) × (take 18 ys ≡ take 18 xs)
more_zeros n xs ys some is = (ap (drop 18) is ∙ drop-append-le 18 xs (replicate n 0) some, ap (take 18) is ∙ take-append-le 18 xs (replicate n 0) some)

pub grown : (xs ys : List ℕ) (size n : ℕ) → HasFront xs → size ≡ 18 + length (drop 18 xs) + n → ys ≡ take size xs ++ replicate (size - length xs) 0
    → (drop 18 ys ≡ drop 18 xs ++ replicate n 0) × (take 18 ys ≡ replicate 18 0)
grown xs ys size n h total is =
    let left = length-drop 18 xs in
    let short : ys ≡ xs ++ replicate (size - length xs) 0 = is ∙ ap (λ l. l ++ replicate (size - length xs) 0) (take_all size xs (omega arith)) in
    elim h [
      | inl e ↦ let none : length xs ≡ 0 = ap length e in
          let r = all_zeros n ys (short ∙ ap (λ l. l ++ replicate (size - length xs) 0) e ∙ ap (λ k. replicate k 0) (let k : size - length xs ≡ 18 + n = omega arith in k)) in
          (r.0 ∙ ap (λ l. drop 18 l ++ replicate n 0) (sym e), r.1)
      | inr e ↦ let some = front_size xs e in
          let r = more_zeros n xs ys some (short ∙ ap (λ k. xs ++ replicate k 0) (let k : size - length xs ≡ n = omega arith in k)) in
          (r.0, r.1 ∙ e)
    ]

-- a list of the same size, with the same first 18 words, and with these behind them
pub record IsRewritten (xs ys behind : List ℕ) : Type 0 where
  pub size : length ys ≡ length xs
  pub front : take 18 ys ≡ take 18 xs
  pub words : drop 18 ys ≡ behind

pub rewritten : (ws : List machine.Window) (xs ys behind : List ℕ) → IsRam ws xs → IsRewritten xs ys behind → IsRam ws ys
rewritten ws xs ys behind h r =
    let left : length (drop 18 ys) ≡ length (drop 18 xs) = length-drop 18 ys ∙ ap (λ n. n - 18) r.size ∙ sym (length-drop 18 xs) in
    record {
      memory = record { some_lines = h.memory.some_lines; aligned = h.memory.aligned; bounded = h.memory.bounded; apart = h.memory.apart; counted = left ∙ h.memory.counted };
      few = let few = h.few in omega arith;
      front = elim h.front [ inl e ↦ inl (nil_from_length ys (r.size ∙ ap length e)) | inr e ↦ inr (r.front ∙ e) ];
    }

pub word_put : (xs : List ℕ) (i v : ℕ) → IsRewritten xs (slice_set xs (18 + i) v) (slice_set (drop 18 xs) i v)
word_put xs i v = record { size = length-set xs (18 + i) v; front = take-set-le 18 xs (18 + i) v (omega arith); words = drop-set-add 18 xs i v }

pub blanked : (xs ys : List ℕ) → HasFront xs → ys ≡ replicate (length xs) 0 → IsRewritten xs ys (replicate (length (drop 18 xs)) 0)
blanked xs ys h is = record {
  size = ap length is ∙ length-replicate (length xs) 0;
  front = ap (take 18) is ∙ elim h [ inl e ↦ ap (λ l. take 18 (replicate (length l) 0)) e ∙ ap (take 18) (sym e) | inr e ↦ take-replicate 18 (length xs) 0 (front_size xs e) ∙ sym e ];
  words = ap (drop 18) is ∙ drop-replicate 18 (length xs) 0 ∙ ap (λ n. replicate n 0) (sym (length-drop 18 xs));
}

-- ---- words that are lent

abbrev overwritten : ℕ → List ℕ → List ℕ → List ℕ
overwritten i xs ws = take (length xs) (take i xs ++ ws ++ drop (i + length ws) xs)

abbrev refilled : List ℕ → List ℕ → List ℕ
refilled xs ws = take (length xs) (ws ++ drop (length ws) xs)

lent_from : {Z : Type 0} (v : Vec ℕ Z) (i : ℕ) (ws : List ℕ) → v.len ≡ length v.items → i ≤ length v.items → (with_items_from v i ws).items ≡ overwritten i v.items ws
lent_from v i ws full within =
    let long : length v.items ≤ length (take i v.items ++ (ws ++ drop (length ws) (drop i v.items))) =
    simp (length-append, length-take, length-drop) (omega arith) in
    ap (λ n. take n ((take i v.items ++ (ws ++ drop (length ws) (drop i v.items))) ++ drop (length (take i v.items ++ (ws ++ drop (length ws) (drop i v.items)))) v.items)) full
    ∙ take-append-le (length v.items) (take i v.items ++ (ws ++ drop (length ws) (drop i v.items))) _ long
    ∙ ap (λ d. take (length v.items) (take i v.items ++ (ws ++ d))) (drop-drop (length ws) i v.items)
    ∙ ap (take (length v.items)) (sym (append_assoc (take i v.items) ws (drop (i + length ws) v.items)))

module _ (k i : ℕ) (xs ws : List ℕ) (within : k + i ≤ length xs) where
  abbrev head : List ℕ
  head = take (k + i) xs

  abbrev tail : List ℕ
  tail = drop (k + i + length ws) xs

  long : length head ≡ k + i
  long = length-take-le (k + i) xs within

  longer : k ≤ length (head ++ ws)
  longer = let e = length-append head ws in let f = long in omega arith

  size_kept : length (overwritten (k + i) xs ws) ≡ length xs
  size_kept = length-take-le (length xs) (head ++ ws ++ tail) (let e = long in simp (length-append, length-drop) (omega arith))

  front_kept : take k (overwritten (k + i) xs ws) ≡ take k xs
  front_kept =
      take-take k (length xs) (head ++ ws ++ tail) (omega arith) ∙ take-append-le k (head ++ ws) tail longer
      ∙ take-append-le k head ws (let f = long in omega arith) ∙ take-take k (k + i) xs (omega arith)

  words_behind : drop k (overwritten (k + i) xs ws) ≡ overwritten i (drop k xs) ws
  words_behind =
      ap (λ n. drop k (take n (head ++ ws ++ tail))) (let e : length xs ≡ k + (length xs - k) = omega arith in e)
      ∙ drop-take k (length xs - k) (head ++ ws ++ tail)
      ∙ ap (λ n. take n (drop k (head ++ ws ++ tail))) (sym (length-drop k xs))
      ∙ ap (take (length (drop k xs)))
      (drop-append-le k (head ++ ws) tail longer
      ∙ ap (λ l. l ++ tail) (drop-append-le k head ws (let f = long in omega arith) ∙ ap (λ l. l ++ ws) (drop-take k i xs))
      ∙ ap (λ l. take i (drop k xs) ++ ws ++ l) (ap (λ n. drop n xs) (let e : k + i + length ws ≡ k + (i + length ws) = omega arith in e) ∙ sym (drop-drop (i + length ws) k xs)))

-- from a place on
pub lent_behind : {Z : Type 0} (v : Vec ℕ Z) (i : ℕ) (ws : List ℕ) → v.len ≡ length v.items → 18 + i ≤ length v.items
    → IsRewritten v.items (with_items_from v (18 + i) ws).items (overwritten i (drop 18 v.items) ws)
lent_behind v i ws full within =
    let is = lent_from v (18 + i) ws full within in
    record {
      size = ap length is ∙ size_kept 18 i v.items ws within;
      front = ap (take 18) is ∙ front_kept 18 i v.items ws within;
      words = ap (drop 18) is ∙ words_behind 18 i v.items ws within;
    }

-- all of them
pub all_behind : {Z : Type 0} (v : Vec ℕ Z) (start : ℕ) (ws : List ℕ) → v.len ≡ length v.items → HasFront v.items → start ≡ min 18 (length v.items)
    → IsRewritten v.items (with_items_from v start ws).items (refilled (drop 18 v.items) ws)
all_behind v start ws full (inl e) from =
    let is = lent_from v start ws full (let n : length v.items ≡ 0 = ap length e in omega arith) ∙ ap (λ l. overwritten start l ws) e in
    record { size = ap length is ∙ ap length (sym e); front = ap (take 18) is ∙ ap (take 18) (sym e); words = ap (drop 18) is ∙ ap (λ l. refilled (drop 18 l) ws) (sym e) }
all_behind v start ws full (inr e) from =
    let some = front_size v.items e in
    let at : 18 + 0 ≡ start = omega arith in
    let r = subst (λ n. IsRewritten v.items (with_items_from v n ws).items (overwritten 0 (drop 18 v.items) ws)) at (lent_behind v 0 ws full some) in
    record { size = r.size; front = r.front; words = r.words ∙ ap (λ n. take (length (drop 18 v.items)) (ws ++ drop n (drop 18 v.items))) (let n : 0 + length ws ≡ length ws = omega arith in n) }
