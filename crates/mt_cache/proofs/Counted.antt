-- The counts of a cache's lines by residue, through each change of the lines.
use Rattle.std.proofs.Common.{◌≡◌, ℕ, zero, suc, ◌+◌, ◌-◌, ◌%◌, ◌<◌, ◌≤◌, ◌==◌, List, [], ◌∷◌, ◌++◌, length, get_or, replicate, not, cond, Some, None, Bool, true, false, refl, sym, ap, subst, ◌∙◌, arith, count_by}
use Rattle.std.specs.Prelude.{slice_get, slice_index_or}
use Rattle.std.specs.List.{remove, position}
use Rattle.std.proofs.lemmas.Bool.{eq-eqb, eqb-true, eqb-false, not-false}
use Rattle.std.proofs.lemmas.Option.{slice_get-get_or}
use Rattle.std.proofs.lemmas.List.{get_or-set_same, get_or-set_other, get_or-replicate, length-set}
use Rattle.std.proofs.lemmas.List.Sums.{sum_by_push, sum_by-remove, get_or-le-sum_by}
use Rattle.mt_lists.proofs.Keys.{to_apart, removed, none_of, some_at, found_key, at_position, position_within}
use Rattle.mt_cache.specs.declared.line.CacheLine.{CacheLine}
use Rattle.mt_cache.specs.Lines.{AreDistinct, has_number, without_line}
use Rattle.mt_cache.specs.Calls.{AreLines}
use Rattle.mt_cache.specs.Counts.{AreCounted, has_residue, raised, lowered}
use Rattle.mt_cache.proofs.Lists.{number_of}

-- one line's part of a count
abbrev pub one_at : ℕ → CacheLine → ℕ
one_at r l = cond (has_residue r l) 1 0

residue_within : (n : ℕ) → n % 4096 < 4096
residue_within n = omega arith

pub nothing_counted : AreCounted [] (replicate 4096 0)
nothing_counted = record { long = search arith; each = λ r within. get_or-replicate 4096 r 0 0 within }

pub counted_by : (ls ms : List CacheLine) (counts others : List ℕ) → ls ≡ ms → counts ≡ others → AreCounted ms others → AreCounted ls counts
counted_by ls ms counts others same_lines same_counts counted = subst (λ (xs : List CacheLine). AreCounted xs counts) (sym same_lines) (subst (AreCounted ms) (sym same_counts) counted)

-- ---- a line more, a line less

pub counted_more : (ls : List CacheLine) (counts : List ℕ) (l : CacheLine) → AreCounted ls counts → AreCounted (ls ++ l ∷ []) (raised l.number counts)
counted_more ls counts l counted = record { long = length-set counts k (get_or counts k 0 + 1) ∙ counted.long; each = each }
  where
    k : ℕ
    k = l.number % 4096

    at : k < length counts
    at = subst (λ n. k < n) (sym counted.long) (residue_within l.number)

    each : (r : ℕ) → r < 4096 → slice_index_or (raised l.number counts) r 0 ≡ count_by (has_residue r) (ls ++ l ∷ [])
    each r within = one (k == r) refl
      where
        one : (b : Bool) → (k == r) ≡ b → slice_index_or (raised l.number counts) r 0 ≡ count_by (has_residue r) (ls ++ l ∷ [])
        one true is =
            let e : k ≡ r = eqb-true k r is in
            ap (λ j. get_or (raised l.number counts) j 0) (sym e)
            ∙ get_or-set_same counts k (get_or counts k 0 + 1) 0 at
            ∙ ap (λ j. get_or counts j 0 + 1) e
            ∙ ap (λ n. n + 1) (counted.each r within)
            ∙ sym (sum_by_push (one_at r) ls l ∙ ap (λ b. count_by (has_residue r) ls + cond b 1 0) is)
        one false is =
            get_or-set_other counts k r (get_or counts k 0 + 1) 0 (λ e. eqb-false k r is (sym e))
            ∙ counted.each r within
            ∙ omega arith
            ∙ sym (sum_by_push (one_at r) ls l ∙ ap (λ b. count_by (has_residue r) ls + cond b 1 0) is)

read : (ls : List CacheLine) (i : ℕ) (l : CacheLine) → i < length ls → slice_get ls i ≡ Some l → get_or ls i l ≡ l
read ls i l within at = same (sym (slice_get-get_or ls i l within) ∙ at)
  where
    same : {x y : CacheLine} → Some x ≡ Some y → x ≡ y
    same e = cc

-- the count of one residue, where the line at a place goes
count_less : (ls : List CacheLine) (i : ℕ) (l : CacheLine) (r : ℕ) → AreDistinct ls → i < length ls → slice_get ls i ≡ Some l → count_by (has_residue r) (without_line l.number ls) + one_at r l ≡ count_by (has_residue r) ls
count_less ls i l r distinct within at =
    let whole : get_or ls i l ≡ l = read ls i l within at in
    ap (λ (xs : List CacheLine). count_by (has_residue r) xs + one_at r l) (sym (removed number_of ls i l (to_apart number_of ls distinct) at))
    ∙ ap (λ (x : CacheLine). count_by (has_residue r) (remove ls i) + one_at r x) (sym whole)
    ∙ sum_by-remove (one_at r) ls i l within

pub count_some : (ls : List CacheLine) (i : ℕ) (l : CacheLine) → i < length ls → slice_get ls i ≡ Some l → 0 < count_by (has_residue (l.number % 4096)) ls
count_some ls i l within at =
    let r : ℕ = l.number % 4096 in
    let whole : get_or ls i l ≡ l = read ls i l within at in
    let one : one_at r (get_or ls i l) ≡ 1 = ap (one_at r) whole ∙ ap (λ b. cond b 1 0) (eq-eqb r r refl) in
    let part : one_at r (get_or ls i l) ≤ count_by (has_residue r) ls = get_or-le-sum_by (one_at r) ls i l within in
    omega (arith, one, part)

pub counted_some : (ls : List CacheLine) (counts : List ℕ) (i : ℕ) (l : CacheLine) → AreCounted ls counts → i < length ls → slice_get ls i ≡ Some l → 0 < slice_index_or counts (l.number % 4096) 0
counted_some ls counts i l counted within at =
    subst (λ n. 0 < n) (sym (counted.each (l.number % 4096) (residue_within l.number))) (count_some ls i l within at)

pub counted_less : (ls : List CacheLine) (counts : List ℕ) (i : ℕ) (l : CacheLine) → AreDistinct ls → AreCounted ls counts → i < length ls → slice_get ls i ≡ Some l → AreCounted (without_line l.number ls) (lowered l.number counts)
counted_less ls counts i l distinct counted place got = record { long = length-set counts k (get_or counts k 0 - 1) ∙ counted.long; each = each }
  where
    k : ℕ
    k = l.number % 4096

    at : k < length counts
    at = subst (λ n. k < n) (sym counted.long) (residue_within l.number)

    each : (r : ℕ) → r < 4096 → slice_index_or (lowered l.number counts) r 0 ≡ count_by (has_residue r) (without_line l.number ls)
    each r within = one (k == r) refl
      where
        less : count_by (has_residue r) (without_line l.number ls) + one_at r l ≡ count_by (has_residue r) ls
        less = count_less ls i l r distinct place got

        one : (b : Bool) → (k == r) ≡ b → slice_index_or (lowered l.number counts) r 0 ≡ count_by (has_residue r) (without_line l.number ls)
        one true is =
            let e : k ≡ r = eqb-true k r is in
            let part : one_at r l ≡ 1 = ap (λ b. cond b 1 0) is in
            ap (λ j. get_or (lowered l.number counts) j 0) (sym e)
            ∙ get_or-set_same counts k (get_or counts k 0 - 1) 0 at
            ∙ ap (λ j. get_or counts j 0 - 1) e
            ∙ ap (λ n. n - 1) (counted.each r within)
            ∙ omega (arith, less, part)
        one false is =
            let part : one_at r l ≡ 0 = ap (λ b. cond b 1 0) is in
            get_or-set_other counts k r (get_or counts k 0 - 1) 0 (λ e. eqb-false k r is (sym e))
            ∙ counted.each r within
            ∙ omega (arith, less, part)

-- ---- a line that is counted nowhere

none_at : (n : ℕ) (ls : List CacheLine) → count_by (has_residue (n % 4096)) ls ≡ 0 → position (has_number n) ls ≡ None
none_at n ls none = none_of (position (has_number n) ls) never
  where
    never : (i : ℕ) → position (has_number n) ls ≡ Some i → ⊥
    never i is =
        let there : (l : CacheLine) × (slice_get ls i ≡ Some l) = some_at (has_number n) ls i is in
        let number : there.0.number ≡ n = found_key number_of n ls there.0 (sym (at_position (has_number n) ls i is) ∙ there.1) in
        let some : 0 < count_by (has_residue (there.0.number % 4096)) ls = count_some ls i there.0 (position_within (has_number n) ls i is) there.1 in
        let same : count_by (has_residue (there.0.number % 4096)) ls ≡ 0 = ap (λ m. count_by (has_residue (m % 4096)) ls) number ∙ none in
        omega (arith, some, same)

pub not_counted : (n : ℕ) (ls : List CacheLine) (counts : List ℕ) → AreCounted ls counts → not (slice_index_or counts (n % 4096) 0 == 0) ≡ false → position (has_number n) ls ≡ None
not_counted n ls counts counted is = none_at n ls (sym (counted.each (n % 4096) (residue_within n)) ∙ eqb-true (slice_index_or counts (n % 4096) 0) 0 (not-false (slice_index_or counts (n % 4096) 0 == 0) is))

pub counted_here : (n : ℕ) (ls : List CacheLine) (counts : List ℕ) → AreCounted ls counts → not (slice_index_or counts (n % 4096) 0 == 0) ≡ not (count_by (has_residue (n % 4096)) ls == 0)
counted_here n ls counts counted = ap (λ c. not (c == 0)) (counted.each (n % 4096) (residue_within n))

-- ---- what the calls leave

pub no_lines : (ls : List CacheLine) (counts : List ℕ) → ls ≡ [] → counts ≡ replicate 4096 0 → AreLines ls × AreCounted ls counts
no_lines ls counts none zeros = (
  subst AreLines (sym none) (record { distinct = λ i j d below within. absurd (omega (arith, below, within)); whole = λ k d within. absurd (omega (arith, within)) }),
  counted_by ls [] counts (replicate 4096 0) none zeros nothing_counted,
)

pub within_of : (ls : List CacheLine) (i : ℕ) (l : CacheLine) → slice_get ls i ≡ Some l → i < length ls
within_of [] i l is = absurd (cc)
within_of (x ∷ ls) zero l is = omega arith
within_of (x ∷ ls) (suc i) l is = let rest = within_of ls i l is in omega (arith, rest)
