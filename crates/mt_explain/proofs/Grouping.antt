-- Each file is in one group, and two are in one group if and only if they are equal.
use Rattle.std.proofs.Common.{◌≡◌, ◌∙◌, ℕ, zero, suc, ◌+◌, ◌≤◌, ◌<◌, Bool, true, false, List, [], ◌∷◌, ◌++◌, length, map, refl, sym, ap, subst, inl, inr, append-nil, arith, length-append}
use Rattle.std.specs.Prelude.{◌==◌, ◌&&◌, ◌||◌, if◌then◌else◌, nat_lt, cond, slice_index}
use Rattle.std.specs.List.{filter, list_any}
use Rattle.std.proofs.lemmas.Bool.{and_parts, cases_lt}
use Rattle.std.proofs.lemmas.Bool.Decides.{nat_tests}
use Rattle.std.proofs.lemmas.List.{map_push}
use Rattle.std.proofs.lemmas.List.Elements.{filter-append}
use Rattle.std.proofs.lemmas.List.Folds.{list_any-append}
use Rattle.arrayvec.specs.ArrayVec.{ArrayVec}
use Rattle.mt_regs.specs.RegisterFile.{RegisterFile}
use Rattle.mt_explain.specs.Clashes.{numbers}
use Rattle.mt_explain.specs.Groups.{AreEqualAt, AreFirstEqual, GroupsAreOfEqualFiles, IsFirstEqual, has, members}
use Rattle.mt_explain.specs.Pairs.{numbers_below}
use Rattle.mt_explain.proofs.Equal.{of_one_group, one_group}

-- ---- tests of numbers

less : (a b : ℕ) → a < b → nat_lt a b ≡ true
less a b order = grind (arith, nat_tests, order)

not_less : (a b : ℕ) → b ≤ a → nat_lt a b ≡ false
not_less a b order = grind (arith, nat_tests, order)

same : (a b : ℕ) → a ≡ b → (a == b) ≡ true
same a b is = grind (arith, nat_tests, is)

other : (a b : ℕ) → (a ≡ b → ⊥) → (a == b) ≡ false
other a b apart = grind (arith, nat_tests, apart)

equal : (a b : ℕ) → (a == b) ≡ true → a ≡ b
equal a b test = grind (arith, nat_tests, test)

-- ---- numbers that pass a test

abbrev one_if : Bool → ℕ → List ℕ
one_if test n = if test then n ∷ [] else []

is_among : (p : ℕ → Bool) (n k : ℕ) → list_any (λ m. m == k) (numbers_below p n) ≡ (nat_lt k n && p k)
is_among p zero k = rw (not_less k 0 (omega arith)) refl
is_among p (suc n) k =
    list_any-append (λ m. m == k) (numbers_below p n) (one_if (p n) n) ∙ ap (λ b. b || list_any (λ m. m == k) (one_if (p n) n)) (is_among p n k)
    ∙ ap (λ b. nat_lt k n && p k || b) (any_one (p n))
    ∙ elim (cases_lt k n) [
      | inl before ↦ rw (less k n before, less k (suc n) (omega (arith, before)), other n k (omega (arith, before))) (none (p k) (p n))
      | inr on ↦ elim (cases_lt n k) [
        | inl behind ↦ rw (not_less k n on, not_less k (suc n) (omega (arith, behind)), other n k (omega (arith, behind))) (none false (p n))
        | inr level ↦
            let is : n ≡ k = omega (arith, on, level) in
            rw (not_less k n on, less k (suc n) (omega (arith, level)), same n k is) (one (p n) ∙ ap p is)
      ]
    ]
  where
    any_one : (test : Bool) → list_any (λ m. m == k) (one_if test n) ≡ (test && (n == k))
    any_one true = alone (n == k)
      where
        alone : (b : Bool) → (b || false) ≡ b
        alone true = refl
        alone false = refl
    any_one false = refl

    none : (b test : Bool) → (b || test && false) ≡ b
    none true test = refl
    none false true = refl
    none false false = refl

    one : (test : Bool) → (test && true) ≡ test
    one true = refl
    one false = refl

module _ (files : List RegisterFile) (firsts : List ℕ) (are : AreFirstEqual files firsts) where
  abbrev group_of : ℕ → ArrayVec ℕ
  group_of l = numbers (members firsts l)

  abbrev leads : ℕ → Bool
  leads l = slice_index firsts l == l

  abbrev groups_below : ℕ → List (ArrayVec ℕ)
  groups_below n = map group_of (numbers_below leads n)

  has_is : (k l : ℕ) → k < length firsts → has k (group_of l) ≡ (slice_index firsts k == l)
  has_is k l within = is_among (λ j. slice_index firsts j == l) (length firsts) k ∙ (rw (less k (length firsts) within) refl)

  module _ (k : ℕ) (within : k < length files) where
    first : IsFirstEqual files k (slice_index firsts k)
    first = are.each k within

    is_below : slice_index firsts k < length firsts
    is_below = omega (arith, within, first.order, are.count)

    is_leader : leads (slice_index firsts k) ≡ true
    is_leader =
        let l = slice_index firsts k in
        same (slice_index firsts l) l (one_group files l k (slice_index firsts l) l (are.each l (omega (arith, within, first.order))) first first.equal)

    -- how many of the first groups have the file
    abbrev count : ℕ → ℕ
    count n = length (filter (has k) (groups_below n))

    count_is : (n : ℕ) → count n ≡ (if nat_lt (slice_index firsts k) n then 1 else 0)
    count_is zero = rw (not_less (slice_index firsts k) 0 (omega arith)) refl
    count_is (suc n) = by (leads n) refl (count_is n)
      where
        not_here : ((slice_index firsts k) ≡ n → ⊥) → nat_lt (slice_index firsts k) n ≡ nat_lt (slice_index firsts k) (suc n)
        not_here apart = elim (cases_lt (slice_index firsts k) n) [
          | inl before ↦ less (slice_index firsts k) n before ∙ sym (less (slice_index firsts k) (suc n) (omega (arith, before)))
          | inr on ↦ not_less (slice_index firsts k) n on ∙ sym (not_less (slice_index firsts k) (suc n) (omega (arith, on, apart)))
        ]

        more : (hit : Bool) → (slice_index firsts k == n) ≡ hit → length (filter (has k) (group_of n ∷ [])) ≡ (if hit then 1 else 0)
        more true is = ap (λ b. length (cond b (group_of n ∷ []) [])) (has_is k n (omega (arith, within, are.count)) ∙ is)
        more false is = ap (λ b. length (cond b (group_of n ∷ []) [])) (has_is k n (omega (arith, within, are.count)) ∙ is)

        sum : (hit : Bool) → (slice_index firsts k == n) ≡ hit → (if nat_lt (slice_index firsts k) n then 1 else 0) + (if hit then 1 else 0) ≡ (if nat_lt (slice_index firsts k) (suc n) then 1 else 0)
        sum true is = let at = equal (slice_index firsts k) n is in rw (not_less (slice_index firsts k) n (omega (arith, at)), less (slice_index firsts k) (suc n) (omega (arith, at))) refl
        sum false is = let none : (slice_index firsts k) ≡ n → ⊥ = (λ e. let hit = same (slice_index firsts k) n e in cc (hit, is)) in rw (not_here none) (plus_none (nat_lt (slice_index firsts k) (suc n)))
          where
            plus_none : (b : Bool) → (if b then 1 else 0) + 0 ≡ (if b then 1 else 0)
            plus_none true = refl
            plus_none false = refl

        by : (lead : Bool) → leads n ≡ lead → count n ≡ (if nat_lt (slice_index firsts k) n then 1 else 0) → length (filter (has k) (map group_of (numbers_below leads n ++ one_if lead n))) ≡ (if nat_lt (slice_index firsts k) (suc n) then 1 else 0)
        by true is before =
            ap (λ gs. length (filter (has k) gs)) (map_push group_of (numbers_below leads n) n) ∙ ap length (filter-append (has k) (groups_below n) (group_of n ∷ []))
            ∙ length-append (filter (has k) (groups_below n)) (filter (has k) (group_of n ∷ [])) ∙ ap (λ c. c + length (filter (has k) (group_of n ∷ []))) before
            ∙ ap (λ c. (if nat_lt (slice_index firsts k) n then 1 else 0) + c) (more (slice_index firsts k == n) refl) ∙ sum (slice_index firsts k == n) refl
        by false is before =
            let none : (slice_index firsts k) ≡ n → ⊥ = (λ e. let lead = subst (λ m. leads m ≡ true) e is_leader in cc (lead, is)) in
            ap (λ ns. length (filter (has k) (map group_of ns))) (append-nil (numbers_below leads n)) ∙ before ∙ ap (λ b. if b then 1 else 0) (not_here none)

    in_one : count (length firsts) ≡ 1
    in_one = count_is (length firsts) ∙ (rw (less (slice_index firsts k) (length firsts) is_below) refl)

  -- ---- two files of one group

  abbrev has_both : ℕ → ℕ → ArrayVec ℕ → Bool
  has_both j k group = has j group && has k group

  -- the groups below one more
  one_more : (p : ArrayVec ℕ → Bool) (n : ℕ) (lead : Bool) → list_any p (map group_of (numbers_below leads n ++ one_if lead n)) ≡ (list_any p (groups_below n) || lead && p (group_of n))
  one_more p n true = ap (list_any p) (map_push group_of (numbers_below leads n) n) ∙ list_any-append p (groups_below n) (group_of n ∷ []) ∙ ap (λ b. list_any p (groups_below n) || b) (alone (p (group_of n)))
    where
      alone : (b : Bool) → (b || false) ≡ b
      alone true = refl
      alone false = refl
  one_more p n false = ap (λ ns. list_any p (map group_of ns)) (append-nil (numbers_below leads n)) ∙ nothing (list_any p (groups_below n))
    where
      nothing : (b : Bool) → b ≡ (b || false)
      nothing true = refl
      nothing false = refl

  some_below : (p : ArrayVec ℕ → Bool) (n : ℕ) → list_any p (groups_below n) ≡ true → (l : ℕ) × (p (group_of l) ≡ true)
  some_below p zero is = cc is
  some_below p (suc n) is = by (list_any p (groups_below n)) refl (leads n) (p (group_of n)) refl (sym (one_more p n (leads n)) ∙ is) (some_below p n)
    where
      by : (before : Bool) → list_any p (groups_below n) ≡ before → (lead here : Bool) → p (group_of n) ≡ here → (before || lead && here) ≡ true
          → (list_any p (groups_below n) ≡ true → (l : ℕ) × (p (group_of l) ≡ true)) → (l : ℕ) × (p (group_of l) ≡ true)
      by true found lead here at hit go = go found
      by false found true true at hit go = (n, at)
      by false found true false at hit go = cc hit
      by false found false here at hit go = cc hit

  below_some : (p : ArrayVec ℕ → Bool) (n l : ℕ) → l < n → leads l ≡ true → p (group_of l) ≡ true → list_any p (groups_below n) ≡ true
  below_some p zero l within lead is = absurd (omega (arith, within))
  below_some p (suc n) l within lead is = one_more p n (leads n) ∙ elim (cases_lt l n) [
    | inl before ↦ rw (below_some p n l before lead is) refl
    | inr on ↦
        let at : l ≡ n = omega (arith, within, on) in
        let leads_here : leads n ≡ true = subst (λ m. leads m ≡ true) at lead in
        let is_here : p (group_of n) ≡ true = subst (λ m. p (group_of m) ≡ true) at is in
        rw (leads_here, is_here) (any (list_any p (groups_below n)))
  ]
    where
      any : (b : Bool) → (b || true) ≡ true
      any true = refl
      any false = refl

  module _ (j k : ℕ) (in_j : j < length files) (in_k : k < length files) where
    to_equal : list_any (has_both j k) (groups_below (length firsts)) ≡ true → AreEqualAt files j k
    to_equal hit =
        let found = some_below (has_both j k) (length firsts) hit in
        let both = and_parts (has j (group_of found.0)) (has k (group_of found.0)) found.1 in
        let one = equal (slice_index firsts j) found.0 (sym (has_is j found.0 (omega (arith, in_j, are.count))) ∙ both.0) in
        let two = equal (slice_index firsts k) found.0 (sym (has_is k found.0 (omega (arith, in_k, are.count))) ∙ both.1) in
        of_one_group files j k (slice_index firsts j) (slice_index firsts k) (are.each j in_j) (are.each k in_k) (one ∙ sym two)

    of_equal : AreEqualAt files j k → list_any (has_both j k) (groups_below (length firsts)) ≡ true
    of_equal is =
        let l = slice_index firsts j in
        let level = one_group files j k l (slice_index firsts k) (are.each j in_j) (are.each k in_k) is in
        let one = has_is j l (omega (arith, in_j, are.count)) ∙ same l l refl in
        let two = has_is k l (omega (arith, in_k, are.count)) ∙ same (slice_index firsts k) l (sym level) in
        below_some (has_both j k) (length firsts) l (is_below j in_j) (is_leader j in_j) (rw (one, two) refl)

pub groups_are_of_equal_files : GroupsAreOfEqualFiles
groups_are_of_equal_files files groups is = record {
  one = λ k within. ap (λ gs. length (filter (has k) gs)) is.are ∙ in_one files is.firsts is.equal k within;
  equal = λ j k in_j in_k. (
    (λ hit. to_equal files is.firsts is.equal j k in_j in_k (sym (ap (list_any (λ group. has j group && has k group)) is.are) ∙ hit)),
    (λ level. ap (list_any (λ group. has j group && has k group)) is.are ∙ of_equal files is.firsts is.equal j k in_j in_k level),
  );
}
