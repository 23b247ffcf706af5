-- No page is counted if and only if none has another type.
use Rattle.std.proofs.Common.{◌≡◌, ◌∙◌, ℕ, zero, suc, ◌<◌, ◌≤◌, Bool, true, false, Some, None, sym, ap, refl, inl, inr, arith}
use Rattle.std.specs.Prelude.{if◌then◌else◌, is_some, max, nat_lt}
use Rattle.std.proofs.Math.Nat.{le-max_left, le-max_right}
use Rattle.std.proofs.lemmas.Bool.{cases_Bool, cases_lt}
use Rattle.std.proofs.lemmas.Bool.Decides.{nat_tests}
use Rattle.mt_gran.specs.Granules.{count_below}
use Rattle.mt_gran.proofs.Counts.{count_none}
use Rattle.mt_regs.specs.RegisterFile.{RegisterFile, page_count}
use Rattle.mt_regs.specs.PageTypes.{page_type}
use Rattle.mt_explain.specs.Spans.{marked_pages}
use Rattle.mt_explain.specs.TypeChanges.{change_mark, change_of, changed_pages, is_same_type, type_shown}
use Rattle.mt_explain.proofs.Types.{equal_types, types_equal}

none_counted : (test : ℕ → Bool) (count : ℕ) → count_below test count ≡ 0 → (n : ℕ) → n < count → test n ≡ false
none_counted test zero none n below = absurd (omega (arith, below))
none_counted test (suc count) none n below = elim (cases_lt n count) [
  | inl earlier ↦ none_counted test count (omega (arith, none)) n earlier
  | inr later ↦
      let last : count ≡ n = omega (arith, below, later) in
      let zero_here : ◌≡◌ {A = ℕ} (if test count then 1 else 0) 0 = omega (arith, none) in
      ap test (sym last) ∙ off (test count) zero_here
]
  where
    off : (b : Bool) → ◌≡◌ {A = ℕ} (if b then 1 else 0) 0 → b ≡ false
    off true one = absurd (omega (arith, one))
    off false none = refl

module _ (old new : RegisterFile) where
  same_if_unmarked : (page : ℕ) → is_some (change_mark old new page) ≡ false → type_shown old page ≡ type_shown new page
  same_if_unmarked page none = elim (cases_Bool (is_same_type (type_shown old page) (type_shown new page))) [
    | inl same ↦ types_equal (type_shown old page) (type_shown new page) same
    | inr other ↦ absurd (cc (sym (marked other) ∙ none))
  ]
    where
      marked : is_same_type (type_shown old page) (type_shown new page) ≡ false → is_some (change_mark old new page) ≡ true
      marked other = ap (λ (b : Bool). is_some (if b then None else Some (change_of (type_shown old page) (type_shown new page)))) other

  unmarked_if_same : (page : ℕ) → type_shown old page ≡ type_shown new page → is_some (change_mark old new page) ≡ false
  unmarked_if_same page equal =
      ap (λ (b : Bool). is_some (if b then None else Some (change_of (type_shown old page) (type_shown new page)))) (equal_types (type_shown old page) (type_shown new page) equal)

  none_shown : (f : RegisterFile) (page : ℕ) → page_count f ≤ page → type_shown f page ≡ None
  none_shown f page past = ap (λ (b : Bool). if b then Some (page_type f page) else None) (beyond page (page_count f) past)
    where
      beyond : (a b : ℕ) → b ≤ a → nat_lt a b ≡ false
      beyond a b order = grind (arith, nat_tests, order)

  pub unchanged : changed_pages old new ≡ 0 → (page : ℕ) → type_shown old page ≡ type_shown new page
  unfolding marked_pages
  unchanged none page = elim (cases_lt page (max (page_count old) (page_count new))) [
    | inl within ↦ same_if_unmarked page (none_counted (λ n. is_some (change_mark old new n)) (max (page_count old) (page_count new)) none page within)
    | inr past ↦
        none_shown old page (omega (arith, past, le-max_left (page_count old) (page_count new)))
        ∙ sym (none_shown new page (omega (arith, past, le-max_right (page_count old) (page_count new))))
  ]

  pub counts_none : ((page : ℕ) → type_shown old page ≡ type_shown new page) → changed_pages old new ≡ 0
  unfolding marked_pages
  counts_none same =
      count_none (λ n. is_some (change_mark old new n)) 0 (max (page_count old) (page_count new)) (max (page_count old) (page_count new)) (omega arith)
      (λ page low high. unmarked_if_same page (same page))
