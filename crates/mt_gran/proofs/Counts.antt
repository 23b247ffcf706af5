-- Counting the pages that lose WB over the runs of pages that lose a type.
use Rattle.std.proofs.Common.{◌≡◌, ◌≢◌, ℕ, zero, suc, ◌+◌, ◌-◌, ◌/◌, ◌^◌, ◌<◌, ◌≤◌, Bool, true, false, List, [], ◌∷◌, length, drop, drop-cons, get_or, Option, Some, None, refl, sym, ap, ◌∙◌, ◌⊎◌, inl, inr, arith, subst}
use Rattle.std.proofs.lemmas.Bool.{and_from, and_parts, both_ways, cases_Bool}
use Rattle.std.proofs.lemmas.List.{drop_all}
use Rattle.mt_kinds.specs.declared.mem_type.MemType.{MemType}
use Rattle.mt_kinds.specs.declared.mem_type.MemType.TheVariants.{UC, WB}
use Rattle.mt_regs.specs.declared.page_type.PageType.{PageType}
use Rattle.mt_regs.specs.declared.page_type.PageType.TheVariants.{Kind}
use Rattle.mt_types.specs.declared.run.Run.{Run}
use Rattle.mt_types.specs.Runs.{run_end}
use Rattle.mt_trie.specs.Contexts.{is_kind}
use Rattle.mt_gran.specs.Granules.{TypedPages, count_below, is_whole, lost_pages, loses, rounded_kind}
use Rattle.mt_gran.specs.Marks.{AreRunsOf, lost_mark, part_loss}
use Rattle.mt_gran.proofs.RunsOf.{ends_later}
use Rattle.mt_gran.proofs.Whole.{kind_of, not_true, of_kind, true_not}
use Rattle.mt_gran.proofs.CutMarks.{broken_gets, broken_marks, free_marks, uncacheable_marks, whole_keeps, whole_marks}

-- a page's mark is the type that it loses
pub mark_of : (m : TypedPages) (g : ℕ) (t : MemType) (page : ℕ) → loses m g t page ≡ true → lost_mark m g page ≡ Some (Kind t)
mark_of m g t page h =
    let outer = and_parts _ _ h in
    let inner = and_parts _ _ outer.0 in
    let first = and_parts _ _ inner.0 in
    let nonfree : m.free page ≡ false = not_true (m.free page) first.0 in
    let kind : m.kind page ≡ Kind t = kind_of (m.kind page) t first.1 in
    let other : is_kind (m.kind page) UC ≡ false = not_true (is_kind (m.kind page) UC) inner.1 in
    elim (cases_Bool (is_whole m g (page / 2 ^ g))) [
      | inl whole ↦ absurd (both_ways (is_kind (m.kind page) UC) other (ap (λ k. is_kind k UC) (sym (whole_keeps m g page nonfree whole)) ∙ outer.1))
      | inr broken ↦ broken_marks m g page other nonfree broken ∙ ap (λ (k : PageType). Some k) kind
    ]

pub no_mark : (k : PageType) (o : Option PageType) → o ≡ None → o ≡ Some k → ⊥
no_mark k o none some = cc

pub same_mark : (j k : PageType) → Some j ≡ Some k → j ≡ k
same_mark j k h = cc

-- what a mark says of its page
pub record IsLost (m : TypedPages) (g page : ℕ) (k : PageType) : Type 0 where
  pub kind : m.kind page ≡ k
  pub other : is_kind (m.kind page) UC ≡ false
  pub nonfree : m.free page ≡ false
  pub broken : is_whole m g (page / 2 ^ g) ≡ false

pub lost_by : (m : TypedPages) (g page : ℕ) (k : PageType) → lost_mark m g page ≡ Some k → IsLost m g page k
lost_by m g page k is = elim (cases_Bool (is_kind (m.kind page) UC)) [
  | inl uc ↦ absurd (no_mark k (lost_mark m g page) (uncacheable_marks m g page uc) is)
  | inr other ↦ elim (cases_Bool (m.free page)) [
    | inl free ↦ absurd (no_mark k (lost_mark m g page) (free_marks m g page other free) is)
    | inr nonfree ↦ elim (cases_Bool (is_whole m g (page / 2 ^ g))) [
      | inl whole ↦ absurd (no_mark k (lost_mark m g page) (whole_marks m g page other nonfree whole) is)
      | inr broken ↦ record {
        kind = same_mark (m.kind page) k (sym (broken_marks m g page other nonfree broken) ∙ is);
        other = other;
        nonfree = nonfree;
        broken = broken;
      }
    ]
  ]
]

pub loses_by : (m : TypedPages) (g : ℕ) (t : MemType) (page : ℕ) → lost_mark m g page ≡ Some (Kind t) → loses m g t page ≡ true
loses_by m g t page is =
    let lost = lost_by m g page (Kind t) is in
    let gets : is_kind (rounded_kind m g page) UC ≡ true = ap (λ k. is_kind k UC) (broken_gets m g page lost.nonfree lost.broken) in
    and_from _ _ (and_from _ _ (and_from _ _ (true_not (m.free page) lost.nonfree) (of_kind (m.kind page) t lost.kind)) (true_not (is_kind (m.kind page) UC) lost.other)) gets

pub not_marked : (m : TypedPages) (g : ℕ) (t : MemType) (page : ℕ) → lost_mark m g page ≢ Some (Kind t) → loses m g t page ≡ false
not_marked m g t page is = elim (cases_Bool (loses m g t page)) [
  | inl loss ↦ absurd (is (mark_of m g t page loss))
  | inr none ↦ none
]

pub count_few : (test : ℕ → Bool) (n : ℕ) → count_below test n ≤ n
count_few test zero = omega arith
count_few test (suc n) =
    let h = count_few test n in
    elim (cases_Bool (test n)) [
      | inl one ↦ rw one (omega (arith, h))
      | inr none ↦ rw none (omega (arith, h))
    ]

pub count_none : (test : ℕ → Bool) (from n to : ℕ) → to ≡ from + n → ((page : ℕ) → from ≤ page → page < to → test page ≡ false) → count_below test to ≡ count_below test from
count_none test from zero to is none = ap (count_below test) (omega arith)
count_none test from (suc n) to is none =
    let last : suc (from + n) ≡ to = omega (arith, is) in
    let h : count_below test (from + n) ≡ count_below test from = count_none test from n (from + n) refl (λ page low high. none page low (omega (arith, high, last))) in
    let off : test (from + n) ≡ false = none (from + n) (omega arith) (omega (arith, last)) in
    let step : count_below test (suc (from + n)) ≡ count_below test from = rw off (omega (arith, h)) in
    ap (count_below test) (sym last) ∙ step

pub count_all : (test : ℕ → Bool) (from n to : ℕ) → to ≡ from + n → ((page : ℕ) → from ≤ page → page < to → test page ≡ true) → count_below test to ≡ count_below test from + n
count_all test from zero to is all =
    let e : to ≡ from = omega arith in
    let h : count_below test to ≡ count_below test from = ap (count_below test) e in
    omega (arith, h)
count_all test from (suc n) to is all =
    let last : suc (from + n) ≡ to = omega (arith, is) in
    let h : count_below test (from + n) ≡ count_below test from + n = count_all test from n (from + n) refl (λ page low high. all page low (omega (arith, high, last))) in
    let on : test (from + n) ≡ true = all (from + n) (omega arith) (omega (arith, last)) in
    let step : count_below test (suc (from + n)) ≡ count_below test from + suc n = rw on (omega (arith, h)) in
    ap (count_below test) (sym last) ∙ step

-- the run that a list of runs gives where it has none
abbrev pub default_run : Run
default_run = record { first = 0; count = 0; kind = Kind UC }

-- the number of pages that lose WB below the runs that are left
pub record Counted (m : TypedPages) (g : ℕ) (rest : List Run) (lost : ℕ) : Type 0 where
  pub from : ℕ
  pub runs : AreRunsOf (lost_mark m g) from m.count rest
  pub lost_is : lost ≡ count_below (loses m g WB) from

pub counted_start : (m : TypedPages) (g : ℕ) (runs : List Run) → AreRunsOf (lost_mark m g) 0 m.count runs → Counted m g runs 0
counted_start m g runs are = record { from = 0; runs = are; lost_is = refl }

module _ (m : TypedPages) (g : ℕ) (parts : List Run) (i lost : ℕ) (counted : Counted m g (drop i parts) lost) where
  at : (d : Run) → i < length parts → Counted m g (get_or parts i d ∷ drop (i + 1) parts) lost
  at d within =
      let next : suc i ≡ i + 1 = omega arith in
      let e : drop i parts ≡ get_or parts i d ∷ drop (i + 1) parts = drop-cons parts i d within ∙ ap (λ (n : ℕ). get_or parts i d ∷ drop n parts) next in
      subst (λ (rs : List Run). Counted m g rs lost) e counted

  gap : (r : Run) (rs : List Run) → (here : Counted m g (r ∷ rs) lost) → count_below (loses m g WB) r.first ≡ lost
  gap r rs here =
      let none : count_below (loses m g WB) r.first ≡ count_below (loses m g WB) here.from =
      count_none (loses m g WB) here.from (r.first - here.from) r.first (omega (arith, here.runs.0))
      (λ page low high. not_marked m g WB page (λ some. no_mark (Kind WB) (lost_mark m g page) (here.runs.1 page low high) some)) in
      none ∙ sym here.lost_is

  small : (d : Run) → i < length parts → lost + part_loss (get_or parts i d) ≤ m.count
  small d within =
      let here = at d within in
      let h = gap (get_or parts i d) (drop (i + 1) parts) here in
      let few = count_few (loses m g WB) (get_or parts i d).first in
      let ends = ends_later (lost_mark m g) (run_end (get_or parts i d)) m.count (drop (i + 1) parts) here.runs.5 in
      elim (cases_Bool (is_kind (get_or parts i d).kind WB)) [
        | inl is ↦ rw is (omega (arith, h, few, ends))
        | inr other ↦ rw other (omega (arith, h, few, ends))
      ]

  counted_next : (d : Run) → i < length parts → Counted m g (drop (i + 1) parts) (lost + part_loss (get_or parts i d))
  counted_next d within = record { from = run_end (get_or parts i d); runs = (at d within).runs.5; lost_is = by_kind (cases_Bool (is_kind (get_or parts i d).kind WB)) }
    where
      by_kind : (is_kind (get_or parts i d).kind WB ≡ true) ⊎ (is_kind (get_or parts i d).kind WB ≡ false)
          → lost + part_loss (get_or parts i d) ≡ count_below (loses m g WB) (run_end (get_or parts i d))
      by_kind (inl is) =
          let here = at d within in
          let h = gap (get_or parts i d) (drop (i + 1) parts) here in
          let all = count_all (loses m g WB) (get_or parts i d).first (get_or parts i d).count (run_end (get_or parts i d)) refl
          (λ page low high. loses_by m g WB page (here.runs.3 page low high ∙ ap (λ (k : PageType). Some k) (kind_of (get_or parts i d).kind WB is))) in
          rw is (omega (arith, all, h))
      by_kind (inr other) =
          let here = at d within in
          let h = gap (get_or parts i d) (drop (i + 1) parts) here in
          let none = count_none (loses m g WB) (get_or parts i d).first (get_or parts i d).count (run_end (get_or parts i d)) refl
          (λ page low high. not_marked m g WB page (λ some. both_ways (is_kind (get_or parts i d).kind WB) other
          (of_kind (get_or parts i d).kind WB (same_mark (get_or parts i d).kind (Kind WB) (sym (here.runs.3 page low high) ∙ some))))) in
          rw other (omega (arith, none, h))

  all_counted : length parts ≤ i → lost ≡ lost_pages m g
  all_counted past =
      let none : drop i parts ≡ [] = drop_all i parts past in
      let last = subst (λ (rs : List Run). Counted m g rs lost) none counted in
      last.lost_is ∙ sym (count_none (loses m g WB) last.from (m.count - last.from) m.count (omega (arith, last.runs.0))
      (λ page low high. not_marked m g WB page (λ some. no_mark (Kind WB) (lost_mark m g page) (last.runs.1 page low high) some)))

pub few_lost : (m : TypedPages) (g : ℕ) (parts : List Run) (i lost : ℕ) → Counted m g (drop i parts) lost → (d : Run) → i < length parts → lost + part_loss (get_or parts i d) ≤ m.count
few_lost = small

pub more_lost : (m : TypedPages) (g : ℕ) (parts : List Run) (i lost : ℕ) → Counted m g (drop i parts) lost → (d : Run) → i < length parts
    → Counted m g (drop (i + 1) parts) (lost + part_loss (get_or parts i d))
more_lost = counted_next

pub all_lost : (m : TypedPages) (g : ℕ) (parts : List Run) (i lost : ℕ) → Counted m g (drop i parts) lost → length parts ≤ i → lost ≡ lost_pages m g
all_lost = all_counted
