-- Edges of wishes, and how many are past a page.
use Rattle.std.proofs.Common.{◌≡◌, ◌∙◌, ℕ, ◌+◌, ◌<◌, ◌≤◌, Bool, true, false, List, length, take, get_or, sym, ap, inl, inr, arith}
use Rattle.std.specs.Prelude.{nat_le, nat_lt, ◌&&◌, min, if◌then◌else◌}
use Rattle.std.specs.List.{slice_index_or, sum_by}
use Rattle.std.proofs.lemmas.Bool.{cases_lt}
use Rattle.std.proofs.lemmas.Bool.Decides.{nat_tests}
use Rattle.std.proofs.lemmas.List.Sums.{fold_more, sum_by_more, sum_by-le, sum_by-le-sum_by}
use Rattle.mt_kinds.specs.Bits.{is_bit_set}
use Rattle.mt_ranges.specs.FixedPart.{fixed_edges_past}
use Rattle.mt_ranges.specs.Match.{range_end, range_first}
use Rattle.mt_regs.specs.Alike.{edges_past, pair_edges_past}
use Rattle.mt_regs.specs.declared.page_type.PageType.{PageType}
use Rattle.mt_regs.specs.declared.page_type.PageType.TheVariants.{Kind}
use Rattle.mt_regs.specs.RegisterFile.{RegisterFile, is_fixed_enabled}
use Rattle.mt_regs.proofs.Counts.{few_edges}
use Rattle.mt_mend.specs.declared.wish.Wish.{Wish}
use Rattle.mt_mend.specs.Wishes.{all_edges_past, edges_of, granted, has_page, over}

-- ---- an edge of one wish

tests_same : (a b c d : Bool) → a ≡ c → b ≡ d → (a && b) ≡ (c && d)
tests_same a b c d first second = cc

-- pages on one side of both ends of a wish are all in it, or none is
pub same_pages : (w : Wish) (page other : ℕ) → nat_le w.first other ≡ nat_le w.first page → nat_le other w.last ≡ nat_le page w.last → has_page w other ≡ has_page w page
same_pages w page other first last = tests_same _ _ _ _ first last

-- ---- edges of wishes

ends_fewer : (page next first last : ℕ) → page ≤ next
    → (if nat_lt next first then 1 else 0) + (if nat_le next last then 1 else 0) ≤ (if nat_lt page first then 1 else 0) + (if nat_le page last then 1 else 0)
ends_fewer page next first last order = grind (arith, nat_tests, order)

sum_fewer : (page next : ℕ) (wishes : List Wish) → page ≤ next → sum_by (edges_of next) wishes ≤ sum_by (edges_of page) wishes
sum_fewer page next wishes order = sum_by-le-sum_by (edges_of next) (edges_of page) wishes (λ w. ends_fewer page next w.first w.last order)

-- one more wish keeps the count falling
pub sum_falls : (page next edge end i : ℕ) (wishes : List Wish) (d : Wish) → i < length wishes → page < next → page < edge
    → (next < end → sum_by (edges_of next) (take i wishes) < sum_by (edges_of page) (take i wishes))
    → (edge < end → edges_of edge (get_or wishes i d) < edges_of page (get_or wishes i d))
    → min next edge < end → sum_by (edges_of (min next edge)) (take (i + 1) wishes) < sum_by (edges_of page) (take (i + 1) wishes)
sum_falls page next edge end i wishes d within above past sofar here below = elim (cases_lt edge next) [
  | inl new ↦
      let is : min next edge ≡ edge = omega arith in
      rw is
      (omega (
        arith,
        sum_by_more (edges_of edge) wishes i d within,
        sum_by_more (edges_of page) wishes i d within,
        sum_fewer page edge (take i wishes) (omega arith),
        here (omega arith),
      ))
  | inr old ↦
      let is : min next edge ≡ next = omega arith in
      rw is
      (omega (
        arith,
        sum_by_more (edges_of next) wishes i d within,
        sum_by_more (edges_of page) wishes i d within,
        ends_fewer page next (get_or wishes i d).first (get_or wishes i d).last (omega arith),
        sofar (omega arith),
      ))
]

-- one more wish grants pages between edges one type
pub same_over : (own : PageType) (wishes : List Wish) (i page other : ℕ) (d : Wish) → i < length wishes → over own (take i wishes) other ≡ over own (take i wishes) page
    → has_page (get_or wishes i d) other ≡ has_page (get_or wishes i d) page → over own (take (i + 1) wishes) other ≡ over own (take (i + 1) wishes) page
same_over own wishes i page other d within before here =
    fold_more (granted other) own wishes i d within
    ∙ ap (λ k. granted other k (get_or wishes i d)) before
    ∙ ap (λ b. if b then Kind (get_or wishes i d).kind else over own (take i wishes) page) here
    ∙ sym (fold_more (granted page) own wishes i d within)

-- ---- edges of a file

past_counts : (b : Bool) (page next first end : ℕ) → page ≤ next
    → (if b then (if nat_lt next first then 1 else 0) + (if nat_lt next end then 1 else 0) else 0) ≤ (if b then (if nat_lt page first then 1 else 0) + (if nat_lt page end then 1 else 0) else 0)
past_counts true page next first end order = grind (arith, nat_tests, order)
past_counts false page next first end order = omega arith

on_fewer : (b : Bool) (page next : ℕ) → page ≤ next → (if b then fixed_edges_past next else 0) ≤ (if b then fixed_edges_past page else 0)
on_fewer true page next order = grind (arith, nat_tests, order)
on_fewer false page next order = omega arith

own_fewer : (f : RegisterFile) (page next : ℕ) → page ≤ next → edges_past f next ≤ edges_past f page
own_fewer f page next order =
    omega (
      arith,
      sum_by-le-sum_by (pair_edges_past f.width next) (pair_edges_past f.width page) f.pairs
          (λ pair. past_counts (is_bit_set pair.1 11) page next (range_first f.width pair) (range_end f.width pair) order),
      on_fewer (is_fixed_enabled f) page next order,
    )

-- the count of all edges falls from edge to edge
pub all_fall : (f : RegisterFile) (wishes : List Wish) (page next end pages : ℕ) → page < next → next ≤ end
    → (next < end → sum_by (edges_of next) wishes < sum_by (edges_of page) wishes) → (end < pages → edges_past f end < edges_past f page)
    → next < pages → all_edges_past f wishes next < all_edges_past f wishes page
all_fall f wishes page next end pages above bound by_wish by_file below = elim (cases_lt next end) [
  | inl inner ↦ omega (arith, by_wish inner, own_fewer f page next (omega arith))
  | inr outer ↦
      let is : end ≡ next = omega arith in
      let falls = rw is at (by_file (omega arith)) in
      omega (arith, falls, sum_fewer page next wishes (omega arith))
]

-- 64 wishes have few edges
pub few_in_all : (f : RegisterFile) (wishes : List Wish) → length f.pairs ≤ 32 → length wishes ≤ 64 → all_edges_past f wishes 0 + 1 ≤ 281
few_in_all f wishes pairs few =
    omega (arith, few_edges f pairs, sum_by-le (edges_of 0) 2 wishes (λ k d within. two_ends (slice_index_or wishes k d).first (slice_index_or wishes k d).last), few)
  where
    two_ends : (first last : ℕ) → (if nat_lt 0 first then 1 else 0) + (if nat_le 0 last then 1 else 0) ≤ 2
    two_ends first last = grind (arith, nat_tests)
