-- There is one list of parts.
use Rattle.std.proofs.Common.{◌≡◌, ℕ, ◌<◌, ◌≤◌, true, false, List, [], ◌∷◌, refl, sym, ap, ◌∙◌, inl, inr, arith, subst}
use Rattle.std.specs.List.{AllByRecursion}
use Rattle.std.proofs.lemmas.Bool.{both_ways, cases_lt}
use Rattle.mt_kinds.specs.declared.mem_type.MemType.{MemType}
use Rattle.mt_regs.specs.declared.page_type.PageType.TheVariants.{Kind}
use Rattle.mt_types.specs.declared.run.Run.{Run}
use Rattle.mt_types.specs.Runs.{run_end}
use Rattle.mt_gran.specs.Granules.{TypedPages, loses}
use Rattle.mt_gran.specs.Parts.{ArePartsOf, Ascend, IsInSome, IsLostRun}
use Rattle.mt_gran.proofs.Counts.{lost_by, mark_of}

module _ (m : TypedPages) (g : ℕ) where
  -- all parts from a page on
  record Are (from : ℕ) (parts : List Run) : Type 0 where
    each : AllByRecursion (IsLostRun m g) parts
    in_order : Ascend from parts
    all : (page : ℕ) → from ≤ page → page < m.count → (t : MemType) → loses m g t page ≡ true → IsInSome page parts

  above : (from page : ℕ) (parts : List Run) → AllByRecursion (IsLostRun m g) parts → Ascend from parts → IsInSome page parts → from ≤ page
  above from page [] each order is = absurd is
  above from page (r ∷ rs) each order (inl here) = omega (arith, order.0, here.0)
  above from page (r ∷ rs) each order (inr later) = let h = above (run_end r) page rs each.1 order.1 later in omega (arith, h, order.0)

  from_first : (r : Run) (rs : List Run) (from page : ℕ) → Are from (r ∷ rs) → IsInSome page (r ∷ rs) → r.first ≤ page
  from_first r rs from page are (inl here) = here.0
  from_first r rs from page are (inr later) = let h = above (run_end r) page rs are.each.1 are.in_order.1 later in omega (arith, h)

  lost_first : (r : Run) → (part : IsLostRun m g r) → loses m g part.type r.first ≡ true
  lost_first r part = part.pages r.first (omega arith, omega (arith, part.some))

  no_later : (from : ℕ) (r s : Run) (rs ss : List Run) → Are from (r ∷ rs) → Are from (s ∷ ss) → s.first ≤ r.first
  no_later from r s rs ss left right =
      let part = left.each.0 in
      from_first s ss from r.first right
      (right.all r.first (omega (arith, left.in_order.0)) (omega (arith, part.within, part.some)) part.type (lost_first r part))

  one_type : (page : ℕ) (t u : MemType) → loses m g t page ≡ true → loses m g u page ≡ true → Kind t ≡ Kind u
  one_type page t u left right =
      sym (lost_by m g page (Kind t) (mark_of m g t page left)).kind ∙ (lost_by m g page (Kind u) (mark_of m g u page right)).kind

  same_type : (t u : MemType) → Kind t ≡ Kind u → t ≡ u
  same_type t u e = cc

  no_longer : (r s : Run) → (part : IsLostRun m g r) → (other : IsLostRun m g s) → r.first ≡ s.first → part.type ≡ other.type → run_end s ≤ run_end r
  no_longer r s part other first type = elim (cases_lt (run_end r) (run_end s)) [
    | inr within ↦ within
    | inl longer ↦
        let lost : loses m g other.type (run_end r) ≡ true = other.pages (run_end r) (omega (arith, first), longer) in
        let none : loses m g part.type (run_end r) ≡ false = part.behind (omega (arith, longer, other.within)) in
        absurd (both_ways (loses m g other.type (run_end r)) (ap (λ t. loses m g t (run_end r)) (sym type) ∙ none) lost)
  ]

  later_parts : (from : ℕ) (r : Run) (rs : List Run) → Are from (r ∷ rs) → Are (run_end r) rs
  later_parts from r rs are = record {
    each = are.each.1;
    in_order = are.in_order.1;
    all = λ page low below t lost. later page low (are.all page (omega (arith, are.in_order.0, low)) below t lost);
  }
    where
      later : (page : ℕ) → run_end r ≤ page → IsInSome page (r ∷ rs) → IsInSome page rs
      later page low (inl here) = absurd (omega (arith, low, here.1))
      later page low (inr there) = there

  same_run : (r s : Run) → r.first ≡ s.first → r.count ≡ s.count → r.kind ≡ s.kind → r ≡ s
  same_run r s first count kind = λ i. record { first = first i; count = count i; kind = kind i }

  one : (from : ℕ) (rs ss : List Run) → Are from rs → Are from ss → rs ≡ ss
  one from [] [] left right = refl
  one from [] (s ∷ ss) left right =
      let part = right.each.0 in
      absurd (left.all s.first right.in_order.0 (omega (arith, part.within, part.some)) part.type (lost_first s part))
  one from (r ∷ rs) [] left right =
      let part = left.each.0 in
      absurd (right.all r.first left.in_order.0 (omega (arith, part.within, part.some)) part.type (lost_first r part))
  one from (r ∷ rs) (s ∷ ss) left right =
      let part = left.each.0 in
      let other = right.each.0 in
      let first : r.first ≡ s.first = omega (arith, no_later from r s rs ss left right, no_later from s r ss rs right left) in
      let kinds : Kind part.type ≡ Kind other.type = one_type r.first part.type other.type (lost_first r part) (subst (λ (n : ℕ). loses m g other.type n ≡ true) (sym first) (lost_first s other)) in
      let type : part.type ≡ other.type = same_type part.type other.type kinds in
      let ends : run_end r ≡ run_end s = omega (arith, no_longer r s part other first type, no_longer s r other part (sym first) (sym type)) in
      let head : r ≡ s = same_run r s first (omega (arith, first, ends)) (part.kind ∙ kinds ∙ sym other.kind) in
      let tail : rs ≡ ss = one (run_end r) rs ss (later_parts from r rs left) (subst (λ (n : ℕ). Are n ss) (sym ends) (later_parts from s ss right)) in
      ap (λ (x : Run). x ∷ rs) head ∙ ap (λ (l : List Run). s ∷ l) tail

  of_parts : (parts : List Run) → ArePartsOf m g parts → Are 0 parts
  of_parts parts are = record { each = are.each; in_order = are.in_order; all = λ page low below t lost. are.all page below t lost }

pub one_list : (m : TypedPages) (g : ℕ) (a b : List Run) → ArePartsOf m g a → ArePartsOf m g b → a ≡ b
one_list m g a b left right = one m g 0 a b (of_parts m g a left) (of_parts m g b right)
