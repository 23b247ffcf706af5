-- The longest runs of pages that have one mark (own). A page without a mark is in none of them.
--     AreSpans marks from to spans      all such runs from one page up to another, in ascending order
--     marked_pages marks count          how many of the first pages have a mark
use Rattle.std.specs.Prelude.{◌≡◌, ◌≢◌, ℕ, ◌+◌, ◌<◌, ◌≤◌, List, [], ◌∷◌, Option, None, Some, is_some}
use Rattle.mt_gran.specs.Granules.{count_below}
use Rattle.mt_explain.specs.declared.span.Span.{Span}

-- the page after the last
abbrev pub span_end : {A : Type 0} → Span A → ℕ
span_end s = s.first + s.count

-- the pages from one up to another have the mark, or none
abbrev pub HaveMark : {A : Type 0} → (ℕ → Option A) → ℕ → ℕ → Option A → Type 0
HaveMark marks from to mark = (page : ℕ) → from ≤ page → page < to → marks page ≡ mark

-- each page of the run has its mark, and the page behind it, if there is one, hasn't
pub record IsLongest {A : Type 0} (marks : ℕ → Option A) (to : ℕ) (s : Span A) : Type 0 where
  pub pages : HaveMark marks s.first (span_end s) (Some s.mark)
  pub behind : span_end s < to → marks (span_end s) ≢ Some s.mark

-- the first of the runs, if there is one, doesn't go on with the mark where another one ends
abbrev pub EndsBefore : {A : Type 0} → Span A → List (Span A) → Type 0
EndsBefore s [] = Unit {0}
EndsBefore s (t ∷ ts) = span_end s ≡ t.first → s.mark ≢ t.mark

abbrev pub AreSpans : {A : Type 0} → (ℕ → Option A) → ℕ → ℕ → List (Span A) → Type 0
AreSpans marks from to [] = (from ≤ to) × HaveMark marks from to None
AreSpans marks from to (s ∷ ss) =
    (from ≤ s.first) × HaveMark marks from s.first None × (0 < s.count) × HaveMark marks s.first (span_end s) (Some s.mark) × EndsBefore s ss
    × AreSpans marks (span_end s) to ss

unfoldable pub marked_pages : {A : Type 0} → (ℕ → Option A) → ℕ → ℕ
marked_pages marks count = count_below (λ page. is_some (marks page)) count
