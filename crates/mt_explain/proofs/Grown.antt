-- Longest runs of marks grow at their end.
use Rattle.std.proofs.Common.{◌≡◌, ◌≢◌, ℕ, suc, ◌-◌, ◌<◌, ◌≤◌, List, [], ◌∷◌, ◌++◌, Option, Some, None, sym, ap, ◌∙◌, inl, inr, arith}
use Rattle.std.proofs.lemmas.Bool.{cases_lt}
use Rattle.mt_explain.specs.declared.span.Span.{Span}
use Rattle.mt_explain.specs.Spans.{AreSpans, HaveMark, IsLongest, span_end}

pub both_have : {A : Type 0} (marks : ℕ → Option A) (from to end : ℕ) (mark : Option A) → HaveMark marks from to mark → HaveMark marks to end mark → HaveMark marks from end mark
both_have marks from to end mark first second page low high = elim (cases_lt page to) [
  | inl inner ↦ first page low inner
  | inr outer ↦ second page outer high
]

-- pages without a mark
pass : {A : Type 0} (marks : ℕ → Option A) (from to end : ℕ) (spans : List (Span A)) → to ≤ end → AreSpans marks from to spans → HaveMark marks to end None → AreSpans marks from end spans
pass marks from to end [] order are none = (omega (arith, are.0), both_have marks from to end None are.1 none)
pass marks from to end (s ∷ ss) order are none = (are.0, are.1, are.2, are.3, are.4, pass marks (span_end s) to end ss order are.5 none)

-- a run that begins where the others end, and has another mark than the page before it
push : {A : Type 0} (marks : ℕ → Option A) (from to : ℕ) (spans : List (Span A)) (s : Span A) → AreSpans marks from to spans → s.first ≡ to → 0 < s.count
    → HaveMark marks s.first (span_end s) (Some s.mark) → ((page : ℕ) → suc page ≡ to → marks page ≢ Some s.mark) → AreSpans marks from (span_end s) (spans ++ s ∷ [])
push marks from to [] s are is some have fresh = (
  omega (arith, are.0, is),
  λ page low high. are.1 page low (omega (arith, is)),
  some,
  have,
  tt,
  (omega arith, λ page low high. absurd (omega arith)),
)
push marks from to (r ∷ []) s are is some have fresh = (
  are.0,
  are.1,
  are.2,
  are.3,
  λ meets same. fresh (to - 1) (omega (arith, are.2, meets, is)) (are.3 (to - 1) (omega (arith, are.2, meets, is)) (omega (arith, are.2, meets, is)) ∙ ap (λ m. Some m) same),
  push marks (span_end r) to [] s are.5 is some have fresh,
)
push marks from to (r ∷ q ∷ qs) s are is some have fresh = (are.0, are.1, are.2, are.3, are.4, push marks (span_end r) to (q ∷ qs) s are.5 is some have fresh)

-- the runs up to a page, whose mark, if it has one, isn't the mark of the page before it
pub record IsGrown {A : Type 0} (marks : ℕ → Option A) (to : ℕ) (spans : List (Span A)) (next : ℕ) : Type 0 where
  pub are : AreSpans marks 0 next spans
  pub bound : next ≤ to
  pub fresh : next < to → (page : ℕ) (m : A) → suc page ≡ next → marks next ≡ Some m → marks page ≢ Some m

pub grown_start : {A : Type 0} (marks : ℕ → Option A) (to : ℕ) → IsGrown marks to [] 0
grown_start marks to = record {
  are = (omega arith, λ page low high. absurd (omega arith));
  bound = omega arith;
  fresh = λ within page m one. absurd (omega (arith, one));
}

apart : {A : Type 0} (m : A) → None ≡ Some m → ⊥
apart m e = cc e

-- pages without a mark behind them
pub grown_past : {A : Type 0} (marks : ℕ → Option A) (to : ℕ) (spans : List (Span A)) (page next : ℕ) → IsGrown marks to spans page → page < next → next ≤ to → HaveMark marks page next None
    → IsGrown marks to spans next
grown_past marks to spans page next grown above bound none = record {
  are = pass marks 0 page next spans (omega (arith, above)) grown.are none;
  bound = bound;
  fresh = λ within before m one marked same. apart m (sym (none before (omega (arith, above, one)) (omega (arith, one))) ∙ same);
}

-- one more run
pub grown_next : {A : Type 0} (marks : ℕ → Option A) (to : ℕ) (spans : List (Span A)) (s : Span A) (page : ℕ) → IsGrown marks to spans page → page < to → s.first ≡ page → 0 < s.count
    → IsLongest marks to s → span_end s ≤ to → IsGrown marks to (spans ++ s ∷ []) (span_end s)
grown_next marks to spans s page grown within is some longest bound = record {
  are = push marks 0 page spans s grown.are is some longest.pages (λ before one same. grown.fresh within before s.mark one here same);
  bound = bound;
  fresh = λ inside before m one marked same. longest.behind inside (marked ∙ sym same ∙ longest.pages before (omega (arith, one, some)) (omega (arith, one)));
}
  where
    here : marks page ≡ Some s.mark
    here = longest.pages page (omega (arith, is)) (omega (arith, is, some))
