-- Longest runs of marks grow at their end.
use Rattle.std.proofs.Common.{◌≡◌, ◌≢◌, ℕ, ◌+◌, ◌-◌, ◌<◌, ◌≤◌, List, [], ◌∷◌, ◌++◌, Option, Some, None, sym, ap, ◌∙◌, inl, inr, arith}
use Rattle.std.proofs.lemmas.Bool.{cases_lt}
use Rattle.mt_regs.specs.declared.page_type.PageType.{PageType}
use Rattle.mt_types.specs.declared.run.Run.{Run}
use Rattle.mt_types.specs.Runs.{run_end}
use Rattle.mt_gran.specs.Marks.{AreRunsOf, HaveMark}

pub both_have : (marks : ℕ → Option PageType) (from to end : ℕ) (mark : Option PageType) → HaveMark marks from to mark → HaveMark marks to end mark → HaveMark marks from end mark
both_have marks from to end mark first second page low high = elim (cases_lt page to) [
  | inl inner ↦ first page low inner
  | inr outer ↦ second page outer high
]

-- pages without a mark
pub pass : (marks : ℕ → Option PageType) (from to end : ℕ) (runs : List Run) → to ≤ end → AreRunsOf marks from to runs → HaveMark marks to end None → AreRunsOf marks from end runs
pass marks from to end [] order are none = (omega (arith, are.0), both_have marks from to end None are.1 none)
pass marks from to end (r ∷ rs) order are none = (are.0, are.1, are.2, are.3, are.4, pass marks (run_end r) to end rs order are.5 none)

pub first_run : (marks : ℕ → Option PageType) (from to end : ℕ) (kind : PageType) → AreRunsOf marks from to [] → to < end → HaveMark marks to end (Some kind)
    → AreRunsOf marks from end (record { first = to; count = end - to; kind = kind } ∷ [])
first_run marks from to end kind are order have = (
  are.0,
  are.1,
  omega arith,
  λ page low high. have page low (omega arith),
  tt,
  (omega arith, λ page low high. absurd (omega arith)),
)

-- a run behind the last one, which ends before or has another type
pub next_run : (marks : ℕ → Option PageType) (from to end : ℕ) (kind : PageType) (front : List Run) (last : Run) → AreRunsOf marks from to (front ++ last ∷ []) → to < end
    → HaveMark marks to end (Some kind) → (run_end last ≡ to → last.kind ≢ kind)
    → AreRunsOf marks from end ((front ++ last ∷ []) ++ record { first = to; count = end - to; kind = kind } ∷ [])
next_run marks from to end kind [] last are order have apart =
    (are.0, are.1, are.2, are.3, apart, first_run marks (run_end last) to end kind are.5 order have)
next_run marks from to end kind (x ∷ []) last are order have apart =
    (are.0, are.1, are.2, are.3, are.4, next_run marks (run_end x) to end kind [] last are.5 order have apart)
next_run marks from to end kind (x ∷ y ∷ ys) last are order have apart =
    (are.0, are.1, are.2, are.3, are.4, next_run marks (run_end x) to end kind (y ∷ ys) last are.5 order have apart)

-- the last run gets longer
pub longer_run : (marks : ℕ → Option PageType) (from to end : ℕ) (kind : PageType) (front : List Run) (last : Run) → AreRunsOf marks from to (front ++ last ∷ []) → to ≤ end
    → HaveMark marks to end (Some kind) → run_end last ≡ to → last.kind ≡ kind
    → AreRunsOf marks from end (front ++ record { first = last.first; count = last.count + (end - to); kind = kind } ∷ [])
longer_run marks from to end kind [] last are order have ends same = (
  are.0,
  are.1,
  omega (arith, are.2),
  λ page low high. elim (cases_lt page (run_end last)) [
    | inl inner ↦ are.3 page low inner ∙ ap (λ (k : PageType). Some k) same
    | inr outer ↦ have page (omega (arith, outer, ends)) (omega (arith, high, ends, order))
  ],
  tt,
  (omega (arith, ends, order), λ page low high. absurd (omega (arith, low, high, ends, order))),
)
longer_run marks from to end kind (x ∷ []) last are order have ends same =
    (are.0, are.1, are.2, are.3, λ meets e. are.4 meets (e ∙ sym same), longer_run marks (run_end x) to end kind [] last are.5 order have ends same)
longer_run marks from to end kind (x ∷ y ∷ ys) last are order have ends same =
    (are.0, are.1, are.2, are.3, are.4, longer_run marks (run_end x) to end kind (y ∷ ys) last are.5 order have ends same)

pub last_ends : (marks : ℕ → Option PageType) (from to : ℕ) (front : List Run) (last : Run) → AreRunsOf marks from to (front ++ last ∷ []) → run_end last ≤ to
last_ends marks from to [] last are = are.5.0
last_ends marks from to (x ∷ xs) last are = last_ends marks (run_end x) to xs last are.5

pub no_pages : (marks : ℕ → Option PageType) (from to end : ℕ) (runs : List Run) → to ≡ end → AreRunsOf marks from to runs → AreRunsOf marks from end runs
no_pages marks from to end runs same are = pass marks from to end runs (omega arith) are (λ page low high. absurd (omega arith))

pub ends_later : (marks : ℕ → Option PageType) (from to : ℕ) (runs : List Run) → AreRunsOf marks from to runs → from ≤ to
ends_later marks from to [] are = are.0
ends_later marks from to (r ∷ rs) are = let h = ends_later marks (run_end r) to rs are.5 in omega (arith, h, are.0)
