-- The runs of a file's type map that are left.
use Rattle.std.proofs.Common.{◌≡◌, ◌≢◌, ℕ, suc, ◌+◌, ◌<◌, ◌≤◌, List, [], ◌∷◌, length, Option, drop, drop-cons, get_or, refl, sym, ap, ◌∙◌, arith, subst}
use Rattle.std.specs.List.{All}
use Rattle.std.proofs.lemmas.List.{drop_all}
use Rattle.mt_kinds.specs.declared.mem_type.MemType.{MemType}
use Rattle.mt_regs.specs.declared.page_type.PageType.{PageType}
use Rattle.mt_regs.specs.declared.page_type.PageType.TheVariants.{Kind, Undefined}
use Rattle.mt_regs.specs.RegisterFile.{RegisterFile, page_count}
use Rattle.mt_regs.specs.PageTypes.{page_type}
use Rattle.mt_regs.specs.Faults.{IsAccepted}
use Rattle.mt_types.specs.declared.run.Run.{Run}
use Rattle.mt_types.specs.Runs.{HasKind, IsChain, IsRunsOf, NeighboursDiffer, pages_end, run_end}
use Rattle.mt_types.proofs.Chains.{chain_grows}
use Rattle.mt_types.proofs.Reading.{no_undefined}
use Rattle.mt_gran.specs.Marks.{AreRunsOf, IsWholeRun}
use Rattle.mt_gran.proofs.RunsOf.{no_pages}

-- from a page on, all runs of the type map
abbrev pub IsRest : RegisterFile → ℕ → List Run → Type 0
IsRest f from [] = from ≡ page_count f
IsRest f from (r ∷ rs) = (r.first ≡ from) × IsWholeRun f r × IsRest f (run_end r) rs

-- the page before has another type than the first of the runs
abbrev BeginsAfter : RegisterFile → ℕ → List Run → Type 0
BeginsAfter f from [] = Unit {0}
BeginsAfter f from (r ∷ rs) = (page : ℕ) → suc page ≡ from → page_type f page ≢ r.kind

pub defined : (k : PageType) → k ≢ Undefined → (t : MemType) × (k ≡ Kind t)
defined (Kind t) is = (t, refl)
defined Undefined is = absurd (is refl)

rest_from : (f : RegisterFile) → IsAccepted f → (from : ℕ) (rs : List Run) → IsChain from rs → NeighboursDiffer rs → All (HasKind f) rs → pages_end from rs ≡ page_count f → BeginsAfter f from rs
    → IsRest f from rs
rest_from f accepted from [] chain differ kinds ends after = ends
rest_from f accepted from (r ∷ []) chain differ kinds ends after =
    let begins : r.first ≡ from = chain.0 in
    let first : page_type f r.first ≡ r.kind = kinds 0 r (omega arith) r.first (omega arith, omega (arith, chain.1)) in
    let type = defined r.kind (λ e. no_undefined f accepted r.first (omega (arith, ends, chain.1)) (first ∙ e)) in (
      begins,
      record {
        type = type.0;
        kind = type.1;
        some = chain.1;
        within = omega (arith, ends);
        pages = kinds 0 r (omega arith);
        before = λ page one. after page (one ∙ begins);
        behind = λ below. absurd (omega (arith, below, ends));
      },
      ends,
    )
rest_from f accepted from (r ∷ s ∷ rs) chain differ kinds ends after =
    let begins : r.first ≡ from = chain.0 in
    let grows = chain_grows (run_end s) rs chain.2.2 in
    let here : All (HasKind f) (s ∷ rs) = λ k d within. kinds (suc k) d (omega arith) in
    let first : page_type f r.first ≡ r.kind = kinds 0 r (omega arith) r.first (omega arith, omega (arith, chain.1)) in
    let next : page_type f s.first ≡ s.kind = kinds 1 r (omega arith) s.first (omega arith, omega (arith, chain.2.1)) in
    let meets : s.first ≡ run_end r = chain.2.0 in
    let type = defined r.kind (λ e. no_undefined f accepted r.first (omega (arith, ends, chain.1, chain.2, grows)) (first ∙ e)) in (
      begins,
      record {
        type = type.0;
        kind = type.1;
        some = chain.1;
        within = omega (arith, ends, chain.2, grows);
        pages = kinds 0 r (omega arith);
        before = λ page one. after page (one ∙ begins);
        behind = λ below same. differ.0 (sym same ∙ ap (page_type f) (sym meets) ∙ next);
      },
      rest_from f accepted (run_end r) (s ∷ rs) chain.2 differ.1 here ends
          (λ page one same. differ.0 (sym (kinds 0 r (omega arith) page (omega (arith, one, chain.1), omega (arith, one))) ∙ same)),
    )

pub rest_of : (f : RegisterFile) → IsAccepted f → (runs : List Run) → IsRunsOf f runs → IsRest f 0 runs
rest_of f accepted runs are = rest_from f accepted 0 runs are.map.chain are.map.differ are.kinds are.whole (after runs)
  where
    after : (rs : List Run) → BeginsAfter f 0 rs
    after [] = tt
    after (r ∷ rs) = λ page one. absurd (omega (arith, one))

-- what runs of marks up to some page lead to, with the runs that are left
pub record Goes (f : RegisterFile) (marks : ℕ → Option PageType) (rest list : List Run) : Type 0 where
  pub from : ℕ
  pub is_rest : IsRest f from rest
  pub runs : AreRunsOf marks 0 from list

pub goes_start : (f : RegisterFile) (marks : ℕ → Option PageType) → IsAccepted f → (runs : List Run) → IsRunsOf f runs → Goes f marks runs []
goes_start f marks accepted runs are = record {
  from = 0;
  is_rest = rest_of f accepted runs are;
  runs = (omega arith, λ page low high. absurd (omega arith));
}

-- the run at a place, where a loop has come to it
module _ (f : RegisterFile) (marks : ℕ → Option PageType) (own items list : List Run) (i : ℕ) (same : items ≡ own) (goes : Goes f marks (drop i own) list) where
  at : (d : Run) → i < length items → Goes f marks (get_or items i d ∷ drop (i + 1) own) list
  at d within =
      let inside : i < length own = omega (arith, within, ap (λ (xs : List Run). length xs) same) in
      let next : suc i ≡ i + 1 = omega arith in
      let e : drop i own ≡ get_or items i d ∷ drop (i + 1) own =
      drop-cons own i d inside ∙ ap (λ (n : ℕ). get_or own i d ∷ drop n own) next ∙ ap (λ (xs : List Run). get_or xs i d ∷ drop (i + 1) own) (sym same) in
      subst (λ (rs : List Run). Goes f marks rs list) e goes

  run_at : (d : Run) → i < length items → IsWholeRun f (get_or items i d)
  run_at d within = (at d within).is_rest.1

  before_at : (d : Run) → i < length items → AreRunsOf marks 0 (get_or items i d).first list
  before_at d within = let here = at d within in no_pages marks 0 here.from (get_or items i d).first list (sym here.is_rest.0) here.runs

  next_at : (d : Run) (new : List Run) → i < length items → AreRunsOf marks 0 (run_end (get_or items i d)) new → Goes f marks (drop (i + 1) own) new
  next_at d new within are = record { from = run_end (get_or items i d); is_rest = (at d within).is_rest.2; runs = are }

  at_end : length items ≤ i → AreRunsOf marks 0 (page_count f) list
  at_end past =
      let none : drop i own ≡ [] = drop_all i own (omega (arith, past, ap (λ (xs : List Run). length xs) same)) in
      let last = subst (λ (rs : List Run). Goes f marks rs list) none goes in
      no_pages marks 0 last.from (page_count f) list last.is_rest last.runs

pub whole_run : (f : RegisterFile) (marks : ℕ → Option PageType) (own items list : List Run) (i : ℕ) → items ≡ own → Goes f marks (drop i own) list → (d : Run) → i < length items
    → IsWholeRun f (get_or items i d)
whole_run = run_at

pub runs_before : (f : RegisterFile) (marks : ℕ → Option PageType) (own items list : List Run) (i : ℕ) → items ≡ own → Goes f marks (drop i own) list → (d : Run) → i < length items
    → AreRunsOf marks 0 (get_or items i d).first list
runs_before = before_at

pub goes_on : (f : RegisterFile) (marks : ℕ → Option PageType) (own items list : List Run) (i : ℕ) → items ≡ own → Goes f marks (drop i own) list → (d : Run) (new : List Run) → i < length items
    → AreRunsOf marks 0 (run_end (get_or items i d)) new → Goes f marks (drop (i + 1) own) new
goes_on = next_at

pub goes_end : (f : RegisterFile) (marks : ℕ → Option PageType) (own items list : List Run) (i : ℕ) → items ≡ own → Goes f marks (drop i own) list → length items ≤ i → AreRunsOf marks 0 (page_count f) list
goes_end = at_end
