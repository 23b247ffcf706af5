-- Nothing is found in a file if and only if it is accepted.
use Rattle.std.proofs.Common.{◌≡◌, ℕ, ◌≤◌, List, [], ◌∷◌, Option, Some, None, refl, sym, subst, arith}
use Rattle.std.specs.Prelude.{MatchOption, if◌then◌else◌}
use Rattle.arrayvec.specs.ArrayVec.{ArrayVec}
use Rattle.mt_regs.specs.declared.fault.Fault.{Fault}
use Rattle.mt_regs.specs.declared.page_type.PageType.{PageType}
use Rattle.mt_regs.specs.declared.page_type.PageType.TheVariants.{Kind, Undefined}
use Rattle.mt_regs.specs.RegisterFile.{RegisterFile, page_count}
use Rattle.mt_regs.specs.PageTypes.{page_type}
use Rattle.mt_regs.specs.FirstFault.{is_undefined}
use Rattle.mt_regs.specs.Faults.{AreDefined, IsAccepted, register_fault}
use Rattle.mt_explain.specs.declared.span.Span.{Span}
use Rattle.mt_explain.specs.Clashes.{AreClashes, NothingIsFound, clash_mark, numbers}
use Rattle.mt_explain.specs.Pairs.{matching_pairs}
use Rattle.mt_explain.specs.Spans.{AreSpans, span_end}
use Rattle.mt_explain.proofs.Lawful.{lawful_file}

within : {A : Type 0} (marks : ℕ → Option A) (from to : ℕ) (spans : List (Span A)) → AreSpans marks from to spans → from ≤ to
within marks from to [] are = are.0
within marks from to (s ∷ ss) are = let rest = within marks (span_end s) to ss are.5 in omega (arith, are.0, are.2, rest)

module _ (f : RegisterFile) where
  marked : (page : ℕ) (type : PageType) → (if is_undefined type then Some (numbers (matching_pairs f page)) else None) ≡ None → type ≡ Undefined → ⊥
  marked page (Kind t) none is = cc is
  marked page Undefined none is = cc none

  undefined : (page : ℕ) (mark : ArrayVec ℕ) (type : PageType) → (if is_undefined type then Some (numbers (matching_pairs f page)) else None) ≡ Some mark → type ≡ Undefined
  undefined page mark (Kind t) some = cc some
  undefined page mark Undefined some = refl

  defined : AreClashes f [] → AreDefined f
  defined are = λ page below. marked page (page_type f page) (are.1 page (omega arith) below)

  unfound : (clashes : List (Span (ArrayVec ℕ))) → AreClashes f clashes → AreDefined f → clashes ≡ []
  unfound [] are all = refl
  unfound (s ∷ ss) are all =
      let end = within (clash_mark f) (span_end s) (page_count f) ss are.5 in
      absurd (all s.first (omega (arith, are.2, end)) (undefined s.first s.mark (page_type f s.first) (are.3 s.first (omega arith) (omega (arith, are.2)))))

accepted : (f : RegisterFile) → register_fault f ≡ None → AreDefined f → IsAccepted f
accepted f none all = subst (λ (o : Option Fault). MatchOption o (AreDefined f) (λ fault. None ≡ Some fault)) (sym none) all

of_accepted : (f : RegisterFile) → IsAccepted f → (register_fault f ≡ None) × AreDefined f
of_accepted f is = by (register_fault f) refl is
  where
    by : (fault : Option Fault) → register_fault f ≡ fault → MatchOption fault (AreDefined f) (λ fault. None ≡ Some fault) → (register_fault f ≡ None) × AreDefined f
    by None none all = (none, all)
    by (Some fault) some is = cc is

pub nothing_is_found : NothingIsFound
nothing_is_found f clashes are = (
  (λ none. accepted f ((lawful_file f).0 none.0) (defined f (subst (AreClashes f) none.1 are))),
  (λ is. let parts = of_accepted f is in ((lawful_file f).1 parts.0, unfound f clashes are parts.1)),
)
