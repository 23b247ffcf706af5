-- A register file has one type map.
use Rattle.std.proofs.Common.{◌≡◌, ℕ, suc, ◌<◌, ◌≤◌, List, [], ◌∷◌, refl, sym, ap, ◌∙◌, inl, inr, arith}
use Rattle.std.specs.List.{All}
use Rattle.std.proofs.lemmas.Bool.{cases_lt}
use Rattle.mt_regs.specs.RegisterFile.{RegisterFile}
use Rattle.mt_regs.specs.PageTypes.{page_type}
use Rattle.mt_types.specs.declared.run.Run.{Run}
use Rattle.mt_types.specs.Runs.{HasKind, IsChain, IsRunsOf, NeighboursDiffer, pages_end, run_end}
use Rattle.mt_types.proofs.Chains.{chain_grows}

same_run : (r s : Run) → r.first ≡ s.first → r.count ≡ s.count → r.kind ≡ s.kind → r ≡ s
same_run r s first count kind = λ i. record { first = first i; count = count i; kind = kind i }

-- each run of the list has its types
abbrev pub EachKind : RegisterFile → List Run → Type 0
EachKind f [] = Unit {0}
EachKind f (r ∷ rs) = HasKind f r × EachKind f rs

-- a run that ends before another one of the same first page is followed by a page of its own type
no_earlier : (f : RegisterFile) (from end : ℕ) (r s : Run) (rs : List Run) → IsChain from (r ∷ rs) → s.first ≡ from → run_end r < run_end s → run_end s ≤ end → pages_end (run_end r) rs ≡ end
    → EachKind f (r ∷ rs) → HasKind f s → NeighboursDiffer (r ∷ rs) → r.kind ≡ s.kind → ⊥
no_earlier f from end r s [] chain first shorter within whole kinds kind differ same = omega arith
no_earlier f from end r s (q ∷ rs) chain first shorter within whole kinds kind differ same =
    let begins : q.first ≡ run_end r = chain.2.0 in
    let own : page_type f (run_end r) ≡ q.kind = kinds.1.0 (run_end r) (omega arith, omega (arith, chain.2.1)) in
    let others : page_type f (run_end r) ≡ s.kind = kind (run_end r) (omega (arith, chain.0), shorter) in
    differ.0 (same ∙ sym others ∙ own)

one_map : (f : RegisterFile) (from end : ℕ) (rs ss : List Run) → IsChain from rs → IsChain from ss → pages_end from rs ≡ end → pages_end from ss ≡ end
    → EachKind f rs → EachKind f ss → NeighboursDiffer rs → NeighboursDiffer ss → rs ≡ ss
one_map f from end [] [] = λ left right ends too kinds kinds_too differ differ_too. refl
one_map f from end [] (s ∷ ss) = λ left right ends too kinds kinds_too differ differ_too.
    let h = chain_grows (run_end s) ss right.2 in absurd (omega (arith, right.0, right.1))
one_map f from end (r ∷ rs) [] = λ left right ends too kinds kinds_too differ differ_too.
    let h = chain_grows (run_end r) rs left.2 in absurd (omega (arith, left.0, left.1))
one_map f from end (r ∷ rs) (s ∷ ss) = λ left right ends too kinds kinds_too differ differ_too.
    let grows = chain_grows (run_end r) rs left.2 in
    let grows_too = chain_grows (run_end s) ss right.2 in
    let own : page_type f from ≡ r.kind = kinds.0 from (omega (arith, left.0), omega (arith, left.0, left.1)) in
    let other : page_type f from ≡ s.kind = kinds_too.0 from (omega (arith, right.0), omega (arith, right.0, right.1)) in
    let kind : r.kind ≡ s.kind = sym own ∙ other in
    elim (cases_lt (run_end r) (run_end s)) [
      | inl shorter ↦ absurd (no_earlier f from end r s rs left right.0 shorter (omega arith) ends kinds kinds_too.0 differ kind)
      | inr past ↦ elim (cases_lt (run_end s) (run_end r)) [
        | inl longer ↦ absurd (no_earlier f from end s r ss right left.0 longer (omega arith) too kinds_too kinds.0 differ_too (sym kind))
        | inr level ↦
            let same : run_end r ≡ run_end s = omega arith in
            let head : r ≡ s = same_run r s (left.0 ∙ sym right.0) (omega (arith, left.0, right.0)) kind in
            let tail : rs ≡ ss = one_map f (run_end r) end rs ss left.2 (rw same right.2) ends (rw same too) kinds.1 kinds_too.1 (tail_differ r rs differ) (tail_differ s ss differ_too) in
            ap (λ (x : Run). x ∷ rs) head ∙ ap (λ (l : List Run). s ∷ l) tail
      ]
    ]
  where
    tail_differ : (q : Run) (qs : List Run) → NeighboursDiffer (q ∷ qs) → NeighboursDiffer qs
    tail_differ q [] d = tt
    tail_differ q (p ∷ ps) d = d.1

each_kind : (f : RegisterFile) (rs : List Run) → All (HasKind f) rs → EachKind f rs
each_kind f [] all = tt
each_kind f (r ∷ rs) all = (all 0 r (omega arith), each_kind f rs (λ k d within. all (suc k) d (omega arith)))

pub one_type_map : (f : RegisterFile) (rs ss : List Run) → IsRunsOf f rs → IsRunsOf f ss → rs ≡ ss
one_type_map f rs ss is too =
    one_map f 0 _ rs ss is.map.chain too.map.chain is.whole too.whole (each_kind f rs is.kinds) (each_kind f ss too.kinds) is.map.differ too.map.differ
