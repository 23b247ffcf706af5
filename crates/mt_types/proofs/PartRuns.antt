-- The runs that share a page with a block cover it, and give its pages the types of the map.
use Rattle.std.proofs.Common.{◌≡◌, ℕ, ◌<◌, ◌≤◌, true, false, List, [], ◌∷◌, refl, ap, ◌∙◌, inl, inr, arith}
use Rattle.std.specs.Prelude.{nat_le, nat_lt, IsTrue}
use Rattle.std.specs.List.{filter}
use Rattle.std.proofs.lemmas.Bool.{and_parts, cases_lt, leb-true, ltb-true}
use Rattle.std.proofs.lemmas.Bool.Decides.{nat_tests}
use Rattle.std.proofs.lemmas.Nat.{pow_pos}
use Rattle.mt_ranges.specs.declared.block.Block.{Block}
use Rattle.mt_ranges.specs.Blocks.{block_end, has_page}
use Rattle.mt_types.specs.declared.run.Run.{Run}
use Rattle.mt_types.specs.Runs.{IsChain, kind_at, pages_end, run_end, shares_page}
use Rattle.mt_types.proofs.Parts.{shares, ends_before, begins_past}

-- a chain of runs from some page at or below the block's first up to its end or past it
pub record CoversBlock (b : Block) (part : List Run) : Type 0 where
  pub from : ℕ
  pub low : from ≤ b.first
  pub chain : IsChain from part
  pub high : block_end b ≤ pages_end from part

none_past : (b : Block) (from : ℕ) (runs : List Run) → IsChain from runs → block_end b ≤ from → filter (shares_page b) runs ≡ []
none_past b from [] chain past = refl
none_past b from (r ∷ rs) chain past =
    let test = begins_past b r (omega (arith, chain.0)) in
    rw test (none_past b (run_end r) rs chain.2 (omega (arith, chain.0)))

later_chain : (b : Block) (from : ℕ) (runs : List Run) → IsChain from runs → b.first < from → block_end b ≤ pages_end from runs
    → IsChain from (filter (shares_page b) runs) × (block_end b ≤ pages_end from (filter (shares_page b) runs))
later_chain b from [] chain above high = (tt, high)
later_chain b from (r ∷ rs) chain above high = elim (cases_lt r.first (block_end b)) [
  | inl inner ↦
      let later = later_chain b (run_end r) rs chain.2 (omega (arith, chain.0)) high in
      let test = shares b r (omega (arith, chain.0)) inner in
      rw test ((chain.0, chain.1, later.0), later.1)
  | inr past ↦
      let ends : block_end b ≤ from = omega (arith, chain.0) in
      let none = none_past b from (r ∷ rs) chain ends in
      rw none (tt, ends)
]

pub covers_block : (b : Block) (from : ℕ) (runs : List Run) → IsChain from runs → from ≤ b.first → block_end b ≤ pages_end from runs
    → CoversBlock b (filter (shares_page b) runs)
covers_block b from [] chain low high = absurd (omega (arith, pow_pos b.log))
covers_block b from (r ∷ rs) chain low high = elim (cases_lt b.first (run_end r)) [
  | inl inner ↦
      let test = shares b r inner (omega (arith, chain.0, pow_pos b.log)) in
      let later = later_chain b (run_end r) rs chain.2 inner high in
      let covers : CoversBlock b (r ∷ filter (shares_page b) rs) = record { from = r.first; low = omega (arith, chain.0); chain = (refl, chain.1, later.0); high = later.1 } in
      rw test covers
  | inr past ↦
      let test = ends_before b r past in
      rw test (covers_block b (run_end r) rs chain.2 past high)
]

lt_test : (a b : ℕ) → a < b → nat_lt a b ≡ true
lt_test a b h = grind (arith, nat_tests, h)

not_lt : (a b : ℕ) → b ≤ a → nat_lt a b ≡ false
not_lt a b h = grind (arith, nat_tests, h)

kind_in_part : (b : Block) (from : ℕ) (runs : List Run) (page : ℕ) → IsChain from runs → from ≤ page → b.first ≤ page → page < block_end b
    → kind_at (filter (shares_page b) runs) page ≡ kind_at runs page
kind_in_part b from [] page chain low first end = refl
kind_in_part b from (r ∷ rs) page chain low first end = elim (cases_lt page (run_end r)) [
  | inl inner ↦
      let test = shares b r (omega arith) (omega (arith, chain.0)) in
      let here = lt_test page (run_end r) inner in
      rw (test, here) refl
  | inr past ↦
      let there = not_lt page (run_end r) past in
      let later = kind_in_part b (run_end r) rs page chain.2 past first end in
      elim (cases_lt b.first (run_end r)) [
        | inl inner ↦
            let test = shares b r inner (omega (arith, chain.0)) in
            rw (test, there) later
        | inr before ↦
            let test = ends_before b r before in
            rw (test, there) later
      ]
]

-- the runs that a map lends for a block give its pages the types of the map
pub part_kinds : (b : Block) (runs part : List Run) → IsChain 0 runs → part ≡ filter (shares_page b) runs → (page : ℕ) → IsTrue (has_page b page)
    → kind_at part page ≡ kind_at runs page
part_kinds b runs part chain is page has =
    let bounds = and_parts (nat_le b.first page) (nat_lt page (block_end b)) has in
    ap (λ rs. kind_at rs page) is
    ∙ kind_in_part b 0 runs page chain (omega arith) (leb-true _ _ bounds.0) (ltb-true _ _ bounds.1)
