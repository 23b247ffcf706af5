-- A register file has a type map: page after page from the last one down.
use Rattle.std.proofs.Common.{◌≡◌, ◌≢◌, ℕ, zero, suc, ◌+◌, ◌-◌, ◌<◌, ◌≤◌, ◌==◌, List, [], ◌∷◌, length, refl, sym, ap, subst, ◌∙◌, inl, inr, arith}
use Rattle.std.specs.Prelude.{◌⊎◌}
use Rattle.std.specs.List.{All}
use Rattle.std.proofs.lemmas.Bool.{cases_Bool, eqb-true, eq-eqb}
use Rattle.std.proofs.lemmas.Nat.{pow_pos}
use Rattle.mt_kinds.specs.declared.mem_type.MemType.TheVariants.{UC, WC, WT, WP, WB}
use Rattle.mt_regs.specs.declared.page_type.PageType.{PageType}
use Rattle.mt_regs.specs.declared.page_type.PageType.TheVariants.{Kind, Undefined}
use Rattle.mt_regs.specs.RegisterFile.{IsRegisterFile, RegisterFile, page_count}
use Rattle.mt_regs.specs.PageTypes.{page_type}
use Rattle.mt_regs.proofs.Powers.{few_pages}
use Rattle.mt_types.specs.declared.run.Run.{Run}
use Rattle.mt_types.specs.Runs.{HasKind, IsChain, IsRunsOf, NeighboursDiffer, pages_end, run_end}
use Rattle.mt_types.proofs.OneMap.{EachKind}

rank : PageType → ℕ
rank (Kind UC) = 0
rank (Kind WC) = 1
rank (Kind WT) = 2
rank (Kind WP) = 3
rank (Kind WB) = 4
rank Undefined = 5

from_rank : ℕ → PageType
from_rank zero = Kind UC
from_rank (suc zero) = Kind WC
from_rank (suc (suc zero)) = Kind WT
from_rank (suc (suc (suc zero))) = Kind WP
from_rank (suc (suc (suc (suc zero)))) = Kind WB
from_rank (suc (suc (suc (suc (suc n))))) = Undefined

back : (kind : PageType) → from_rank (rank kind) ≡ kind
unfolding rank from_rank
back (Kind UC) = refl
back (Kind WC) = refl
back (Kind WT) = refl
back (Kind WP) = refl
back (Kind WB) = refl
back Undefined = refl

pub same_or_not : (a b : PageType) → (a ≡ b) ⊎ (a ≢ b)
same_or_not a b = elim (cases_Bool (rank a == rank b)) [
  | inl same ↦ inl (sym (back a) ∙ ap from_rank (eqb-true (rank a) (rank b) same) ∙ back b)
  | inr differ ↦ inr (λ e. let test = eq-eqb (rank a) (rank b) (ap rank e) in cc (sym differ ∙ test))
]

-- the type map of the pages from one on
record IsMapFrom (f : RegisterFile) (from end : ℕ) (runs : List Run) : Type 0 where
  pub some : 0 < length runs
  pub chain : IsChain from runs
  pub ends : pages_end from runs ≡ end
  pub kinds : EachKind f runs
  pub differ : NeighboursDiffer runs

one_page : (f : RegisterFile) (from : ℕ) → IsMapFrom f from (from + 1) (record { first = from; count = 1; kind = page_type f from } ∷ [])
one_page f from = record {
  some = omega arith;
  chain = (refl, omega arith, tt);
  ends = refl;
  kinds = (λ page has. let e : page ≡ from = omega (arith, has.0, has.1) in ap (page_type f) e, tt);
  differ = tt;
}

grown : ℕ → Run → Run
grown from r = record { first = from; count = r.count + 1; kind = r.kind }

grown_differ : (from : ℕ) (r : Run) (rs : List Run) → NeighboursDiffer (r ∷ rs) → NeighboursDiffer (grown from r ∷ rs)
unfolding grown
grown_differ from r [] d = tt
grown_differ from r (q ∷ qs) d = d

one_more : (f : RegisterFile) (from end : ℕ) (runs : List Run) → IsMapFrom f (from + 1) end runs → (more : List Run) × IsMapFrom f from end more
unfolding grown
one_more f from end [] is = absurd (omega (arith, is.some))
one_more f from end (r ∷ rs) is =
    let begins : r.first ≡ from + 1 = is.chain.0 in
    elim (same_or_not (page_type f from) r.kind) [
      | inl same ↦
          let level : run_end (grown from r) ≡ run_end r = omega arith in (
            grown from r ∷ rs,
            record {
              some = omega arith;
              chain = (refl, omega arith, rw level is.chain.2);
              ends = rw level is.ends;
              kinds = (λ page has. by_page page has same begins, is.kinds.1);
              differ = grown_differ from r rs is.differ;
            },
          )
      | inr differ ↦ (
        record { first = from; count = 1; kind = page_type f from } ∷ r ∷ rs,
        record {
          some = omega arith;
          chain = (refl, omega arith, is.chain);
          ends = is.ends;
          kinds = (λ page has. let e : page ≡ from = omega (arith, has.0, has.1) in ap (page_type f) e, is.kinds);
          differ = (differ, is.differ);
        },
      )
    ]
  where
    by_page : (page : ℕ) → (from ≤ page) × (page < from + (r.count + 1)) → page_type f from ≡ r.kind → r.first ≡ from + 1 → page_type f page ≡ r.kind
    by_page page has same begins = elim (cases_Bool (page == from)) [
      | inl here ↦ let e : page ≡ from = eqb-true page from here in ap (page_type f) e ∙ same
      | inr past ↦
          let apart : page ≢ from = λ e. let test = eq-eqb page from e in cc (sym past ∙ test) in
          is.kinds.0 page (omega (arith, has.0), omega (arith, has.1))
    ]

map_from : (f : RegisterFile) (count from end : ℕ) → from + suc count ≡ end → (runs : List Run) × IsMapFrom f from end runs
map_from f zero from end is =
    let e : from + 1 ≡ end = omega arith in
    (_, subst (λ n. IsMapFrom f from n (record { first = from; count = 1; kind = page_type f from } ∷ [])) e (one_page f from))
map_from f (suc count) from end is = let (runs, map) = map_from f count (from + 1) end (omega arith) in one_more f from end runs map

each_has : (f : RegisterFile) (runs : List Run) → EachKind f runs → All (HasKind f) runs
each_has f [] kinds k d within = absurd (omega arith)
each_has f (r ∷ rs) kinds zero d within = kinds.0
each_has f (r ∷ rs) kinds (suc k) d within = each_has f rs kinds.1 k d (omega arith)

pub a_type_map : (f : RegisterFile) → IsRegisterFile f → (runs : List Run) × IsRunsOf f runs
a_type_map f is =
    let some : 0 < page_count f = pow_pos (f.width - 12) in
    let (runs, map) = map_from f (page_count f - 1) 0 (page_count f) (omega arith) in (
      runs,
      record {
        map = record { chain = map.chain; some = map.some; bound = omega (arith, map.ends, few_pages f.width is.narrow); differ = map.differ };
        whole = map.ends;
        kinds = each_has f runs map.kinds;
      },
    )
