-- Longest runs of rounded types over all pages are a type map.
use Rattle.std.proofs.Common.{◌≡◌, ℕ, suc, ◌^◌, ◌<◌, ◌≤◌, true, false, List, [], ◌∷◌, length, Some, None, sym, inl, inr, arith}
use Rattle.std.specs.Prelude.{nat_lt}
use Rattle.std.specs.List.{All, AllByRecursion}
use Rattle.std.proofs.lemmas.Bool.{cases_lt, le-ltb, lt-ltb}
use Rattle.std.proofs.lemmas.List.Elements.{All-from_recursion}
use Rattle.mt_regs.specs.declared.page_type.PageType.{PageType}
use Rattle.mt_types.specs.declared.run.Run.{Run}
use Rattle.mt_types.specs.Runs.{IsChain, NeighboursDiffer, kind_at, pages_end, run_end}
use Rattle.mt_gran.specs.Granules.{AreRounded, HasRoundedKind, TypedPages, rounded_kind}
use Rattle.mt_gran.specs.Marks.{AreRunsOf, HaveMark, rounded_mark}

module _ (m : TypedPages) (g : ℕ) where
  gapless : (from first : ℕ) → from ≤ first → HaveMark (rounded_mark m g) from first None → first ≡ from
  gapless from first order none = elim (cases_lt from first) [
    | inl gap ↦ absurd (marked (rounded_kind m g from) (none from (omega arith) gap))
    | inr level ↦ omega arith
  ]
    where
      marked : (k : PageType) → Some k ≡ None → ⊥
      marked k h = cc

  chain : (from to : ℕ) (rs : List Run) → AreRunsOf (rounded_mark m g) from to rs → IsChain from rs
  chain from to [] are = tt
  chain from to (r ∷ rs) are = (gapless from r.first are.0 are.1, are.2, chain (run_end r) to rs are.5)

  ends : (from to : ℕ) (rs : List Run) → AreRunsOf (rounded_mark m g) from to rs → pages_end from rs ≡ to
  ends from to [] are = sym (gapless from to are.0 are.1)
  ends from to (r ∷ rs) are = ends (run_end r) to rs are.5

  differ : (from to : ℕ) (rs : List Run) → AreRunsOf (rounded_mark m g) from to rs → NeighboursDiffer rs
  differ from to [] are = tt
  differ from to (r ∷ []) are = tt
  differ from to (r ∷ s ∷ rs) are = (are.4 (sym (gapless (run_end r) s.first are.5.0 are.5.1)), differ (run_end r) to (s ∷ rs) are.5)

  kinds : (from to : ℕ) (rs : List Run) → AreRunsOf (rounded_mark m g) from to rs → AllByRecursion (HasRoundedKind m g) rs
  kinds from to [] are = tt
  kinds from to (r ∷ rs) are = (λ page has. unmarked (rounded_kind m g page) r.kind (are.3 page has.0 has.1), kinds (run_end r) to rs are.5)
    where
      unmarked : (j k : PageType) → Some j ≡ Some k → j ≡ k
      unmarked j k h = cc

  some : (rs : List Run) → 0 < pages_end 0 rs → 0 < length rs
  some [] h = absurd (omega (arith, h))
  some (r ∷ rs) h = omega arith

  whole_map : (rs : List Run) → 0 < m.count → m.count ≤ 2 ^ 40 → AreRunsOf (rounded_mark m g) 0 m.count rs → AreRounded m g rs
  whole_map rs many few are =
      let end = ends 0 m.count rs are in
      record {
        map = record { chain = chain 0 m.count rs are; some = some rs (omega (arith, end, many)); bound = omega (arith, end, few); differ = differ 0 m.count rs are };
        whole = end;
        kinds = All-from_recursion (HasRoundedKind m g) rs (kinds 0 m.count rs are);
      }

  kind_from : (from : ℕ) (rs : List Run) (page : ℕ) → IsChain from rs → from ≤ page → page < pages_end from rs → All (HasRoundedKind m g) rs → kind_at rs page ≡ rounded_kind m g page
  kind_from from [] page chain low below all = absurd (omega (arith, low, below))
  kind_from from (r ∷ rs) page chain low below all = elim (cases_lt page (run_end r)) [
    | inl inner ↦
        let test : nat_lt page (run_end r) ≡ true = lt-ltb page (run_end r) inner in
        rw test (sym (all 0 r (omega arith) page (omega (arith, chain.0, low), inner)))
    | inr outer ↦
        let test : nat_lt page (run_end r) ≡ false = le-ltb page (run_end r) outer in
        rw test (kind_from (run_end r) rs page chain.2 outer below (λ k d within. all (suc k) d (omega (arith, within))))
  ]

pub rounded_map : (m : TypedPages) (g : ℕ) (rs : List Run) → 0 < m.count → m.count ≤ 2 ^ 40 → AreRunsOf (rounded_mark m g) 0 m.count rs → AreRounded m g rs
rounded_map = whole_map

pub kind_rounded : (m : TypedPages) (g : ℕ) (rs : List Run) (page : ℕ) → AreRounded m g rs → page < m.count → kind_at rs page ≡ rounded_kind m g page
kind_rounded m g rs page are below = kind_from m g 0 rs page are.map.chain (omega arith) (omega (arith, are.whole, below)) are.kinds
