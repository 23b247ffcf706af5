-- A list is a type map where each run follows the runs before it.
use Rattle.std.proofs.Common.{ℕ, ◌^◌, ◌<◌, ◌≤◌, Option, Some, None, List, [], ◌∷◌, length, arith}
use Rattle.mt_regs.specs.declared.page_type.PageType.{PageType}
use Rattle.mt_types.specs.declared.run.Run.{Run}
use Rattle.mt_types.specs.Runs.{IsChain, IsTypeMap, NeighboursDiffer, pages_end, run_end}
use Rattle.mt_types.specs.Follow.{DiffersFrom, MayStandNext}

-- each run follows the runs before it
abbrev pub AllFollow : ℕ → Option PageType → List Run → Type 0
AllFollow next before [] = Unit {0}
AllFollow next before (r ∷ rs) = MayStandNext next before r × AllFollow (run_end r) (Some r.kind) rs

abbrev pub FirstDiffers : Option PageType → List Run → Type 0
FirstDiffers before [] = Unit {0}
FirstDiffers before (r ∷ rs) = DiffersFrom before r.kind

chain_of : (next : ℕ) (before : Option PageType) (rs : List Run) → AllFollow next before rs → IsChain next rs
chain_of next before [] all = tt
chain_of next before (r ∷ rs) all = (all.0.first, all.0.some, chain_of (run_end r) (Some r.kind) rs all.1)

bound_of : (next : ℕ) (before : Option PageType) (rs : List Run) → next ≤ 2 ^ 40 → AllFollow next before rs → pages_end next rs ≤ 2 ^ 40
bound_of next before [] bound all = bound
bound_of next before (r ∷ rs) bound all = bound_of (run_end r) (Some r.kind) rs all.0.bound all.1

differ_of : (next : ℕ) (before : Option PageType) (rs : List Run) → AllFollow next before rs → NeighboursDiffer rs
differ_of next before [] all = tt
differ_of next before (r ∷ []) all = tt
differ_of next before (r ∷ s ∷ rs) all = (all.1.0.differs, differ_of (run_end r) (Some r.kind) (s ∷ rs) all.1)

pub map_of_all : (rs : List Run) → 0 < length rs → AllFollow 0 None rs → IsTypeMap rs
map_of_all rs some all = record {
  chain = chain_of 0 None rs all;
  some = some;
  bound = bound_of 0 None rs (omega arith) all;
  differ = differ_of 0 None rs all;
}

chain_end : (next : ℕ) (rs : List Run) → IsChain next rs → next ≤ pages_end next rs
chain_end next [] chain = omega arith
chain_end next (r ∷ rs) chain = let h = chain_end (run_end r) rs chain.2 in omega (arith, chain.0)

rest_differs : (r : Run) (rs : List Run) → NeighboursDiffer (r ∷ rs) → FirstDiffers (Some r.kind) rs × NeighboursDiffer rs
rest_differs r [] differ = (tt, tt)
rest_differs r (s ∷ rs) differ = (differ.0, differ.1)

all_of : (next : ℕ) (before : Option PageType) (rs : List Run) → IsChain next rs → pages_end next rs ≤ 2 ^ 40 → NeighboursDiffer rs → FirstDiffers before rs → AllFollow next before rs
all_of next before [] chain bound differ first = tt
all_of next before (r ∷ rs) chain bound differ first =
    let later = rest_differs r rs differ in
    let grows = chain_end (run_end r) rs chain.2 in
    let follows : MayStandNext next before r = record { first = chain.0; some = chain.1; bound = omega arith; differs = first } in
    (follows, all_of (run_end r) (Some r.kind) rs chain.2 bound later.1 later.0)

pub all_of_map : (rs : List Run) → IsTypeMap rs → AllFollow 0 None rs
all_of_map rs map = all_of 0 None rs map.chain map.bound map.differ (free rs)
  where
    free : (rs : List Run) → FirstDiffers None rs
    free [] = tt
    free (r ∷ rs) = tt

-- a map as what all its runs lead to, and what is left of it
pub record LeadsTo (list : List Run) (next : ℕ) (before : Option PageType) (rest : List Run) : Type 0 where
  pub bound : next ≤ 2 ^ 40
  pub down : IsTypeMap list → AllFollow next before rest
  pub up : AllFollow next before rest → IsTypeMap list

pub leads_start : (list : List Run) → 0 < length list → LeadsTo list 0 None list
leads_start list some = record { bound = omega arith; down = all_of_map list; up = map_of_all list some }

pub leads_on : (list : List Run) (next : ℕ) (before : Option PageType) (r : Run) (rs : List Run) → LeadsTo list next before (r ∷ rs) → MayStandNext next before r
    → LeadsTo list (run_end r) (Some r.kind) rs
leads_on list next before r rs leads follows = record {
  bound = follows.bound;
  down = λ map. (leads.down map).1;
  up = λ later. leads.up (follows, later);
}
