-- The wish of a block, run by run, is the wish of its pages.
use Rattle.std.proofs.Common.{◌≡◌, ◌≢◌, ℕ, ◌^◌, ◌<◌, ◌≤◌, true, false, List, [], ◌∷◌, refl, sym, ap, ◌∙◌, ◌⊎◌, inl, inr, arith, subst}
use Rattle.std.specs.Prelude.{Bool, Option, nat_le, nat_lt, max, min, None, Some, fold}
use Rattle.std.specs.List.{All, AllByRecursion, filter}
use Rattle.std.proofs.lemmas.List.Elements.{All-filter, recursion_from_All}
use Rattle.std.proofs.lemmas.Bool.{cases_Bool, cases_lt, leb-true, ltb-true, ltb-false, lt-ltb, le-leb, le-ltb, and_parts, both_ways, and_from}
use Rattle.mt_kinds.specs.declared.mem_type.MemType.{MemType}
use Rattle.mt_ranges.specs.declared.block.Block.{Block}
use Rattle.mt_ranges.specs.Blocks.{block_end}
use Rattle.mt_regs.specs.declared.page_type.PageType.{PageType}
use Rattle.mt_regs.specs.declared.page_type.PageType.TheVariants.{Kind, Undefined}
use Rattle.mt_types.specs.declared.run.Run.{Run}
use Rattle.mt_types.specs.Runs.{IsChain, kind_at, pages_end, run_end, shares_page}
use Rattle.mt_types.proofs.Chains.{within_chain}
use Rattle.mt_types.proofs.PartRuns.{CoversBlock, covers_block}
use Rattle.mt_trie.specs.declared.wish.Wish.{Wish}
use Rattle.mt_trie.specs.declared.wish.Wish.TheVariants.{Any, Only}
use Rattle.mt_trie.specs.RunWishes.{EndsInTime, first_page, wish_in, wish_over}
use Rattle.mt_trie.specs.Wishes.{InBlock, IsDefined, IsCutFor, IsWish, both, is_free_page, type_of_kind, wanted_type}
use Rattle.mt_trie.proofs.WishLaws.{MakeUp, both_mean, same_pages}

ends_in_time : (runs : List Run) → IsChain 0 runs → pages_end 0 runs ≤ 2 ^ 40 → All EndsInTime runs
ends_in_time runs chain bound k d within = let inner = within_chain 0 runs k d chain within in omega (arith, inner.2, bound)

-- each run of a part ends below the largest number of pages
pub part_in_time : (runs : List Run) (b : Block) → IsCutFor runs b → All EndsInTime runs
part_in_time runs b part =
    let all : All EndsInTime part.map = ends_in_time part.map part.is_map.chain part.is_map.bound in
    subst (λ rs. All EndsInTime rs) (sym part.lent) (All-filter (shares_page b) EndsInTime part.map all)

-- a part of defined runs is defined
pub part_defined : (runs part : List Run) (b : Block) → All IsDefined runs → part ≡ filter (shares_page b) runs → All IsDefined part
part_defined runs part b all is = subst (λ rs. All IsDefined rs) (sym is) (All-filter (shares_page b) IsDefined runs all)

part_covers : (runs : List Run) (b : Block) → IsCutFor runs b → CoversBlock b runs
part_covers runs b part =
    subst (λ rs. CoversBlock b rs) (sym part.lent) (covers_block b 0 part.map part.is_map.chain (omega arith) part.covered)

defined : (kind : PageType) → kind ≢ Undefined → (t : MemType) × (kind ≡ Kind t)
defined (Kind t) is = (t, refl)
defined Undefined is = absurd (is refl)

module _ (fixed : Bool) (runs : List Run) (first end : ℕ) where
  wanted : ℕ → Option MemType
  wanted = wanted_type fixed runs

  start : ℕ
  start = first_page fixed first

  -- a page of the block in a run
  record InRun (from to page : ℕ) : Type 0 where
    above_first : first ≤ page
    below_end : page < end
    above : from ≤ page
    below : page < to

  nothing : (t : MemType) → None ≡ Some t → ⊥
  nothing t e = cc

  same : (t u : MemType) → Some t ≡ Some u → u ≡ t
  same t u e = cc

  free_below : (page : ℕ) → first ≤ page → page < start → is_free_page fixed page ≡ true
  unfolding start
  free_below page above below = split (cases_Bool (is_free_page fixed first))
    where
      split : (is_free_page fixed first ≡ true) ⊎ (is_free_page fixed first ≡ false) → is_free_page fixed page ≡ true
      split (inl e) =
          let low : page < 256 = rw e at below in
          and_from fixed (nat_lt page 256) (and_parts fixed (nat_lt first 256) e).0 (lt-ltb page 256 low)
      split (inr e) =
          let low : page < first = rw e at below in
          absurd (omega (arith, low, above))

  not_free_from : (page : ℕ) → start ≤ page → is_free_page fixed page ≡ false
  unfolding start
  not_free_from page above = split (cases_Bool (is_free_page fixed page)) (cases_Bool (is_free_page fixed first))
    where
      split : (is_free_page fixed page ≡ true) ⊎ (is_free_page fixed page ≡ false) → (is_free_page fixed first ≡ true) ⊎ (is_free_page fixed first ≡ false) → is_free_page fixed page ≡ false
      split (inr e) low = e
      split (inl e) (inl low) =
          let late : 256 ≤ page = rw low at above in
          absurd (omega (arith, late, ltb-true page 256 (and_parts fixed (nat_lt page 256) e).1))
      split (inl e) (inr high) =
          let late : first ≤ page = rw high at above in
          let parts = and_parts fixed (nat_lt page 256) e in
          absurd (both_ways (is_free_page fixed first) high
          (and_from fixed (nat_lt first 256) parts.0 (lt-ltb first 256 (omega (arith, late, ltb-true page 256 parts.1)))))

  start_above : first ≤ start
  unfolding start
  start_above = split (cases_Bool (is_free_page fixed first))
    where
      split : (is_free_page fixed first ≡ true) ⊎ (is_free_page fixed first ≡ false) → first ≤ first_page fixed first
      split (inl e) = rw e (omega (arith, ltb-true first 256 (and_parts fixed (nat_lt first 256) e).1))
      split (inr e) = rw e (omega arith)

  free_wants : (page : ℕ) → is_free_page fixed page ≡ true → wanted page ≡ None
  unfolding wanted
  free_wants page e = rw e refl

  other_wants : (page : ℕ) (t : MemType) → is_free_page fixed page ≡ false → kind_at runs page ≡ Kind t → wanted page ≡ Some t
  unfolding wanted
  other_wants page t e at = rw e (ap type_of_kind at)

  run_means : (r : Run) (t : MemType) → r.kind ≡ Kind t
      → ((page : ℕ) → r.first ≤ page → page < run_end r → kind_at runs page ≡ r.kind)
      → IsWish wanted (InRun r.first (run_end r)) (wish_in start end r)
  run_means r t is at = split (cases_Bool (nat_lt (max r.first start) (min (run_end r) end)))
    where
      split : (nat_lt (max r.first start) (min (run_end r) end) ≡ true) ⊎ (nat_lt (max r.first start) (min (run_end r) end) ≡ false)
          → IsWish wanted (InRun r.first (run_end r)) (wish_in start end r)
      split (inl e) =
          let meet : max r.first start < min (run_end r) end = ltb-true _ _ e in
          let only : IsWish wanted (InRun r.first (run_end r)) (Only t) = (
            λ page p u g. elim (cases_lt page start) [
              | inl low ↦ absurd (nothing u (sym (free_wants page (free_below page p.above_first low)) ∙ g))
              | inr high ↦ same t u (sym (other_wants page t (not_free_from page high) (at page p.above p.below ∙ is)) ∙ g)
            ],
            record {
              page = max r.first start;
              within = record { above_first = omega (arith, start_above); below_end = omega (arith, meet); above = omega arith; below = omega (arith, meet) };
              wants = other_wants (max r.first start) t (not_free_from (max r.first start) (omega arith)) (at (max r.first start) (omega arith) (omega (arith, meet)) ∙ is);
            },
          ) in
          rw (e, is) only
      split (inr e) =
          let apart : min (run_end r) end ≤ max r.first start = ltb-false _ _ e in
          let any : IsWish wanted (InRun r.first (run_end r)) Any =
          λ page p. free_wants page (free_below page p.above_first (omega (arith, apart, p.below_end, p.above, p.below))) in
          rw e any

  run_makes_up : (from to : ℕ) → from ≤ to → MakeUp (InRun 0 from) (InRun from to) (InRun 0 to)
  run_makes_up from to grows = record {
    first = λ page p. record { above_first = p.above_first; below_end = p.below_end; above = p.above; below = omega (arith, p.below) };
    second = λ page p. record { above_first = p.above_first; below_end = p.below_end; above = omega arith; below = p.below };
    each = λ page p. elim (cases_lt page from) [
      | inl low ↦ inl (record { above_first = p.above_first; below_end = p.below_end; above = p.above; below = low })
      | inr high ↦ inr (record { above_first = p.above_first; below_end = p.below_end; above = high; below = p.below })
    ];
  }

  -- the wish of the pages before some runs, carried on over them
  over_means : (from : ℕ) (rest : List Run) (w : Wish) → IsChain from rest → AllByRecursion (λ r. r.kind ≢ Undefined) rest
      → ((page : ℕ) → from ≤ page → kind_at runs page ≡ kind_at rest page)
      → IsWish wanted (InRun 0 from) w → IsWish wanted (InRun 0 (pages_end from rest)) (fold (λ v r. both v (wish_in start end r)) w rest)
  over_means from [] w chain kinds at before = before
  over_means from (r ∷ rs) w chain kinds at before =
      over_means (run_end r) rs (both w (wish_in start end r)) chain.2 kinds.1 later
      (both_mean wanted (InRun 0 from) (InRun from (run_end r)) (InRun 0 (run_end r)) (run_makes_up from (run_end r) (omega (arith, chain.0))) w (wish_in start end r) before here)
    where
      later : (page : ℕ) → run_end r ≤ page → kind_at runs page ≡ kind_at rs page
      later page above = at page (omega (arith, chain.0, above)) ∙ skip (le-ltb page (run_end r) above)
        where
          skip : nat_lt page (run_end r) ≡ false → kind_at (r ∷ rs) page ≡ kind_at rs page
          skip e = rw e refl

      is_here : (page : ℕ) → r.first ≤ page → page < run_end r → kind_at runs page ≡ r.kind
      is_here page above below = at page (omega (arith, chain.0, above)) ∙ found (lt-ltb page (run_end r) below)
        where
          found : nat_lt page (run_end r) ≡ true → kind_at (r ∷ rs) page ≡ r.kind
          found e = rw e refl

      here : IsWish wanted (InRun from (run_end r)) (wish_in start end r)
      here =
          let kind = defined r.kind kinds.0 in
          subst (λ n. IsWish wanted (InRun n (run_end r)) (wish_in start end r)) chain.0 (run_means r kind.0 kind.1 is_here)

  none_before : (from page : ℕ) → from ≤ first → InRun 0 from page → wanted page ≡ None
  none_before from page low p = absurd (omega (arith, low, p.above_first, p.below))

  all_mean : (from : ℕ) → from ≤ first → IsChain from runs → All (λ r. r.kind ≢ Undefined) runs → IsWish wanted (InRun 0 (pages_end from runs)) (wish_over start end runs)
  all_mean from low chain kinds =
      over_means from runs Any chain (recursion_from_All (λ r. r.kind ≢ Undefined) runs kinds) (λ page above. refl) (λ page p. none_before from page low p)

-- the wish that goes over the runs is the wish of the block's pages
pub wish_found : (fixed : Bool) (runs : List Run) (b : Block) (start end : ℕ) (found : Wish) → IsCutFor runs b → All (λ r. r.kind ≢ Undefined) runs
    → start ≡ first_page fixed b.first → end ≡ block_end b → found ≡ wish_over start end runs → IsWish (wanted_type fixed runs) (InBlock b) found
unfolding wanted start
wish_found fixed runs b from until found part kinds is_start is_end e =
    subst (λ w. IsWish (wanted_type fixed runs) (InBlock b) w) (sym is) over
  where
    covers : CoversBlock b runs
    covers = part_covers runs b part

    is : found ≡ wish_over (first_page fixed b.first) (block_end b) runs
    is = e ∙ ap (λ n. wish_over n until runs) is_start ∙ ap (λ n. wish_over (first_page fixed b.first) n runs) is_end

    of_page : (page : ℕ) → b.first ≤ page → page < block_end b → InBlock b page
    of_page page low high = and_from (nat_le b.first page) (nat_lt page (block_end b)) (le-leb _ _ low) (lt-ltb _ _ high)

    bounds : (page : ℕ) → InBlock b page → (b.first ≤ page) × (page < block_end b)
    bounds page has =
        let parts = and_parts (nat_le b.first page) (nat_lt page (block_end b)) has in
        (leb-true _ _ parts.0, ltb-true _ _ parts.1)

    over : IsWish (wanted_type fixed runs) (InBlock b) (wish_over (first_page fixed b.first) (block_end b) runs)
    over = same_pages (wanted_type fixed runs) (InRun fixed runs b.first (block_end b) 0 (pages_end covers.from runs)) (InBlock b)
        (λ page p. of_page page p.above_first p.below_end)
        (λ page p. record { above_first = (bounds page p).0; below_end = (bounds page p).1; above = omega arith; below = omega (arith, (bounds page p).1, covers.high) })
        _ (all_mean fixed runs b.first (block_end b) covers.from covers.low covers.chain kinds)
