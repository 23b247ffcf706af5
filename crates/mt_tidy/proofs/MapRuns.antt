-- The type map of a file from a page on, as it is written run by run.
use Rattle.std.proofs.Common.{◌≡◌, ◌≢◌, ◌∙◌, ℕ, suc, ◌+◌, ◌-◌, ◌^◌, ◌<◌, ◌≤◌, true, false, List, [], ◌∷◌, ◌++◌, length, set, take, refl, sym, ap, subst, inl, inr, arith}
use Rattle.std.specs.Prelude.{nat_lt, max, if◌then◌else◌}
use Rattle.std.specs.List.{All, slice_index_or}
use Rattle.std.proofs.lemmas.Bool.{cases_lt}
use Rattle.std.proofs.lemmas.Bool.Decides.{nat_tests}
use Rattle.std.proofs.lemmas.List.{length-set, map-append, take_more_set}
use Rattle.std.proofs.lemmas.List.Elements.{All-push}
use Rattle.std.proofs.lemmas.List.Sums.{sum_by-le}
use Rattle.mt_kinds.specs.Bits.{is_bit_set}
use Rattle.mt_ranges.specs.FixedPart.{fixed_edges_past}
use Rattle.mt_ranges.specs.Match.{range_end, range_first}
use Rattle.mt_regs.specs.Alike.{IsAlike, edges_past, pair_edges_past}
use Rattle.mt_regs.specs.declared.page_type.PageType.{PageType}
use Rattle.mt_regs.specs.PageTypes.{page_type}
use Rattle.mt_regs.specs.RegisterFile.{RegisterFile, is_fixed_enabled, page_count}
use Rattle.mt_tidy.specs.declared.packed.PackedRun.{PackedRun}
use Rattle.mt_tidy.specs.Mapped.{IsMapFrom}
use Rattle.mt_tidy.specs.Packed.{run_of, runs_of}
use Rattle.mt_types.specs.declared.run.Run.{Run}
use Rattle.mt_types.specs.Runs.{HasPage, IsChain, NeighboursDiffer, pages_end, run_end}
use Rattle.mt_types.proofs.Chains.{chain_grows}

-- ---- edges

-- no page has more edges past it
pub few_past : (f : RegisterFile) (page : ℕ) → length f.pairs ≤ 32 → edges_past f page ≤ 152
few_past f page few =
    omega (
      arith,
      sum_by-le (pair_edges_past f.width page) 2 f.pairs (λ k d within. two_ends (is_bit_set (slice_index_or f.pairs k d).1 11) (range_first f.width (slice_index_or f.pairs k d)) (range_end f.width (slice_index_or f.pairs k d))),
      on_bound (is_fixed_enabled f),
    )
  where
    two_ends : (b : Rattle.std.proofs.Common.Bool) (first end : ℕ) → (if b then (if nat_lt page first then 1 else 0) + (if nat_lt page end then 1 else 0) else 0) ≤ 2
    two_ends true first end = grind (arith, nat_tests)
    two_ends false first end = omega arith

    parts : fixed_edges_past page ≤ 88
    parts = grind (arith, nat_tests)

    on_bound : (b : Rattle.std.proofs.Common.Bool) → (if b then fixed_edges_past page else 0) ≤ 88
    on_bound true = parts
    on_bound false = omega arith

-- ---- runs of pages of any kinds

-- each page of the run has its kind, and the page after it, if there is one, hasn't
record IsLongest (kind : ℕ → PageType) (pages : ℕ) (r : Run) : Type 0 where
  kinds : (page : ℕ) → HasPage r page → kind page ≡ r.kind
  longest : run_end r < pages → kind (run_end r) ≢ r.kind

-- the runs up to a page
pub record IsBuilt (kind : ℕ → PageType) (pages : ℕ) (runs : List Run) (next : ℕ) : Type 0 where
  pub chain : IsChain 0 runs
  pub end : pages_end 0 runs ≡ next
  pub bound : next ≤ pages
  longest : All (IsLongest kind pages) runs

chain_push : (from : ℕ) (runs : List Run) (r : Run) → IsChain from runs → r.first ≡ pages_end from runs → 0 < r.count → IsChain from (runs ++ r ∷ [])
chain_push from [] r chain is some = (is, some, tt)
chain_push from (s ∷ ss) r chain is some = (chain.0, chain.1, chain_push (run_end s) ss r chain.2 is some)

end_push : (from : ℕ) (runs : List Run) (r : Run) → pages_end from (runs ++ r ∷ []) ≡ run_end r
end_push from [] r = refl
end_push from (s ∷ ss) r = end_push (run_end s) ss r

built_push : (kind : ℕ → PageType) (pages : ℕ) (runs : List Run) (next : ℕ) (r : Run) → IsBuilt kind pages runs next → r.first ≡ next → 0 < r.count → run_end r ≤ pages
    → IsLongest kind pages r → IsBuilt kind pages (runs ++ r ∷ []) (run_end r)
built_push kind pages runs next r built first some bound longest = record {
  chain = chain_push 0 runs r built.chain (first ∙ sym built.end) some;
  end = end_push 0 runs r;
  bound = bound;
  longest = All-push (IsLongest kind pages) runs r built.longest longest;
}

-- longest runs differ from their neighbours
differ : (kind : ℕ → PageType) (pages from : ℕ) (runs : List Run) → IsChain from runs → pages_end from runs ≤ pages → All (IsLongest kind pages) runs → NeighboursDiffer runs
differ kind pages from [] chain bound longest = tt
differ kind pages from (r ∷ []) chain bound longest = tt
differ kind pages from (r ∷ s ∷ rs) chain bound longest =
    let later : All (IsLongest kind pages) (s ∷ rs) = λ k d within. longest (suc k) d (omega arith) in
    let meets : s.first ≡ run_end r = chain.2.0 in
    let some : 0 < s.count = chain.2.1 in
    let grows = chain_grows (run_end s) rs chain.2.2 in
    let has : kind s.first ≡ s.kind = (longest 1 r (omega arith)).kinds s.first (omega arith, omega arith) in
    let apart : kind (run_end r) ≢ r.kind = (longest 0 r (omega arith)).longest (omega arith) in
    (λ same. apart (ap kind (sym meets) ∙ has ∙ sym same), differ kind pages (run_end r) (s ∷ rs) chain.2 bound later)

-- ---- a file's pages

-- the type of a page, with that of one page in place of those of the pages below it
abbrev pub type_from : RegisterFile → ℕ → ℕ → PageType
type_from f from page = page_type f (max from page)

built_map : (f : RegisterFile) (from : ℕ) (runs : List Run) (next : ℕ) → IsBuilt (type_from f from) (page_count f) runs next → page_count f ≤ next → 0 < page_count f
    → page_count f ≤ 2 ^ 40 → IsMapFrom f from runs
built_map f from runs next built whole many few = record {
  map = record {
    chain = built.chain;
    some = not_empty runs (omega (arith, built.end));
    bound = omega (arith, built.end, built.bound);
    differ = differ (type_from f from) (page_count f) 0 runs built.chain (omega (arith, built.end, built.bound)) built.longest;
  };
  whole = omega (arith, built.end, built.bound);
  kinds = λ k d within. (built.longest k d within).kinds;
}
  where
    not_empty : (runs : List Run) → 0 < pages_end 0 runs → 0 < length runs
    not_empty [] some = absurd (omega arith)
    not_empty (r ∷ rs) some = omega arith

-- so many runs up to a page are written, and the pages from there to another have one type
pub record IsUnderWay (f : RegisterFile) (from : ℕ) (now : List PackedRun) (count first end : ℕ) (kind : PageType) : Type 0 where
  pub built : IsBuilt (type_from f from) (page_count f) (runs_of (take count now)) first
  pub some : first < end
  pub past : from < end
  pub bound : end ≤ page_count f
  pub same : (page : ℕ) → first ≤ page → page < end → type_from f from page ≡ kind
  pub few : count ≤ 152
  pub fewer : end < page_count f → count + edges_past f end ≤ 151
  pub room : 153 ≤ length now

past_is : (from page : ℕ) → from ≤ page → max from page ≡ page
past_is from page past = omega arith

pub starts : (f : RegisterFile) (from end : ℕ) (now : List PackedRun) → length f.pairs ≤ 32 → 153 ≤ length now → IsAlike f from end → from < end → end ≤ page_count f
    → (end < page_count f → edges_past f end < edges_past f from) → IsUnderWay f from now 0 0 end (page_type f from)
starts f from end now few room alike above bound fewer = record {
  built = record { chain = tt; end = refl; bound = omega arith; longest = λ k d within. absurd (omega arith) };
  some = omega arith;
  past = above;
  bound = bound;
  same = λ page low high. elim (cases_lt page from) [
    | inl below ↦
        let is : max from page ≡ from = omega arith in
        ap (page_type f) is
    | inr past ↦ ap (page_type f) (past_is from page past) ∙ alike.kind page past high
  ];
  few = omega arith;
  fewer = λ below. omega (arith, fewer below, few_past f from few);
  room = room;
}

-- the run of those pages
abbrev run_to : ℕ → ℕ → PageType → Run
run_to first end kind = record { first = first; count = end - first; kind = kind }

module _ (f : RegisterFile) (from : ℕ) (now : List PackedRun) (count first end : ℕ) (kind : PageType) (u : IsUnderWay f from now count first end kind)
    (r : PackedRun) (r_is : run_of r ≡ run_to first end kind) where
  written : runs_of (take (count + 1) (set now count r)) ≡ runs_of (take count now) ++ run_to first end kind ∷ []
  written =
      ap runs_of (take_more_set now count r (omega (arith, u.few, u.room))) ∙ map-append run_of (take count now) (r ∷ [])
      ∙ ap (λ s. runs_of (take count now) ++ s ∷ []) r_is

  closed : (end < page_count f → type_from f from end ≢ kind) → IsBuilt (type_from f from) (page_count f) (runs_of (take (count + 1) (set now count r))) end
  closed longest =
      let is_end : first + (end - first) ≡ end = omega (arith, u.some) in
      let longest_run : IsLongest (type_from f from) (page_count f) (run_to first end kind) = record {
        kinds = λ page has. u.same page has.0 (omega (arith, has.1, is_end));
        longest = λ below same. longest (omega (arith, is_end, below)) (ap (type_from f from) (sym is_end) ∙ same);
      } in
      subst (λ rs. IsBuilt (type_from f from) (page_count f) rs end) (sym written)
      (subst (λ e. IsBuilt (type_from f from) (page_count f) (runs_of (take count now) ++ run_to first end kind ∷ []) e) is_end
      (built_push (type_from f from) (page_count f) (runs_of (take count now)) first (run_to first end kind) u.built refl (omega (arith, u.some)) (omega (arith, is_end, u.bound)) longest_run))

  -- the next pages have another type
  pub begins : (next : ℕ) → end < page_count f → page_type f end ≢ kind → IsAlike f end next → end < next → next ≤ page_count f
      → (next < page_count f → edges_past f next < edges_past f end) → IsUnderWay f from (set now count r) (count + 1) end next (page_type f end)
  begins next inner differs alike above bound fewer = record {
    built = closed (λ below same. differs (ap (page_type f) (sym (past_is from end (omega (arith, u.past)))) ∙ same));
    some = above;
    past = omega (arith, u.past, above);
    bound = bound;
    same = λ page low high. ap (page_type f) (past_is from page (omega (arith, u.past, low))) ∙ alike.kind page low high;
    few = omega (arith, u.fewer inner);
    fewer = λ below. omega (arith, fewer below, u.fewer inner);
    room = omega (arith, u.room, length-set now count r);
  }

  -- no page is left
  pub ends : page_count f ≤ end → 0 < page_count f → page_count f ≤ 2 ^ 40 → IsMapFrom f from (runs_of (take (count + 1) (set now count r)))
  ends past some bound = built_map f from _ end (closed (λ below. absurd (omega (arith, past)))) past some bound

-- the next pages have the same type
pub goes_on : (f : RegisterFile) (from : ℕ) (now : List PackedRun) (count first end : ℕ) (kind : PageType) → IsUnderWay f from now count first end kind → (next : ℕ)
    → end < page_count f → page_type f end ≡ kind → IsAlike f end next → end < next → next ≤ page_count f
    → (next < page_count f → edges_past f next < edges_past f end) → IsUnderWay f from now count first next kind
goes_on f from now count first end kind u next inner is alike above bound fewer = record {
  built = u.built;
  some = omega (arith, u.some, above);
  past = omega (arith, u.past, above);
  bound = bound;
  same = λ page low high. elim (cases_lt page end) [
    | inl before ↦ u.same page low before
    | inr later ↦ ap (page_type f) (past_is from page (omega (arith, u.past, later))) ∙ alike.kind page later high ∙ is
  ];
  few = u.few;
  fewer = λ below. omega (arith, fewer below, u.fewer inner);
  room = u.room;
}
