-- The map of some types, as it is written run by run.
use Rattle.std.proofs.Common.{◌≡◌, ◌≢◌, ◌∙◌, ℕ, suc, ◌+◌, ◌-◌, ◌^◌, ◌<◌, ◌≤◌, List, [], ◌∷◌, ◌++◌, length, set, take, refl, sym, ap, subst, inl, inr, arith}
use Rattle.std.specs.List.{All}
use Rattle.std.proofs.lemmas.Bool.{cases_lt}
use Rattle.std.proofs.lemmas.List.{length-set, map-append, take_more_set}
use Rattle.std.proofs.lemmas.List.Elements.{All-push}
use Rattle.mt_regs.specs.declared.page_type.PageType.{PageType}
use Rattle.mt_tidy.specs.declared.packed.PackedRun.{PackedRun}
use Rattle.mt_tidy.specs.Packed.{run_of, runs_of}
use Rattle.mt_types.specs.declared.run.Run.{Run}
use Rattle.mt_types.specs.Runs.{HasPage, IsChain, IsTypeMap, NeighboursDiffer, pages_end, run_end}
use Rattle.mt_types.proofs.Chains.{chain_grows}

-- each page of the run has its type, and the page after it, if there is one, hasn't
record IsLongest (kind : ℕ → PageType) (pages : ℕ) (r : Run) : Type 0 where
  kinds : (page : ℕ) → HasPage r page → kind page ≡ r.kind
  longest : run_end r < pages → kind (run_end r) ≢ r.kind

-- the runs up to a page
pub record IsBuilt (kind : ℕ → PageType) (pages : ℕ) (runs : List Run) (next : ℕ) : Type 0 where
  pub chain : IsChain 0 runs
  pub end : pages_end 0 runs ≡ next
  pub bound : next ≤ pages
  longest : All (IsLongest kind pages) runs

-- the map of all pages
pub record IsMapOf (kind : ℕ → PageType) (pages : ℕ) (runs : List Run) : Type 0 where
  pub map : IsTypeMap runs
  pub whole : pages_end 0 runs ≡ pages
  pub kinds : All (λ r. (page : ℕ) → HasPage r page → kind page ≡ r.kind) runs

chain_push : (from : ℕ) (runs : List Run) (r : Run) → IsChain from runs → r.first ≡ pages_end from runs → 0 < r.count → IsChain from (runs ++ r ∷ [])
chain_push from [] r chain is some = (is, some, tt)
chain_push from (s ∷ ss) r chain is some = (chain.0, chain.1, chain_push (run_end s) ss r chain.2 is some)

end_push : (from : ℕ) (runs : List Run) (r : Run) → pages_end from (runs ++ r ∷ []) ≡ run_end r
end_push from [] r = refl
end_push from (s ∷ ss) r = end_push (run_end s) ss r

module _ (kind : ℕ → PageType) (pages : ℕ) where
  built_push : (runs : List Run) (next : ℕ) (r : Run) → IsBuilt kind pages runs next → r.first ≡ next → 0 < r.count → run_end r ≤ pages
      → IsLongest kind pages r → IsBuilt kind pages (runs ++ r ∷ []) (run_end r)
  built_push runs next r built first some bound longest = record {
    chain = chain_push 0 runs r built.chain (first ∙ sym built.end) some;
    end = end_push 0 runs r;
    bound = bound;
    longest = All-push (IsLongest kind pages) runs r built.longest longest;
  }

  -- longest runs differ from their neighbours
  differ : (from : ℕ) (runs : List Run) → IsChain from runs → pages_end from runs ≤ pages → All (IsLongest kind pages) runs → NeighboursDiffer runs
  differ from [] chain bound longest = tt
  differ from (r ∷ []) chain bound longest = tt
  differ from (r ∷ s ∷ rs) chain bound longest =
      let later : All (IsLongest kind pages) (s ∷ rs) = λ k d within. longest (suc k) d (omega arith) in
      let meets : s.first ≡ run_end r = chain.2.0 in
      let some : 0 < s.count = chain.2.1 in
      let grows = chain_grows (run_end s) rs chain.2.2 in
      let has : kind s.first ≡ s.kind = (longest 1 r (omega arith)).kinds s.first (omega arith, omega arith) in
      let apart : kind (run_end r) ≢ r.kind = (longest 0 r (omega arith)).longest (omega arith) in
      (λ same. apart (ap kind (sym meets) ∙ has ∙ sym same), differ (run_end r) (s ∷ rs) chain.2 bound later)

  not_empty : (runs : List Run) → 0 < pages_end 0 runs → 0 < length runs
  not_empty [] some = absurd (omega arith)
  not_empty (r ∷ rs) some = omega arith

  built_map : (runs : List Run) (next : ℕ) → IsBuilt kind pages runs next → pages ≤ next → 0 < pages → pages ≤ 2 ^ 40 → IsMapOf kind pages runs
  built_map runs next built whole many few = record {
    map = record {
      chain = built.chain;
      some = not_empty runs (omega (arith, built.end));
      bound = omega (arith, built.end, built.bound);
      differ = differ 0 runs built.chain (omega (arith, built.end, built.bound)) built.longest;
    };
    whole = omega (arith, built.end, built.bound);
    kinds = λ k d within. (built.longest k d within).kinds;
  }

-- So many runs up to a page are written, and the pages from there to another have one type. A page has a number of edges past it,
-- which falls from edge to edge, and by which no more runs come than may.
pub record IsUnderWay (kind : ℕ → PageType) (pages limit : ℕ) (past : ℕ → ℕ) (now : List PackedRun) (count first end : ℕ) (own : PageType) : Type 0 where
  pub built : IsBuilt kind pages (runs_of (take count now)) first
  pub some : first < end
  pub bound : end ≤ pages
  pub same : (page : ℕ) → first ≤ page → page < end → kind page ≡ own
  pub few : count + 1 ≤ limit
  pub fewer : end < pages → count + past end + 2 ≤ limit
  pub room : limit ≤ length now

-- the run of those pages
abbrev run_to : ℕ → ℕ → PageType → Run
run_to first end own = record { first = first; count = end - first; kind = own }

module _ (kind : ℕ → PageType) (pages limit : ℕ) (past : ℕ → ℕ) where
  pub starts : (end : ℕ) (now : List PackedRun) → limit ≤ length now → past 0 + 1 ≤ limit → 0 < end → end ≤ pages
      → ((page : ℕ) → 0 ≤ page → page < end → kind page ≡ kind 0) → (end < pages → past end < past 0) → IsUnderWay kind pages limit past now 0 0 end (kind 0)
  starts end now room few above bound same fewer = record {
    built = record { chain = tt; end = refl; bound = omega arith; longest = λ k d within. absurd (omega arith) };
    some = above;
    bound = bound;
    same = same;
    few = omega arith;
    fewer = λ below. omega (arith, fewer below, few);
    room = room;
  }

  module _ (now : List PackedRun) (count first end : ℕ) (own : PageType) (u : IsUnderWay kind pages limit past now count first end own) where
    module _ (r : PackedRun) (r_is : run_of r ≡ run_to first end own) where
      written : runs_of (take (count + 1) (set now count r)) ≡ runs_of (take count now) ++ run_to first end own ∷ []
      written =
          ap runs_of (take_more_set now count r (omega (arith, u.few, u.room))) ∙ map-append run_of (take count now) (r ∷ [])
          ∙ ap (λ s. runs_of (take count now) ++ s ∷ []) r_is

      closed : (end < pages → kind end ≢ own) → IsBuilt kind pages (runs_of (take (count + 1) (set now count r))) end
      closed longest =
          let is_end : first + (end - first) ≡ end = omega (arith, u.some) in
          let longest_run : IsLongest kind pages (run_to first end own) = record {
            kinds = λ page has. u.same page has.0 (omega (arith, has.1, is_end));
            longest = λ below same. longest (omega (arith, is_end, below)) (ap kind (sym is_end) ∙ same);
          } in
          subst (λ rs. IsBuilt kind pages rs end) (sym written)
          (subst (λ e. IsBuilt kind pages (runs_of (take count now) ++ run_to first end own ∷ []) e) is_end
          (built_push kind pages (runs_of (take count now)) first (run_to first end own) u.built refl (omega (arith, u.some)) (omega (arith, is_end, u.bound)) longest_run))

      -- the next pages have another type
      pub begins : (next : ℕ) → end < pages → kind end ≢ own → ((page : ℕ) → end ≤ page → page < next → kind page ≡ kind end) → end < next → next ≤ pages
          → (next < pages → past next < past end) → IsUnderWay kind pages limit past (set now count r) (count + 1) end next (kind end)
      begins next inner differs same above bound fewer = record {
        built = closed (λ below. differs);
        some = above;
        bound = bound;
        same = same;
        few = omega (arith, u.fewer inner);
        fewer = λ below. omega (arith, fewer below, u.fewer inner);
        room = omega (arith, u.room, length-set now count r);
      }

      -- no page is left
      pub ends : pages ≤ end → 0 < pages → pages ≤ 2 ^ 40 → IsMapOf kind pages (runs_of (take (count + 1) (set now count r)))
      ends past_all some bound = built_map kind pages _ end (closed (λ below. absurd (omega (arith, past_all)))) past_all some bound

    -- the next pages have the same type
    pub goes_on : (next : ℕ) → end < pages → kind end ≡ own → ((page : ℕ) → end ≤ page → page < next → kind page ≡ kind end) → end < next → next ≤ pages
        → (next < pages → past next < past end) → IsUnderWay kind pages limit past now count first next own
    goes_on next inner is same above bound fewer = record {
      built = u.built;
      some = omega (arith, u.some, above);
      bound = bound;
      same = λ page low high. elim (cases_lt page end) [
        | inl before ↦ u.same page low before
        | inr later ↦ same page later high ∙ is
      ];
      few = u.few;
      fewer = λ below. omega (arith, fewer below, u.fewer inner);
      room = u.room;
    }
