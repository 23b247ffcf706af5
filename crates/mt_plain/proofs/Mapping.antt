-- The type map that is written run by run.
use Rattle.std.proofs.Common.{◌≡◌, ◌≢◌, ◌∙◌, ap, refl, sym, arith, ℕ, ◌+◌, ◌-◌, ◌^◌, ◌<◌, ◌≤◌, List, [], ◌∷◌, ◌++◌, get_or, length, map, set, subst, take}
use Rattle.std.proofs.lemmas.List.{map_push, length-map, length-take-le, length_push, take_more}
use Rattle.mt_plain.specs.Maps.{IsMapIn, overwritten, plain_run}
use Rattle.mt_plain.specs.declared.plain.PlainRun.{PlainRun}
use Rattle.mt_regs.specs.Alike.{IsAlike, edges_past}
use Rattle.mt_regs.specs.declared.page_type.PageType.{PageType}
use Rattle.mt_regs.specs.PageTypes.{page_type}
use Rattle.mt_regs.specs.RegisterFile.{RegisterFile, page_count}
use Rattle.mt_types.specs.declared.run.Run.{Run}
use Rattle.mt_types.specs.Runs.{IsLongestRun}
use Rattle.mt_types.proofs.Building.{HasKindUpTo, IsBuilt, built_map, built_push, run_grows}

-- a run behind the others is written at the next place
pub one_more : (rs : List PlainRun) (r : PlainRun) (places : List PlainRun) → overwritten (rs ++ r ∷ []) places ≡ set (overwritten rs places) (length rs) r
one_more [] r [] = refl
one_more [] r (p ∷ ps) = refl
one_more (x ∷ xs) r [] = refl
one_more (x ∷ xs) r (p ∷ ps) = ap (λ ys. x ∷ ys) (one_more xs r ps)

-- the run at a place is written behind those before it
pub written_more : (runs : List Run) (i : ℕ) (d : Run) (old now new : List PlainRun) (r : PlainRun) → i < length runs → now ≡ overwritten (map plain_run (take i runs)) old
    → new ≡ set now i r → r ≡ plain_run (get_or runs i d) → new ≡ overwritten (map plain_run (take (i + 1) runs)) old
written_more runs i d old now new r within before step is =
    let at : length (map plain_run (take i runs)) ≡ i = length-map (take i runs) plain_run ∙ length-take-le i runs (omega (arith, within)) in
    step
    ∙ ap (λ p. set now i p) is
    ∙ ap (λ xs. set xs i (plain_run (get_or runs i d))) before
    ∙ ap (λ n. set (overwritten (map plain_run (take i runs)) old) n (plain_run (get_or runs i d))) (sym at)
    ∙ sym (one_more (map plain_run (take i runs)) (plain_run (get_or runs i d)) old)
    ∙ ap (λ rs. overwritten rs old) (sym (map_push plain_run (take i runs) (get_or runs i d)) ∙ ap (map plain_run) (sym (take_more runs i d within)))

-- the runs up to a page are written, and the pages from there to another have one type
pub record IsUnderWay (f : RegisterFile) (old now : List PlainRun) (count first end : ℕ) (kind : PageType) : Type 0 where
  pub runs : List Run
  pub built : IsBuilt f runs first
  pub array : now ≡ overwritten (map plain_run runs) old
  pub count_is : count ≡ length runs
  pub some : first < end
  pub bound : end ≤ page_count f
  pub same : HasKindUpTo f first end
  pub kind_is : page_type f first ≡ kind
  pub few : count ≤ 152
  pub fewer : end < page_count f → count + edges_past f end ≤ 151

-- the run of those pages
abbrev pub run_of : ℕ → ℕ → PageType → Run
run_of first end kind = record { first = first; count = end - first; kind = kind }

pub closed : (f : RegisterFile) (old now : List PlainRun) (count first end : ℕ) (kind : PageType) (u : IsUnderWay f old now count first end kind)
    → (end < page_count f → page_type f end ≢ kind) → IsBuilt f (u.runs ++ run_of first end kind ∷ []) end
closed f old now count first end kind u longest =
    let is_end : first + (end - first) ≡ end = omega (arith, u.some) in
    subst (λ e. IsBuilt f (u.runs ++ run_of first end kind ∷ []) e) is_end
    (built_push f u.runs first (run_of first end kind) u.built refl (omega (arith, u.some)) (omega (arith, is_end, u.bound)) longest_run)
  where
    longest_run : IsLongestRun f (run_of first end kind)
    longest_run = let is_end : first + (end - first) ≡ end = omega (arith, u.some) in record {
      kind = λ page has. u.same page has.0 (omega (arith, has.1, is_end)) ∙ u.kind_is;
      longest = λ below same. longest (omega (arith, is_end, below)) (ap (page_type f) (sym is_end) ∙ same);
    }

pub array_closed : (f : RegisterFile) (old now : List PlainRun) (count first end : ℕ) (kind : PageType) (u : IsUnderWay f old now count first end kind)
    → set now count (plain_run (run_of first end kind)) ≡ overwritten (map plain_run (u.runs ++ run_of first end kind ∷ [])) old
array_closed f old now count first end kind u =
    let at : length (map plain_run u.runs) ≡ count = length-map u.runs plain_run ∙ sym u.count_is in
    sym (ap (λ rs. overwritten rs old) (map_push plain_run u.runs (run_of first end kind))
    ∙ one_more (map plain_run u.runs) (plain_run (run_of first end kind)) old
    ∙ ap (λ n. set (overwritten (map plain_run u.runs) old) n (plain_run (run_of first end kind))) at
    ∙ ap (λ xs. set xs count (plain_run (run_of first end kind))) (sym u.array))

-- the next pages have the same type
pub goes_on : (f : RegisterFile) (old now : List PlainRun) (count first end next : ℕ) (kind : PageType) → IsUnderWay f old now count first end kind → end < page_count f
    → page_type f end ≡ kind → IsAlike f end next → end < next → next ≤ page_count f → (next < page_count f → edges_past f next < edges_past f end)
    → IsUnderWay f old now count first next kind
goes_on f old now count first end next kind u inner same alike above bound fewer = record {
  runs = u.runs;
  built = u.built;
  array = u.array;
  count_is = u.count_is;
  some = omega (arith, u.some, above);
  bound = bound;
  same = run_grows f first end next u.some u.same (same ∙ sym u.kind_is) alike;
  kind_is = u.kind_is;
  few = u.few;
  fewer = λ below. omega (arith, fewer below, u.fewer inner);
}

-- the next pages have another type
pub begins : (f : RegisterFile) (old now : List PlainRun) (count first end next : ℕ) (kind : PageType) → IsUnderWay f old now count first end kind → end < page_count f
    → page_type f end ≢ kind → IsAlike f end next → end < next → next ≤ page_count f → (next < page_count f → edges_past f next < edges_past f end)
    → IsUnderWay f old (set now count (plain_run (run_of first end kind))) (count + 1) end next (page_type f end)
begins f old now count first end next kind u inner differs alike above bound fewer = record {
  runs = u.runs ++ run_of first end kind ∷ [];
  built = closed f old now count first end kind u (λ below. differs);
  array = array_closed f old now count first end kind u;
  count_is = omega (arith, u.count_is, length_push u.runs (run_of first end kind));
  some = above;
  bound = bound;
  same = alike.kind;
  kind_is = refl;
  few = omega (arith, u.fewer inner);
  fewer = λ below. omega (arith, fewer below, u.fewer inner);
}

-- no page is left
pub ends : (f : RegisterFile) (old now : List PlainRun) (count first end : ℕ) (kind : PageType) → IsUnderWay f old now count first end kind → page_count f ≤ end
    → 0 < page_count f → page_count f ≤ 2 ^ 40 → IsMapIn f old (set now count (plain_run (run_of first end kind))) (count + 1)
ends f old now count first end kind u past some bound = record {
  runs = u.runs ++ run_of first end kind ∷ [];
  are_of = built_map f (u.runs ++ run_of first end kind ∷ []) end (closed f old now count first end kind u (λ below. absurd (omega (arith, past)))) past some bound;
  array = array_closed f old now count first end kind u;
  count_is = omega (arith, u.count_is, length_push u.runs (run_of first end kind));
  few = omega (arith, u.few);
}
