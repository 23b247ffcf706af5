-- A barrier is open exactly where as many have arrived as are awaited.
use Rattle.std.proofs.Common.{◌≡◌, suc, ◌+◌, ◌≤◌, List, [], ◌∷◌, length, Bool, true, false, refl, sym, ◌∙◌, arith}
use Rattle.std.specs.Prelude.{cond, ◌&&◌, if◌then◌else◌}
use Rattle.std.specs.List.{list_all, count_by}
use Rattle.std.proofs.lemmas.List.Sums.{count_by-le-length}
use Rattle.mt_machine.specs.System.{Processor}
use Rattle.mt_machine.specs.Machine.{Order, has_arrived, has_arrived_again, is_given, first_barrier_open, first_barrier_count}
use Rattle.mt_laws.specs.Barriers.{IsFull, OpenWhereFull}
use Rattle.mt_laws.proofs.Steps.StepCounts.{count_more}

all_count : (test : Processor → Bool) (ps : List Processor) → list_all test ps ≡ true → count_by test ps ≡ length ps
all_count test [] h = refl
all_count test (p ∷ ps) h = count_more test p ps ∙ one (test p) (all_count test ps) h
  where
    one : (b : Bool) → (list_all test ps ≡ true → count_by test ps ≡ length ps) → (b && list_all test ps) ≡ true → cond b 1 0 + count_by test ps ≡ suc (length ps)
    one true rest g = let r = rest g in omega arith
    one false rest g = absurd (cc)

count_all : (test : Processor → Bool) (ps : List Processor) → count_by test ps ≡ length ps → list_all test ps ≡ true
count_all test [] h = refl
count_all test (p ∷ ps) h = one (test p) (count_all test ps) (sym (count_more test p ps) ∙ h)
  where
    one : (b : Bool) → (count_by test ps ≡ length ps → list_all test ps ≡ true) → cond b 1 0 + count_by test ps ≡ suc (length ps) → (b && list_all test ps) ≡ true
    one true rest g = rest (omega arith)
    one false rest g = absurd (let few = count_by-le-length test ps in omega arith)

first_full : (o : Order) (ps : List Processor) → first_barrier_open o ps ≡ true → IsFull (first_barrier_count o ps)
first_full o ps h = one (list_all (has_arrived o) ps) (is_given o.go) (all_count (has_arrived o) ps) h
  where
    one : (a g : Bool) → (a ≡ true → count_by (has_arrived o) ps ≡ length ps) → (a && g) ≡ true → count_by (has_arrived o) ps + (if g then 1 else 0) ≡ length ps + 1
    one true true all h = let r = all refl in omega arith
    one true false all h = absurd (cc)
    one false g all h = absurd (cc)

full_first : (o : Order) (ps : List Processor) → IsFull (first_barrier_count o ps) → first_barrier_open o ps ≡ true
full_first o ps h = one (list_all (has_arrived o) ps) (is_given o.go) (count_all (has_arrived o) ps) h
  where
    few : count_by (has_arrived o) ps ≤ length ps
    few = count_by-le-length (has_arrived o) ps

    one : (a g : Bool) → (count_by (has_arrived o) ps ≡ length ps → a ≡ true) → count_by (has_arrived o) ps + (if g then 1 else 0) ≡ length ps + 1 → (a && g) ≡ true
    one a true all h = and_one a (all (omega arith))
      where
        and_one : (b : Bool) → b ≡ true → (b && true) ≡ true
        and_one true g = refl
        and_one false g = g
    one a false all h = absurd (let f = few in omega arith)

pub open_where_full : OpenWhereFull
open_where_full o ps = (first_full o ps, full_first o ps, all_count (has_arrived_again o) ps, count_all (has_arrived_again o) ps)
