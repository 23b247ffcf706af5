-- The first fault as a function: it searches all pairs and all pages, and finds what is the first fault.
use Rattle.std.proofs.Common.{◌≡◌, ℕ, zero, suc, ◌+◌, ◌<◌, ◌≤◌, Bool, true, false, length, get_or, Option, None, Some, refl, sym, ap, subst, ◌∙◌, inl, inr, arith}
use Rattle.std.specs.Prelude.{◌&&◌}
use Rattle.std.specs.Option.{option_map}
use Rattle.std.specs.List.{find, range_with_len}
use Rattle.std.proofs.lemmas.Bool.{cases_Bool, cases_lt}
use Rattle.std.proofs.lemmas.List.{get_or_past}
use Rattle.std.proofs.lemmas.List.Folds.{list_any_at, list_any_none}
use Rattle.std.proofs.lemmas.List.FromFn.{get_or-range_with_len, length-range_with_len}
use Rattle.mt_ranges.specs.Match.{matches_pair}
use Rattle.mt_regs.proofs.Decided.{a_first_fault_or_none_lem}
use Rattle.mt_regs.specs.declared.fault.Fault.{Fault}
use Rattle.mt_regs.specs.declared.fault.Reason.TheVariants.{UndefinedOverlap}
use Rattle.mt_regs.specs.declared.registers.Register.TheVariants.{PhysBase}
use Rattle.mt_regs.specs.Registers.{number_of}
use Rattle.mt_regs.specs.declared.page_type.PageType.{PageType}
use Rattle.mt_regs.specs.declared.page_type.PageType.TheVariants.{Kind, Undefined}
use Rattle.mt_regs.specs.RegisterFile.{RegisterFile, page_count, pair_at}
use Rattle.mt_regs.specs.PageTypes.{page_type}
use Rattle.mt_regs.specs.Faults.{IsFirstFault, IsOverlapFault, MatchesUndefined, register_fault}
use Rattle.mt_regs.specs.FirstFault.{first_fault, is_undefined, matches_undefined, overlap}

-- ---- searches among numbers in ascending order

find_at : (test : ℕ → Bool) (a n k : ℕ) → a ≤ k → k < a + n → ((j : ℕ) → j < k → test j ≡ false) → test k ≡ true → find test (range_with_len a n) ≡ Some k
find_at test a zero k from to before at = absurd (omega arith)
find_at test a (suc n) k from to before at = elim (cases_lt a k) [
  | inl below ↦ rw (before a below) (find_at test (a + 1) n k (omega arith) (omega arith) before at)
  | inr level ↦
      let e : a ≡ k = omega arith in
      rw (ap test e ∙ at) (ap Some e)
]

find_none : (test : ℕ → Bool) (a n : ℕ) → ((j : ℕ) → test j ≡ false) → find test (range_with_len a n) ≡ None
find_none test a zero fails = refl
find_none test a (suc n) fails = rw (fails a) (find_none test (a + 1) n fails)

-- ---- pages of no defined type

undefined_test : (kind : PageType) → is_undefined kind ≡ true → kind ≡ Undefined
undefined_test Undefined is = refl
undefined_test (Kind t) is = absurd (cc)

page_at : (f : RegisterFile) (i d : ℕ) → i < page_count f → get_or (range_with_len 0 (page_count f)) i d ≡ i
page_at f i d below = let is : get_or (range_with_len 0 (page_count f)) i d ≡ 0 + i = get_or-range_with_len 0 (page_count f) i d below in omega (arith, is)

-- what is tested of a page
abbrev tested : RegisterFile → ℕ → ℕ → Bool
tested f n page = is_undefined (page_type f page) && matches_pair f.width (pair_at f.pairs n) page

tested_fails : (f : RegisterFile) (n page : ℕ) → page < page_count f → (MatchesUndefined f n → ⊥) → tested f n page ≡ false
tested_fails f n page below none = elim (cases_Bool (is_undefined (page_type f page))) [
  | inl undefined ↦ elim (cases_Bool (matches_pair f.width (pair_at f.pairs n) page)) [
    | inl matches ↦ absurd (none (page, below, undefined_test (page_type f page) undefined, matches))
    | inr differs ↦ rw (undefined, differs) refl
  ]
  | inr defined ↦ rw defined refl
]

matches_none : (f : RegisterFile) (n : ℕ) → (MatchesUndefined f n → ⊥) → matches_undefined f n ≡ false
matches_none f n none = list_any_none (tested f n) (range_with_len 0 (page_count f)) each
  where
    each : (i d : ℕ) → i < length (range_with_len 0 (page_count f)) → tested f n (get_or (range_with_len 0 (page_count f)) i d) ≡ false
    each i d within =
        let below : i < page_count f = omega (arith, within, length-range_with_len 0 (page_count f)) in
        let is : get_or (range_with_len 0 (page_count f)) i d ≡ i = page_at f i d below in
        ap (tested f n) is ∙ tested_fails f n i below none

matches_some : (f : RegisterFile) (n : ℕ) → MatchesUndefined f n → matches_undefined f n ≡ true
matches_some f n (page, below, undefined, matches) =
    let within : page < length (range_with_len 0 (page_count f)) = omega (arith, below, length-range_with_len 0 (page_count f)) in
    let is : get_or (range_with_len 0 (page_count f)) page 0 ≡ page = page_at f page 0 below in
    list_any_at (tested f n) (range_with_len 0 (page_count f)) page 0 within (ap (tested f n) is ∙ rw undefined matches)

-- a pair past the last one is zeros, which match no page
is_pair : (f : RegisterFile) (n : ℕ) → MatchesUndefined f n → n < length f.pairs
is_pair f n (page, below, undefined, matches) = elim (cases_lt n (length f.pairs)) [
  | inl within ↦ within
  | inr past ↦
      let zeros : pair_at f.pairs n ≡ (0, 0) = get_or_past f.pairs n (0, 0) past in
      let is : matches_pair f.width (0, 0) page ≡ true = ap (λ pair. matches_pair f.width pair page) (sym zeros) ∙ matches in
      absurd (cc)
]

-- ---- the fault that is found

abbrev overlap_fault : ℕ → Fault
overlap_fault n = record { msr = number_of (PhysBase n); reason = UndefinedOverlap }

found : (f : RegisterFile) (answer : Option Fault) → IsOverlapFault f answer → option_map overlap_fault (overlap f) ≡ answer
found f None defined =
    let none : overlap f ≡ None = find_none (matches_undefined f) 0 (length f.pairs) (λ n. matches_none f n (λ m. defined m.0 m.1 m.2)) in
    ap (option_map overlap_fault) none
found f (Some fault) (reason, (n, number, matches, least)) =
    let some : overlap f ≡ Some n = find_at (matches_undefined f) 0 (length f.pairs) n (omega arith) (omega (arith, is_pair f n matches)) (λ k below. matches_none f k (least k below)) (matches_some f n matches) in
    ap (option_map overlap_fault) some ∙ ap Some (λ i. record { msr = sym number i; reason = sym reason i })

-- each answer that is the first fault is the function's
pub is_first_fault : (f : RegisterFile) (answer : Option Fault) → IsFirstFault f answer → answer ≡ first_fault f
is_first_fault f answer = by_register (register_fault f) refl
  where
    by_register : (o : Option Fault) → register_fault f ≡ o → IsFirstFault f answer → answer ≡ first_fault f
    by_register None good = λ h. rw good (sym (found f answer (rw good at h)))
    by_register (Some fault) bad = λ h. rw bad (rw bad at h)

pub first_fault_is_first : (f : RegisterFile) → IsFirstFault f (first_fault f)
first_fault_is_first f =
    let (answer, is) = a_first_fault_or_none_lem f in
    subst (IsFirstFault f) (is_first_fault f answer is) is
