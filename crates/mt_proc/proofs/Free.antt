-- The least pair that isn't valid, and why there is none.
use Rattle.std.proofs.Common.{◌≡◌, ◌∙◌, ap, sym, refl, arith, get_or, ℕ, ◌≤◌, nat_lt, not, Bool, true, false, List, length, Option, None, Some}
use Rattle.std.specs.Prelude.{◌↔◌, if◌then◌else◌}
use Rattle.std.specs.List.{AllPass, position_or_len}
use Rattle.std.proofs.lemmas.Bool.Decides.{nat_tests}
use Rattle.std.proofs.lemmas.List.Quantifiers.{position-Some}
use Rattle.std.proofs.lemmas.List.Sums.{fails_before_first}
use Rattle.mt_kinds.specs.declared.mem_type.MemType.{MemType}
use Rattle.mt_regs.specs.RegisterFile.{RegisterFile, pair_at}
use Rattle.mt_proc.specs.Applied.{IsGoodRange, IsLeastFree, applied, first_free, into_free, is_good_range, range_pair, with_pair}
use Rattle.mt_ranges.specs.Match.{is_valid}
use Rattle.mt_proc.specs.declared.applying.Applied.TheVariants.{BadRange, Goal, NoneFree, NotUsed}
use Rattle.mt_proc.specs.declared.request.Request.TheVariants.{Disable, Range}
use Rattle.mt_proc.proofs.Sizes.{good_parts, good_range}

not_free : (v : Bool) → not v ≡ false → v ≡ true
not_free true is = refl
not_free false is = cc is

not_valid : (v : Bool) → not v ≡ true → v ≡ false
not_valid true is = cc is
not_valid false is = refl

least_free : (pairs : List (ℕ × ℕ)) (n : ℕ) → first_free pairs ≡ Some n → IsLeastFree pairs n
least_free pairs n is =
    let parts = position-Some (λ pair. not (is_valid pair)) pairs n (0, 0) is in
    record { there = parts.0; free = not_valid (is_valid (pair_at pairs n)) parts.1; least = λ k below. not_free (is_valid (pair_at pairs k)) (parts.2 k below) }

-- there is none exactly where each is valid
none_free : (pairs : List (ℕ × ℕ)) → (first_free pairs ≡ None) ↔ AllPass is_valid pairs
none_free pairs = (all, none)
  where
    reach : ℕ
    reach = position_or_len (λ pair. not (is_valid pair)) pairs

    past : (within : Bool) → nat_lt reach (length pairs) ≡ within → (if within then Some reach else None) ≡ None → length pairs ≤ reach
    past true test is = cc is
    past false test is = grind (arith, nat_tests, test)

    all : first_free pairs ≡ None → AllPass is_valid pairs
    all is k d within =
        let many : length pairs ≤ reach = past (nat_lt reach (length pairs)) refl is in
        not_free (is_valid (get_or pairs k d)) (fails_before_first (λ pair. not (is_valid pair)) pairs k d (omega arith))

    by : AllPass is_valid pairs → (found : Option ℕ) → first_free pairs ≡ found → found ≡ None
    by valid None is = refl
    by valid (Some n) is =
        let least = least_free pairs n is in
        let e : true ≡ false = sym (valid n (0, 0) least.there) ∙ least.free in
        cc e

    none : AllPass is_valid pairs → first_free pairs ≡ None
    none valid = by valid (first_free pairs) refl

pub takes_least : (f : RegisterFile) (base size : ℕ) (kind : MemType) (goal : RegisterFile) (n : ℕ) → applied f (Range base size kind) ≡ Goal goal n
    → IsLeastFree f.pairs n × (goal ≡ with_pair f n (range_pair f.width base size kind))
takes_least f base size kind goal n is = by (is_good_range f.width base size) is
  where
    pair : ℕ × ℕ
    pair = range_pair f.width base size kind

    at : (found : Option ℕ) → first_free f.pairs ≡ found → into_free f pair found ≡ Goal goal n → IsLeastFree f.pairs n × (goal ≡ with_pair f n pair)
    at None found is = cc is
    at (Some k) found is =
        let number : k ≡ n = cc is in
        let file : goal ≡ with_pair f k pair = cc is in
        (least_free f.pairs n (found ∙ ap Some number), file ∙ ap (λ j. with_pair f j pair) number)

    by : (good : Bool) → (if good then into_free f pair (first_free f.pairs) else BadRange) ≡ Goal goal n → IsLeastFree f.pairs n × (goal ≡ with_pair f n pair)
    by true is = at (first_free f.pairs) refl is
    by false is = cc is

pub full_exactly : (f : RegisterFile) (base size : ℕ) (kind : MemType) → f.width ≤ 52 → (applied f (Range base size kind) ≡ NoneFree) ↔ (IsGoodRange f.width base size × AllPass is_valid f.pairs)
full_exactly f base size kind narrow = by (is_good_range f.width base size) refl
  where
    pair : ℕ × ℕ
    pair = range_pair f.width base size kind

    full : (found : Option ℕ) → into_free f pair found ≡ NoneFree → found ≡ None
    full None is = refl
    full (Some n) is = cc is

    by : (good : Bool) → is_good_range f.width base size ≡ good
        → ((if good then into_free f pair (first_free f.pairs) else BadRange) ≡ NoneFree) ↔ (IsGoodRange f.width base size × AllPass is_valid f.pairs)
    by true is = (
      λ none. (good_parts f.width base size is, (none_free f.pairs).0 (full (first_free f.pairs) none)),
      λ both. ap (into_free f pair) ((none_free f.pairs).1 both.1),
    )
    by false is = (λ none. cc none, λ both. let e : false ≡ true = sym is ∙ good_range f.width base size narrow both.0 in cc e)

pub not_used_exactly : (f : RegisterFile) (n : ℕ) → (applied f (Disable n) ≡ NotUsed) ↔ (is_valid (pair_at f.pairs n) ≡ false)
not_used_exactly f n = by (is_valid (pair_at f.pairs n)) refl
  where
    by : (valid : Bool) → is_valid (pair_at f.pairs n) ≡ valid → ((if valid then Goal (with_pair f n (0, 0)) n else NotUsed) ≡ NotUsed) ↔ (is_valid (pair_at f.pairs n) ≡ false)
    by true is = (λ e. cc e, λ e. let none : true ≡ false = sym is ∙ e in cc none)
    by false is = (λ e. is, λ e. refl)
