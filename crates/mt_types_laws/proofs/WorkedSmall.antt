-- Sixteen pages, of which the first seven have WB and the others UC.
use Rattle.std.proofs.Common.{rules, ◌≡◌, ◌≢◌, ◌∙◌, ◌<◌, ◌≤◌, ℕ, zero, suc, Bool, true, false, Option, Some, refl, sym, ap, subst, arith}
use Rattle.std.specs.Prelude.{IsTrue, nat_lt, slice_index_or}
use Rattle.std.specs.List.{All}
use Rattle.std.specs.Option.{option_map_or}
use Rattle.std.proofs.lemmas.Bool.Decides.{nat_tests}
use Rattle.mt_kinds.specs.declared.mem_type.MemType.{MemType}
use Rattle.mt_kinds.specs.declared.mem_type.MemType.TheVariants.{UC, WB}
use Rattle.mt_regs.specs.declared.page_type.PageType.TheVariants.{Kind, Undefined}
use Rattle.mt_regs.specs.Faults.{IsAccepted}
use Rattle.mt_regs.specs.FirstFault.{is_undefined}
use Rattle.mt_regs.specs.PageTypes.{page_type, page_type_among}
use Rattle.mt_types.specs.declared.run.Run.{Run}
use Rattle.mt_types.specs.Runs.{HasKind, IsRunsOf, kind_at}
use Rattle.mt_tidy.specs.Cost.{cost, whole_cost, wish}
use Rattle.mt_tidy.specs.Keeps.{IsLeast, KeepsTypes}
use Rattle.mt_tidy.specs.Ranges.{InOrder, IsAllowed, types_at}
use Rattle.mt_tidy.specs.Tidied.{with_ranges}
use Rattle.mt_tidy.specs.Wanted.{IsLeastFor, IsRangeOf, IsWanted, is_supported_type}
use Rattle.mt_types_laws.specs.WorkedRanges.{holed}
use Rattle.mt_types_laws.specs.WorkedSmall.{apart, seven}
use Rattle.mt_tidy.proofs.Own.{least_is_least_for}
use Rattle.mt_tidy.proofs.WholeCost.{cost_is_least}

-- what holds of each number below one
abbrev pub Below : (ℕ → Type 0) → ℕ → Type 0
Below P zero = Unit {0}
Below P (suc n) = Below P n × P n

less_of : (a b : ℕ) → nat_lt a b ≡ true → a < b
less_of a b e = grind (arith, nat_tests, e)

not_less : (a b : ℕ) → nat_lt a b ≡ false → b ≤ a
not_less a b e = grind (arith, nat_tests, e)

pub at : (P : ℕ → Type 0) (n page : ℕ) → Below P n → page < n → P page
at P zero page all within = absurd (omega (arith, within))
at P (suc n) page all within = one (nat_lt page n) refl (λ is. at P n page all.0 (less_of page n is))
  where
    one : (less : Bool) → nat_lt page n ≡ less → (nat_lt page n ≡ true → P page) → P page
    one true is lower = lower is
    one false is lower = subst P {x = n} {y = page} (omega (arith, within, not_less page n is)) all.1

-- ---- the types

given_types : Below (λ page. kind_at seven page ≡ page_type_among apart (types_at holed page) page) 16
given_types = ((((((((((((((((tt, refl), refl), refl), refl), refl), refl), refl), refl), refl), refl), refl), refl), refl), refl), refl), refl)

own_types : Below (λ page. kind_at seven page ≡ page_type apart page) 16
own_types = ((((((((((((((((tt, refl), refl), refl), refl), refl), refl), refl), refl), refl), refl), refl), refl), refl), refl), refl), refl)

new_types : Below (λ page. kind_at seven page ≡ page_type (with_ranges apart holed) page) 16
new_types = ((((((((((((((((tt, refl), refl), refl), refl), refl), refl), refl), refl), refl), refl), refl), refl), refl), refl), refl), refl)

some_types : Below (λ page. is_undefined (kind_at seven page) ≡ false) 16
some_types = ((((((((((((((((tt, refl), refl), refl), refl), refl), refl), refl), refl), refl), refl), refl), refl), refl), refl), refl), refl)

pub given_type : (page : ℕ) → page < 16 → kind_at seven page ≡ page_type_among apart (types_at holed page) page
given_type page within = at (λ p. kind_at seven p ≡ page_type_among apart (types_at holed p) p) 16 page given_types within

pub own_type : (page : ℕ) → page < 16 → kind_at seven page ≡ page_type apart page
own_type page within = at (λ p. kind_at seven p ≡ page_type apart p) 16 page own_types within

pub new_type : (page : ℕ) → page < 16 → kind_at seven page ≡ page_type (with_ranges apart holed) page
new_type page within = at (λ p. kind_at seven p ≡ page_type (with_ranges apart holed) p) 16 page new_types within

some_type : (page : ℕ) → page < 16 → kind_at seven page ≢ Undefined
some_type page within e = absurd (cc (sym (at (λ p. is_undefined (kind_at seven p) ≡ false) 16 page some_types within) ∙ ap is_undefined e))

pub accepted : IsAccepted apart
accepted = λ page within undefined. some_type page within (own_type page within ∙ undefined)

pub new_accepted : IsAccepted (with_ranges apart holed)
new_accepted = λ page within undefined. some_type page within (new_type page within ∙ undefined)

-- ---- the two ranges

ranges_of : All (IsRangeOf apart) holed
ranges_of = search rules

pub keeps : KeepsTypes apart holed
keeps = record {
  ranges_of = ranges_of;
  same_types = λ page within. sym (given_type page within) ∙ own_type page within;
  defined = λ page within undefined. some_type page within (own_type page within ∙ undefined);
}

pub allowed : IsAllowed 0x8000 holed
allowed = ((λ s. omega arith, tt), (tt, tt))

pub in_order : InOrder holed
in_order = search rules

-- ---- least numbers

pub wanted : IsWanted apart seven
wanted = record { chain = (refl, omega arith, (refl, omega arith, tt)); whole = refl; supported = each }
  where
    each : (k : ℕ) (d : Run) → k < 2 → (t : MemType) × ((slice_index_or seven k d).kind ≡ Kind t) × IsTrue (is_supported_type apart t)
    each zero d within = (WB, refl, refl)
    each (suc zero) d within = (UC, refl, refl)
    each (suc (suc k)) d within = absurd (omega (arith, within))

pub cost_two : whole_cost apart seven 0x8000 ≡ Some 2
unfolding cost wish
cost_two = refl

pub cost_three : whole_cost apart seven 0x7fff ≡ Some 3
unfolding cost wish
cost_three = refl

number : (a b : ℕ) → Some a ≡ Some b → a ≡ b
number a b is = ap (λ (o : Option ℕ). option_map_or (λ v. v) o 0) is

least_by : (chunk count : ℕ) → whole_cost apart seven chunk ≡ Some count → IsLeastFor apart seven chunk count
least_by chunk count is =
    let found = cost_is_least apart seven chunk refl wanted in
    subst (IsLeastFor apart seven chunk) (number found.0 count (sym found.1 ∙ is)) found.2

pub least_two : IsLeastFor apart seven 0x8000 2
least_two = least_by 0x8000 2 cost_two

low : (page : ℕ) → page < 7 → nat_lt page 7 ≡ true
low page small = grind (arith, nat_tests, small)

high : (page : ℕ) → 7 ≤ page → nat_lt page 7 ≡ false
high page large = grind (arith, nat_tests, large)

within_all : (page : ℕ) → page < 16 → nat_lt page 16 ≡ true
within_all page small = grind (arith, nat_tests, small)

own_kinds : (k : ℕ) (d : Run) → k < 2 → HasKind apart (slice_index_or seven k d)
own_kinds zero d within page has = sym (own_type page (omega (arith, has.1))) ∙ rw (low page has.1) refl
own_kinds (suc zero) d within page has = sym (own_type page has.1) ∙ rw (high page has.0, within_all page has.1) refl
own_kinds (suc (suc k)) d within page has = absurd (omega (arith, within))

own_runs : IsRunsOf apart seven
own_runs = record {
  map = record { chain = (refl, omega arith, (refl, omega arith, tt)); some = omega arith; bound = omega arith; differ = ((λ same. absurd (cc same)), tt) };
  whole = refl;
  kinds = own_kinds;
}

pub own_least_two : IsLeast apart 0x8000 2
own_least_two = (least_is_least_for apart accepted refl seven own_runs 0x8000 2).1 least_two
