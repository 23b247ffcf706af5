-- Ranges in ascending order, and the memory of pages.
use Rattle.std.proofs.Common.{◌≡◌, ◌∙◌, ℕ, zero, suc, ◌+◌, ◌<◌, ◌≤◌, Bool, true, false, List, [], ◌∷◌, length, Some, None, sym, ap, subst, inl, inr, refl, arith}
use Rattle.std.specs.Prelude.{cond, nat_lt, not, slice_get}
use Rattle.std.specs.List.{AllWithin, find, slice_index_or}
use Rattle.std.specs.Option.{option_map}
use Rattle.std.proofs.lemmas.Bool.{cases_Bool, cases_lt}
use Rattle.std.proofs.lemmas.Bool.Decides.{nat_tests}
use Rattle.mt_memory_kinds.specs.declared.kind.MemoryRange.{MemoryRange}
use Rattle.mt_memory_kinds.specs.Ranges.{AreAscending}
use Rattle.mt_explain.specs.Memory.{is_in, memory_at}

pub less : (a b : ℕ) → a < b → nat_lt a b ≡ true
less a b below = grind (arith, nat_tests, below)

not_less : (a b : ℕ) → b ≤ a → nat_lt a b ≡ false
not_less a b above = grind (arith, nat_tests, above)

in_below : (page : ℕ) (r : MemoryRange) → page < r.first → is_in page r ≡ false
in_below page r below = rw (less page r.first below) refl

in_above : (page : ℕ) (r : MemoryRange) → r.last < page → is_in page r ≡ false
in_above page r above = elim (cases_Bool (nat_lt page r.first)) [
  | inl b ↦ rw b refl
  | inr b ↦ rw (b, less r.last page above) refl
]

in_within : (page : ℕ) (r : MemoryRange) → r.first ≤ page → page ≤ r.last → is_in page r ≡ true
in_within page r low high = rw (not_less page r.first low, not_less r.last page high) refl

passed_by : (page : ℕ) (r : MemoryRange) (rs : List MemoryRange) → is_in page r ≡ false → memory_at (r ∷ rs) page ≡ memory_at rs page
passed_by page r rs is = ap (λ b. option_map (λ (s : MemoryRange). s.kind) (cond b (Some r) (find (is_in page) rs))) is

found_in : (page : ℕ) (r : MemoryRange) (rs : List MemoryRange) → is_in page r ≡ true → memory_at (r ∷ rs) page ≡ Some r.kind
found_in page r rs is = ap (λ b. option_map (λ (s : MemoryRange). s.kind) (cond b (Some r) (find (is_in page) rs))) is

-- a page before all ranges
before_all : (from page : ℕ) (ranges : List MemoryRange) → AreAscending from ranges → page < from → memory_at ranges page ≡ None
before_all from page [] order below = refl
before_all from page (r ∷ rs) order below =
    passed_by page r rs (in_below page r (omega (arith, order.0, below))) ∙ before_all (r.last + 1) page rs order.2 (omega (arith, order.0, order.1, below))

-- a range that ends before a page isn't the first one that doesn't
goes_on : (page : ℕ) (r : MemoryRange) (rs : List MemoryRange) → r.last < page
    → find (λ (s : MemoryRange). not (nat_lt s.last page)) (r ∷ rs) ≡ find (λ (s : MemoryRange). not (nat_lt s.last page)) rs
goes_on page r rs past = ap (λ b. cond (not b) (Some r) (find (λ (s : MemoryRange). not (nat_lt s.last page)) rs)) (less r.last page past)

ends : (page : ℕ) (r : MemoryRange) (rs : List MemoryRange) → page ≤ r.last → find (λ (s : MemoryRange). not (nat_lt s.last page)) (r ∷ rs) ≡ Some r
ends page r rs within = ap (λ b. cond (not b) (Some r) (find (λ (s : MemoryRange). not (nat_lt s.last page)) rs)) (not_less r.last page within)

-- no range ends at a page or behind it
pub past_all : (from page other : ℕ) (ranges : List MemoryRange) → AreAscending from ranges → page ≤ other → find (λ (s : MemoryRange). not (nat_lt s.last page)) ranges ≡ None
    → memory_at ranges other ≡ None
past_all from page other [] order above none = refl
past_all from page other (r ∷ rs) order above none = elim (cases_lt r.last page) [
  | inl past ↦ passed_by other r rs (in_above other r (omega (arith, past, above))) ∙ past_all (r.last + 1) page other rs order.2 above (sym (goes_on page r rs past) ∙ none)
  | inr within ↦ absurd (cc (sym (ends page r rs within) ∙ none))
]

-- what the first range that ends at a page or behind it says of the pages from there on
pub record IsNext (ranges : List MemoryRange) (page : ℕ) (r : MemoryRange) : Type 0 where
  pub some : r.first ≤ r.last
  pub end : page ≤ r.last
  pub before : (other : ℕ) → page ≤ other → other < r.first → memory_at ranges other ≡ None
  pub inside : (other : ℕ) → page ≤ other → r.first ≤ other → other ≤ r.last → memory_at ranges other ≡ Some r.kind

pub is_next : (from page : ℕ) (ranges : List MemoryRange) (r : MemoryRange) → AreAscending from ranges → find (λ (s : MemoryRange). not (nat_lt s.last page)) ranges ≡ Some r → IsNext ranges page r
is_next from page [] r order is = absurd (cc is)
is_next from page (s ∷ ss) r order is = elim (cases_lt s.last page) [
  | inl past ↦
      let later = is_next (s.last + 1) page ss r order.2 (sym (goes_on page s ss past) ∙ is) in
      record {
        some = later.some;
        end = later.end;
        before = λ other low high. passed_by other s ss (in_above other s (omega (arith, past, low))) ∙ later.before other low high;
        inside = λ other low first last. passed_by other s ss (in_above other s (omega (arith, past, low))) ∙ later.inside other low first last;
      }
  | inr within ↦
      let same : Some s ≡ Some r = sym (ends page s ss within) ∙ is in
      let e : s ≡ r = cc same in
      let P : MemoryRange → Type 0 = λ t. IsNext (s ∷ ss) page t in
      let here : IsNext (s ∷ ss) page s = record {
        some = order.1;
        end = within;
        before = λ other low high. passed_by other s ss (in_below other s high) ∙ before_all (s.last + 1) other ss order.2 (omega (arith, high, order.1));
        inside = λ other low first last. found_in other s ss (in_within other s first last);
      } in
      subst P e here
]

-- later ranges end later
ends_above : (from k : ℕ) (d : MemoryRange) (ranges : List MemoryRange) → AreAscending from ranges → k < length ranges → from ≤ (slice_index_or ranges k d).last
ends_above from k d [] order within = absurd (omega (arith, within))
ends_above from zero d (r ∷ rs) order within = omega (arith, order.0, order.1)
ends_above from (suc k) d (r ∷ rs) order within =
    let later = ends_above (r.last + 1) k d rs order.2 (omega (arith, within)) in
    omega (arith, order.0, order.1, later)

pub rise : (from i j : ℕ) (d : MemoryRange) (ranges : List MemoryRange) → AreAscending from ranges → i ≤ j → j < length ranges
    → (slice_index_or ranges i d).last ≤ (slice_index_or ranges j d).last
rise from i j d [] order up within = absurd (omega (arith, within))
rise from zero zero d (r ∷ rs) order up within = omega arith
rise from zero (suc j) d (r ∷ rs) order up within = let later = ends_above (r.last + 1) j d rs order.2 (omega (arith, within)) in omega (arith, later)
rise from (suc i) zero d (r ∷ rs) order up within = absurd (omega (arith, up))
rise from (suc i) (suc j) d (r ∷ rs) order up within = rise (r.last + 1) i j d rs order.2 (omega (arith, up)) (omega (arith, within))

-- the element behind those that pass a test is the first one that doesn't
pub found_behind : {A : Type 0} (p : A → Bool) (xs : List A) (i : ℕ) → AllWithin (λ x. p x ≡ true) xs 0 i → AllWithin (λ x. p x ≡ false) xs i (length xs)
    → slice_get xs i ≡ find (λ x. not (p x)) xs
found_behind p [] i pass fail = refl
found_behind p (x ∷ xs) zero pass fail = sym (ap (λ b. cond (not b) (Some x) (find (λ y. not (p y)) xs)) (fail 0 x (omega arith) (omega arith)))
found_behind p (x ∷ xs) (suc i) pass fail =
    found_behind p xs i (λ k d low high. pass (suc k) d (omega arith) (omega (arith, high))) (λ k d low high. fail (suc k) d (omega (arith, low)) (omega (arith, high)))
    ∙ sym (ap (λ b. cond (not b) (Some x) (find (λ y. not (p y)) xs)) (pass 0 x (omega arith) (omega arith)))
