-- Sizes that are powers of two, and the blocks of good ranges.
use Rattle.std.proofs.Common.{◌≡◌, ◌∙◌, ap, sym, refl, arith, ℕ, ◌+◌, ◌-◌, ◌*◌, ◌/◌, ◌%◌, ◌^◌, ◌<◌, ◌≤◌, ◌==◌, nat_le, Bool, true, false, length, get_or, Option, None, Some, inl, inr}
use Rattle.std.specs.Prelude.{◌&&◌, ◌↔◌, if◌then◌else◌}
use Rattle.std.specs.List.{range_with_len}
use Rattle.std.proofs.Math.Nat.{div-add-mod, mul_assoc, mul-mod_left, mul_comm}
use Rattle.std.proofs.lemmas.Nat.{pow-add}
use Rattle.std.proofs.lemmas.Bool.{and_parts, cases_Bool, cases_lt, eq-eqb, eqb-true, leb-true}
use Rattle.std.proofs.lemmas.Bool.Decides.{nat_tests}
use Rattle.std.proofs.lemmas.List.Folds.{Any-from_list_any, list_any_at}
use Rattle.std.proofs.lemmas.List.FromFn.{get_or-range_with_len, length-range_with_len}
use Rattle.mt_ranges.proofs.Powers.{log_le, pow_below}
use Rattle.mt_ranges.specs.Match.{made_mask}
use Rattle.mt_regs.specs.RegisterFile.{RegisterFile}
use Rattle.mt_kinds.specs.declared.mem_type.MemType.{MemType}
use Rattle.mt_proc.specs.Applied.{IsGoodRange, applied, first_free, into_free, is_good_range, is_size, range_pair}
use Rattle.mt_proc.specs.declared.applying.Applied.TheVariants.{BadRange}
use Rattle.mt_proc.specs.declared.request.Request.TheVariants.{Range}

-- ---- sizes

pub power_is_size : (size k : ℕ) → 12 ≤ k → k < 64 → size ≡ 2 ^ k → is_size size ≡ true
unfolding is_size
power_is_size size k above below is =
    let at : get_or (range_with_len 12 52) (k - 12) 0 ≡ 12 + (k - 12) = get_or-range_with_len 12 52 (k - 12) 0 (omega arith) in
    let number : get_or (range_with_len 12 52) (k - 12) 0 ≡ k = omega (arith, at) in
    let within : k - 12 < length (range_with_len 12 52) = omega (arith, length-range_with_len 12 52) in
    list_any_at (λ j. size == 2 ^ j) (range_with_len 12 52) (k - 12) 0 within (ap (λ j. size == 2 ^ j) number ∙ eq-eqb size (2 ^ k) is)

pub size_is_power : (size : ℕ) → is_size size ≡ true → (k : ℕ) × (12 ≤ k) × (k < 64) × (size ≡ 2 ^ k)
unfolding is_size
size_is_power size is =
    let (i, k, within, at, power) = Any-from_list_any (λ j. size == 2 ^ j) (range_with_len 12 52) is in
    let below : i < 52 = omega (arith, within, length-range_with_len 12 52) in
    let number : k ≡ 12 + i = sym at ∙ get_or-range_with_len 12 52 i k below in
    (k, omega arith, omega arith, eqb-true size (2 ^ k) power)

pub no_power_no_size : (size : ℕ) → ((k : ℕ) → 12 ≤ k → k < 64 → size ≡ 2 ^ k → ⊥) → is_size size ≡ false
no_power_no_size size none = elim (cases_Bool (is_size size)) [
  | inl is ↦ let (k, above, below, power) = size_is_power size is in absurd (none k above below power)
  | inr not ↦ not
]

-- a number between two powers that follow one another is none
pub between_powers : (size k j : ℕ) → 2 ^ k ≤ size → size < 2 * 2 ^ k → size ≡ 2 ^ j → j ≡ k
between_powers size k j low high is =
    let double : 2 ^ (k + 1) ≡ 2 ^ k * 2 ^ 1 = pow-add 2 k 1 in
    let from : k ≤ j = log_le k j (omega arith) in
    elim (cases_lt k j) [
      | inl above ↦ let step : 2 ^ (k + 1) ≤ 2 ^ j = pow_below (k + 1) j (omega arith) in absurd (omega arith)
      | inr level ↦ omega arith
    ]

-- what lies below the next power is no size of a page
pub page_reaches : (size k : ℕ) → 4096 ≤ size → size < 2 * 2 ^ k → 12 ≤ k
page_reaches size k some high = elim (cases_lt k 12) [
  | inl below ↦
      let double : 2 ^ (k + 1) ≡ 2 ^ k * 2 ^ 1 = pow-add 2 k 1 in
      let step : 2 ^ (k + 1) ≤ 2 ^ 12 = pow_below (k + 1) 12 (omega arith) in
      absurd (omega arith)
  | inr above ↦ omega arith
]

-- a power in pages
pub in_pages : (k : ℕ) → 12 ≤ k → 2 ^ k ≡ 4096 * 2 ^ (k - 12)
in_pages k above =
    let sum : 12 + (k - 12) ≡ k = omega arith in
    ap (λ n. 2 ^ n) (sym sum) ∙ pow-add 2 12 (k - 12)

-- ---- good ranges

-- a range of so many bytes begins with a page, at a multiple of its size in pages
pub record HasPages (base pages : ℕ) : Type 0 where
  pub first : base ≡ 4096 * (base / 4096)
  pub aligned : base / 4096 % pages ≡ 0

pub pages_of : (base pages : ℕ) → base % (4096 * pages) ≡ 0 → HasPages base pages
pages_of base pages aligned =
    let whole = div-add-mod base (4096 * pages) in
    let parts : 4096 * pages * (base / (4096 * pages)) ≡ 4096 * (pages * (base / (4096 * pages))) = mul_assoc 4096 pages (base / (4096 * pages)) in
    let is : base ≡ 4096 * (pages * (base / (4096 * pages))) = omega (arith, whole, parts, aligned) in
    let number : base / 4096 ≡ pages * (base / (4096 * pages)) = omega (arith, is) in
    record {
      first = omega (arith, is, number);
      aligned = ap (λ n. n % pages) (number ∙ mul_comm pages (base / (4096 * pages))) ∙ mul-mod_left (base / (4096 * pages)) pages;
    }

pub is_good : (m base size : ℕ) → is_size size ≡ true → base % size ≡ 0 → base + size ≤ 2 ^ m → is_good_range m base size ≡ true
is_good m base size sized aligned within =
    let reach : nat_le (base + size) (2 ^ m) ≡ true = grind (arith, nat_tests, within) in
    rw (sized, eq-eqb (base % size) 0 aligned, reach) refl

-- the test is what it stands for
pub good_parts : (m base size : ℕ) → is_good_range m base size ≡ true → IsGoodRange m base size
good_parts m base size good =
    let (front, within) = and_parts (is_size size && base % size == 0) (nat_le (base + size) (2 ^ m)) good in
    let (sized, aligned) = and_parts (is_size size) (base % size == 0) front in
    let (k, above, below, power) = size_is_power size sized in
    record { power = (k, above, power); aligned = eqb-true (base % size) 0 aligned; within = leb-true (base + size) (2 ^ m) within }

pub good_range : (m base size : ℕ) → m ≤ 52 → IsGoodRange m base size → is_good_range m base size ≡ true
good_range m base size narrow good =
    let (k, above, power) = good.power in
    let most = pow_below m 52 narrow in
    let below : k < 64 = elim (cases_lt k 64) [
      | inl few ↦ few
      | inr many ↦ let step = pow_below 64 k many in absurd (omega (arith, step, power, good.within, most))
    ] in
    is_good m base size (power_is_size size k above below power) good.aligned good.within

-- the pages of a range of a good size that ends within addresses of so many bits
pub record HasBlock (base size log m : ℕ) : Type 0 where
  pub good : is_good_range m base size ≡ true
  pub first : base ≡ 4096 * (base / 4096)
  pub aligned : base / 4096 % 2 ^ log ≡ 0
  pub small : log ≤ 40
  pub within : base / 4096 + 2 ^ log ≤ 2 ^ (m - 12)
  pub memory : base / 4096 + 2 ^ log ≤ 2 ^ 40

pub has_block : (base size log m : ℕ) → 32 ≤ m → m ≤ 52 → is_size size ≡ true → size ≡ 4096 * 2 ^ log → base % size ≡ 0 → base + size ≤ 2 ^ m → HasBlock base size log m
has_block base size log m wide narrow sized power multiple reach =
    let pages = pages_of base (2 ^ log) (ap (λ n. base % n) (sym power) ∙ multiple) in
    let whole = in_pages m (omega arith) in
    let within : base / 4096 + 2 ^ log ≤ 2 ^ (m - 12) = omega (arith, whole, pages.first, power, reach) in
    let most = pow_below (m - 12) 40 (omega arith) in
    record { good = is_good m base size sized multiple reach; first = pages.first; aligned = pages.aligned; small = log_le log 40 (omega arith); within = within; memory = omega arith }

-- the values of the pair of a block, by its first address and its bytes
pub block_pair : (base size first log m type_byte : ℕ) → 12 ≤ m → base ≡ 4096 * first → size ≡ 4096 * 2 ^ log → first + 2 ^ log ≤ 2 ^ (m - 12)
    → (4096 * first + type_byte ≡ base + type_byte) × (made_mask m log ≡ 2 ^ m - size + 2 ^ 11)
block_pair base size first log m type_byte wide is power within =
    let whole = in_pages m wide in
    (omega (arith, is), omega (arith, whole, power, within))

-- ---- refusals

pub bad_exactly : (f : RegisterFile) (base size : ℕ) (kind : MemType) → f.width ≤ 52 → (applied f (Range base size kind) ≡ BadRange) ↔ (IsGoodRange f.width base size → ⊥)
bad_exactly f base size kind narrow = by (is_good_range f.width base size) refl
  where
    not_bad : (free : Option ℕ) → into_free f (range_pair f.width base size kind) free ≡ BadRange → ⊥
    not_bad (Some n) is = cc is
    not_bad None is = cc is

    by : (good : Bool) → is_good_range f.width base size ≡ good
        → ((if good then into_free f (range_pair f.width base size kind) (first_free f.pairs) else BadRange) ≡ BadRange) ↔ (IsGoodRange f.width base size → ⊥)
    by true is = (λ bad. absurd (not_bad (first_free f.pairs) bad), λ none. absurd (none (good_parts f.width base size is)))
    by false is = (λ bad good. let e : false ≡ true = sym is ∙ good_range f.width base size narrow good in cc e, λ none. refl)
