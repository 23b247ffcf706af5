-- A mask is put into its place: which caches may have which lines then.
use Rattle.std.proofs.Common.{◌≡◌, ◌∙◌, ap, sym, refl, arith, ℕ, ◌+◌, ◌-◌, ◌<◌, ◌≤◌, ◌%◌, ◌/◌, ◌^◌, ◌==◌, Bool, true, false, if◌then◌else◌, List, [], ◌∷◌, zero, suc, length, bit_and, bit_or, ⊎_elim, w16}
use Rattle.std.specs.Prelude.{min, nat_lt, slice_index_or, slice_set}
use Rattle.std.specs.Int.{bit_at, bit_not, trailing_zeros}
use Rattle.std.proofs.Math.Pow.{shr-shr}
use Rattle.std.proofs.lemmas.Bool.{cases_eq, cases_lt, lt-ltb, ltb-true}
use Rattle.std.proofs.lemmas.List.{get_or-set_other, get_or-set_same, get_or_past, set_past}
use Rattle.std.proofs.lemmas.Nat.{pow_below}
use Rattle.std.proofs.lemmas.Nat.Bits.{bit_at-lt, bit_at-pow_other, bit_at-trailing_zeros, bit_at-zero, bit_at_above, bit_at_and, bit_at_not, bit_at_ones}
use Rattle.mt_kinds.specs.Bits.{is_bit_set}
use Rattle.mt_laws.proofs.Words.BitLaws.{set_other, set_same}
use Rattle.mt_bus.specs.Holders.{Covers, CoversBut, CoversOthers, mask_of, may_hold}

within : (b : Bool) → b ≡ true → (x : Bool) → (if b then x else true) ≡ x
within true is x = refl
within false is x = absurd (let e : false ≡ true = is in cc e)

-- a processor with a bit
by_bit : (masks : List ℕ) (k n : ℕ) → k < 16 → may_hold masks k n ≡ is_bit_set (mask_of masks n) k
by_bit masks k n small = within (nat_lt k 16) (lt-ltb k 16 small) (is_bit_set (mask_of masks n) k)

mask_there : (masks : List ℕ) (n m : ℕ) → n % 4096 < length masks → mask_of (slice_set masks (n % 4096) m) n ≡ m
mask_there masks n m there = get_or-set_same masks (n % 4096) m 0xffff there

-- what holds before holds after, where the mask that is put in has the bit too
put_keeps : (masks : List ℕ) (n m j i : ℕ) → (i % 4096 ≡ n % 4096 → j < 16 → is_bit_set (mask_of masks n) j ≡ true → is_bit_set m j ≡ true)
    → may_hold masks j i ≡ true → may_hold (slice_set masks (n % 4096) m) j i ≡ true
put_keeps masks n m j i given before = by_test (nat_lt j 16) refl before
  where
    by_test : (b : Bool) → nat_lt j 16 ≡ b → (if b then is_bit_set (mask_of masks i) j else true) ≡ true → (if b then is_bit_set (mask_of (slice_set masks (n % 4096) m) i) j else true) ≡ true
    by_test false is h = refl
    by_test true is h = ⊎_elim same other (cases_eq (i % 4096) (n % 4096))
      where
        small : j < 16
        small = ltb-true j 16 is

        same : i % 4096 ≡ n % 4096 → is_bit_set (mask_of (slice_set masks (n % 4096) m) i) j ≡ true
        same e = ⊎_elim there past (cases_lt (n % 4096) (length masks))
          where
            at : (hs : List ℕ) → mask_of hs i ≡ mask_of hs n
            at hs = ap (λ r. slice_index_or hs r 0xffff) e

            there : n % 4096 < length masks → is_bit_set (mask_of (slice_set masks (n % 4096) m) i) j ≡ true
            there lt = ap (λ x. is_bit_set x j) (at (slice_set masks (n % 4096) m) ∙ mask_there masks n m lt) ∙ given e small (ap (λ x. is_bit_set x j) (sym (at masks)) ∙ h)

            past : length masks ≤ n % 4096 → is_bit_set (mask_of (slice_set masks (n % 4096) m) i) j ≡ true
            past le = ap (λ (hs : List ℕ). is_bit_set (mask_of hs i) j) (set_past masks (n % 4096) m le) ∙ h

        other : (i % 4096 ≡ n % 4096 → ⊥) → is_bit_set (mask_of (slice_set masks (n % 4096) m) i) j ≡ true
        other ne = ap (λ x. is_bit_set x j) (get_or-set_other masks (n % 4096) (i % 4096) m 0xffff ne) ∙ h

-- ---- a bit more

all_bits : (k : ℕ) → k < 16 → is_bit_set 0xffff k ≡ true
all_bits k small = ap (λ b. b == 1) (bit_at_ones 16 k small)

-- where all bits are set, or there are no masks
pub full_may : (masks : List ℕ) → ((r : ℕ) → slice_index_or masks r 0xffff ≡ 0xffff) → (k n : ℕ) → may_hold masks k n ≡ true
full_may masks full k n = one (nat_lt k 16) refl
  where
    one : (b : Bool) → nat_lt k 16 ≡ b → (if b then is_bit_set (mask_of masks n) k else true) ≡ true
    one true is = ap (λ x. is_bit_set x k) (full (n % 4096)) ∙ all_bits k (ltb-true k 16 is)
    one false is = refl

pub one_more_set : (masks : List ℕ) (i : ℕ) → i < length masks → ((r : ℕ) → r < i → slice_index_or masks r 0xffff ≡ 0xffff)
    → (r : ℕ) → r < i + 1 → slice_index_or (slice_set masks i 0xffff) r 0xffff ≡ 0xffff
one_more_set masks i within before r low =
    ⊎_elim (λ (e : r ≡ i). ap (λ x. slice_index_or (slice_set masks i 0xffff) x 0xffff) e ∙ get_or-set_same masks i 0xffff 0xffff within)
    (λ (ne : r ≡ i → ⊥). get_or-set_other masks i r 0xffff 0xffff ne ∙ before r (omega (arith, low, ne))) (cases_eq r i)

pub bit_added : (masks : List ℕ) (k n : ℕ) → k < 16 → may_hold (slice_set masks (n % 4096) (bit_or (mask_of masks n) (2 ^ k))) k n ≡ true
bit_added masks k n small = by_bit (slice_set masks (n % 4096) more) k n small ∙ ⊎_elim there past (cases_lt (n % 4096) (length masks))
  where
    more : ℕ
    more = bit_or (mask_of masks n) (2 ^ k)

    there : n % 4096 < length masks → is_bit_set (mask_of (slice_set masks (n % 4096) more) n) k ≡ true
    there lt = ap (λ x. is_bit_set x k) (mask_there masks n more lt) ∙ set_same (mask_of masks n) k

    past : length masks ≤ n % 4096 → is_bit_set (mask_of (slice_set masks (n % 4096) more) n) k ≡ true
    past le =
        ap (λ (hs : List ℕ). is_bit_set (mask_of hs n) k) (set_past masks (n % 4096) more le)
        ∙ ap (λ x. is_bit_set x k) (get_or_past masks (n % 4096) 0xffff le)
        ∙ all_bits k small

pub bit_covers : (masks : List ℕ) (k n : ℕ) → Covers (slice_set masks (n % 4096) (bit_or (mask_of masks n) (2 ^ k))) masks
bit_covers masks k n = record { each = λ j i before. put_keeps masks n (bit_or (mask_of masks n) (2 ^ k)) j i (λ e small h. more j h) before }
  where
    more : (j : ℕ) → is_bit_set (mask_of masks n) j ≡ true → is_bit_set (bit_or (mask_of masks n) (2 ^ k)) j ≡ true
    more j h = ⊎_elim (λ (e : j ≡ k). ap (is_bit_set (bit_or (mask_of masks n) (2 ^ k))) e ∙ set_same (mask_of masks n) k) (λ (ne : j ≡ k → ⊥). set_other (mask_of masks n) k j ne ∙ h) (cases_eq j k)

-- ---- a bit less

min_one : (b : ℕ) → b < 2 → min b 1 ≡ b
min_one b h = omega arith

clear_other : (x k j : ℕ) → k < 16 → j < 16 → (j ≡ k → ⊥) → is_bit_set (bit_and x (bit_not w16 (2 ^ k))) j ≡ is_bit_set x j
clear_other x k j small low other =
    ap (λ b. b == 1)
    (bit_at_and x (bit_not w16 (2 ^ k)) j
    ∙ ap (min (bit_at x j)) (bit_at_not w16 (2 ^ k) j (pow_below k 16 small) low ∙ ap (λ b. 1 - b) (bit_at-pow_other k j other))
    ∙ min_one (bit_at x j) (bit_at-lt x j))

pub bit_cleared : (masks : List ℕ) (k n : ℕ) → k < 16 → CoversBut k n (slice_set masks (n % 4096) (bit_and (mask_of masks n) (bit_not w16 (2 ^ k)))) masks
bit_cleared masks k n small = record {
  each = λ j i apart before.
      put_keeps masks n (bit_and (mask_of masks n) (bit_not w16 (2 ^ k))) j i
      (λ e low h. clear_other (mask_of masks n) k j small low (λ is. apart is e) ∙ h) before;
}

-- the same in any place of the table
pub covers_cleared : (masks : List ℕ) (k r m : ℕ) → k < 16 → m ≡ bit_and (slice_index_or masks r 0xffff) (bit_not w16 (2 ^ k)) → CoversOthers k (slice_set masks r m) masks
covers_cleared masks k r m small is = record { each = λ j i ne before. ⊎_elim (low j i ne before) (high j i before) (cases_lt r 4096) }
  where
    low : (j i : ℕ) → (j ≡ k → ⊥) → may_hold masks j i ≡ true → r < 4096 → may_hold (slice_set masks r m) j i ≡ true
    low j i ne before lt =
        let same : r % 4096 ≡ r = omega arith in
        ap (λ x. may_hold (slice_set masks x m) j i) (sym same)
        ∙ put_keeps masks r m j i
        (λ e few h. ap (λ x. is_bit_set x j) (is ∙ ap (λ x. bit_and (slice_index_or masks x 0xffff) (bit_not w16 (2 ^ k))) (sym same)) ∙ clear_other (mask_of masks r) k j small few ne ∙ h) before

    high : (j i : ℕ) → may_hold masks j i ≡ true → 4096 ≤ r → may_hold (slice_set masks r m) j i ≡ true
    high j i before ge = ap (λ x. if nat_lt j 16 then is_bit_set x j else true) (get_or-set_other masks r (i % 4096) m 0xffff (λ e. omega (arith, e))) ∙ before

-- a place within a list has no need of a default
pub same_within : (xs : List ℕ) (i d e : ℕ) → i < length xs → slice_index_or xs i d ≡ slice_index_or xs i e
same_within [] i d e low = absurd (omega (arith, low))
same_within (x ∷ xs) zero d e low = refl
same_within (x ∷ xs) (suc i) d e low = same_within xs i d e (omega (arith, low))

pub covers_on : (k : ℕ) (masks others first : List ℕ) → CoversOthers k masks others → CoversOthers k others first → CoversOthers k masks first
covers_on k masks others first more before = record { each = λ j i ne h. more.each j i ne (before.each j i ne h) }

-- ---- masks that have no bit but one

pub one_bit : (masks : List ℕ) (k n : ℕ) → mask_of masks n ≡ 2 ^ k → (j : ℕ) → j < 16 → (j ≡ k → ⊥) → may_hold masks j n ≡ false
one_bit masks k n is j small other =
    by_bit masks j n small ∙ ap (λ x. is_bit_set x j) is ∙ ap (λ b. b == 1) (bit_at-pow_other k j other)

-- ---- the bits from number i on

shifted : (x i j : ℕ) → bit_at (x / 2 ^ i) j ≡ bit_at x (i + j)
shifted x i j = ap (λ y. y % 2) (shr-shr x i j)

skipped_bit : (masks : List ℕ) (n i j : ℕ) → i ≤ j → j < 16 → bit_at (mask_of masks n / 2 ^ i) (j - i) ≡ 0 → may_hold masks j n ≡ false
skipped_bit masks n i j from small clear =
    let at : j ≡ i + (j - i) = omega (arith, from) in
    by_bit masks j n small
    ∙ ap (λ b. b == 1) (ap (bit_at (mask_of masks n)) at ∙ sym (shifted (mask_of masks n) i (j - i)) ∙ clear)

pub skipped_all : (masks : List ℕ) (n i m : ℕ) → m ≡ mask_of masks n → m / 2 ^ i ≡ 0 → (j : ℕ) → i ≤ j → j < 16 → may_hold masks j n ≡ false
skipped_all masks n i m of none j from small =
    skipped_bit masks n i j from small (ap (λ x. bit_at x (j - i)) (ap (λ x. x / 2 ^ i) (sym of) ∙ none) ∙ bit_at-zero (j - i))

-- the lowest of them
module _ (masks : List ℕ) (n i m : ℕ) (of : m ≡ mask_of masks n) (fits : m < 2 ^ 16) (some : m / 2 ^ i ≡ 0 → ⊥) where
  abbrev steps : ℕ
  steps = trailing_zeros w16 (m / 2 ^ i)

  lowest : (steps < 16) × (bit_at (m / 2 ^ i) steps ≡ 1) × ((j : ℕ) → j < steps → bit_at (m / 2 ^ i) j ≡ 0)
  lowest = bit_at-trailing_zeros w16 (m / 2 ^ i) (omega (arith, some)) (omega (arith, fits))

  low : i + steps < 16
  low =
      ⊎_elim (λ (lt : i + steps < 16). lt)
      (λ (ge : 16 ≤ i + steps).
      absurd
      (let bit = sym lowest.1 ∙ shifted m i steps ∙ bit_at_above m 16 (i + steps) fits ge in
      let no : 1 ≡ 0 = bit in
      omega (arith, no)))
      (cases_lt (i + steps) 16)

  pub skipped_below : (j : ℕ) → i ≤ j → j < i + steps → may_hold masks j n ≡ false
  skipped_below j from below =
      skipped_bit masks n i j from (omega (arith, below, low))
      (ap (λ x. bit_at (x / 2 ^ i) (j - i)) (sym of) ∙ lowest.2 (j - i) (omega (arith, from, below)))

  pub lowest_holds : may_hold masks (i + steps) n ≡ true
  lowest_holds =
      by_bit masks (i + steps) n low
      ∙ ap (λ b. b == 1) (ap (λ x. bit_at x (i + steps)) (sym of) ∙ sym (shifted m i steps) ∙ lowest.1)
