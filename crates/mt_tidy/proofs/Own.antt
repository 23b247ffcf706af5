-- The types of an accepted file are supported, so its own runs can be wanted.
use Rattle.std.proofs.Common.{◌≡◌, ◌≢◌, ℕ, zero, suc, ◌+◌, ◌-◌, ◌*◌, ◌/◌, ◌<◌, ◌==◌, Bool, true, false, List, [], ◌∷◌, length, map, Option, Some, None, refl, sym, ap, ◌∙◌, ◌⊎◌, inl, inr, arith, subst}
use Rattle.std.specs.Prelude.{◌↔◌, not, ◌&&◌, ◌||◌, nat_lt, if◌then◌else◌, slice_get, slice_index, slice_index_or}
use Rattle.std.specs.Option.{option_or}
use Rattle.std.specs.List.{AllByRecursion, filter, list_all, list_any}
use Rattle.std.proofs.lemmas.Bool.{and_parts, cases_Bool, cases_lt, eqb-true, ltb-true, ltb-false}
use Rattle.std.proofs.lemmas.List.Elements.{recursion_from_All}
use Rattle.mt_kinds.specs.declared.mem_type.MemType.{MemType}
use Rattle.mt_kinds.specs.declared.mem_type.MemType.TheVariants.{UC, WT, WB}
use Rattle.mt_kinds.specs.Bits.{byte_at, is_bit_set}
use Rattle.mt_kinds.specs.Types.{byte_of_type}
use Rattle.mt_ranges.specs.FixedPart.{fixed_part}
use Rattle.mt_ranges.specs.Match.{matches_pair}
use Rattle.mt_regs.specs.declared.fault.Reason.{Reason}
use Rattle.mt_regs.specs.declared.fault.Reason.TheVariants.{ReservedBit, UnsupportedType, BrokenMask}
use Rattle.mt_regs.specs.declared.page_type.PageType.TheVariants.{Kind, Undefined}
use Rattle.mt_regs.specs.declared.registers.Register.{Register}
use Rattle.mt_regs.specs.declared.registers.Register.TheVariants.{PhysBase, FixedRange, DefaultType}
use Rattle.mt_regs.specs.RegisterFile.{RegisterFile, IsRegisterFile, has_fixed, has_write_combining, is_enabled, is_fixed_enabled, low_byte, page_count, pair_at, pair_count}
use Rattle.mt_regs.specs.Registers.{fixed_part_of, pair_registers, value_of, writable}
use Rattle.mt_regs.specs.PageTypes.{combined, fixed_type, is_type, listed_type, matching_types, page_type, page_type_among, pair_type}
use Rattle.mt_regs.specs.Faults.{IsAccepted, any_byte, fault_at, first_of, has_broken_mask, has_reserved_bit, has_unsupported_type, is_supported, reason_of}
use Rattle.mt_regs.proofs.Writable.{pairs_length, writable_base, writable_fixed, writable_last}
use Rattle.mt_types.specs.declared.run.Run.{Run}
use Rattle.mt_types.specs.Runs.{IsRunsOf, kind_at}
use Rattle.mt_types.proofs.Chains.{within_chain}
use Rattle.mt_types.proofs.SomeMap.{a_type_map}
use Rattle.mt_types.proofs.Reading.{kind_is, no_undefined}
use Rattle.mt_tidy.specs.declared.range.Range.{Range}
use Rattle.mt_tidy.specs.Ranges.{types_at}
use Rattle.mt_tidy.specs.Wanted.{Gives, IsLeastFor, IsWanted, is_free}
use Rattle.mt_tidy.specs.Keeps.{IsLeast, KeepsTypes}
use Rattle.mt_tidy.specs.Kept.{IsTidy, NeedsMore}
use Rattle.mt_tidy.specs.Tidied.{IsTidied, IsTooFew, tidying}
use Rattle.mt_tidy.specs.declared.fits.Tidied.{Tidied}
use Rattle.mt_tidy.proofs.Fitted.{checked_of}
use Rattle.mt_tidy.proofs.WholeCost.{cost_is_least}

left_none : {A : Type 0} (a b : Option A) → option_or a b ≡ None → a ≡ None
left_none None b h = refl
left_none (Some x) b h = h

right_none : {A : Type 0} (a b : Option A) → option_or a b ≡ None → b ≡ None
right_none None b h = h
right_none (Some x) b h = absurd (cc)

no_reason : (r : Register) (why : Option Reason) → fault_at r why ≡ None → why ≡ None
no_reason r None h = refl
no_reason r (Some why) h = absurd (cc)

sound_at : (f : RegisterFile) (rs : List Register) (i : ℕ) (r : Register) → first_of f rs ≡ None → slice_get rs i ≡ Some r → reason_of f r ≡ None
sound_at f [] i r h is = absurd (cc)
sound_at f (s ∷ rs) zero r h is =
    let same : s ≡ r = some_is s r is in
    subst (λ q. reason_of f q ≡ None) same (no_reason s (reason_of f s) (left_none _ _ h))
  where
    some_is : (a b : Register) → Some a ≡ Some b → a ≡ b
    some_is a b e = cc
sound_at f (s ∷ rs) (suc i) r h is = sound_at f rs i r (right_none _ _ h) is

-- the three tests that a sound register passes
record Tests (a b c : Bool) : Type 0 where
  bits_pass : a ≡ false
  type_passes : b ≡ false
  mask_passes : c ≡ false

tests_of : (a b c : Bool) → (if a then Some ReservedBit else if b then Some UnsupportedType else if c then Some BrokenMask else None) ≡ None → Tests a b c
tests_of true b c h = absurd (cc)
tests_of false true c h = absurd (cc)
tests_of false false true h = absurd (cc)
tests_of false false false h = record { bits_pass = refl; type_passes = refl; mask_passes = refl }

tests_for : (f : RegisterFile) (r : Register) → reason_of f r ≡ None
    → Tests (has_reserved_bit f r (value_of f r)) (has_unsupported_type f r (value_of f r)) (has_broken_mask f r (value_of f r))
tests_for f r h = tests_of (has_reserved_bit f r (value_of f r)) (has_unsupported_type f r (value_of f r)) (has_broken_mask f r (value_of f r)) h

not_false : (b : Bool) → not b ≡ false → b ≡ true
not_false true h = refl
not_false false h = absurd (cc)

or_left : (a b : Bool) → (a || b) ≡ false → a ≡ false
or_left true b h = h
or_left false b h = refl

or_right : (a b : Bool) → (a || b) ≡ false → b ≡ false
or_right true b h = absurd (cc)
or_right false b h = h

each_byte : (test : ℕ → Bool) (value n i : ℕ) → any_byte test value n ≡ false → i < n → test (byte_at value i) ≡ false
each_byte test value zero i h below = absurd (omega arith)
each_byte test value (suc n) i h below = elim (cases_lt i n) [
  | inl lower ↦ each_byte test value n i (or_left _ _ h) lower
  | inr top ↦
      let e : i ≡ n = omega arith in
      subst (λ k. test (byte_at value k) ≡ false) (sym e) (or_right (any_byte test value n) _ h)
]

listed_supported : (wc : Bool) (byte : ℕ) → is_supported wc byte ≡ true → is_supported wc (byte_of_type (listed_type byte)) ≡ true
listed_supported wc byte h = split (cases_Bool (byte == 0)) (cases_Bool (byte == 1)) (cases_Bool (byte == 4)) (cases_Bool (byte == 5)) (cases_Bool (byte == 6))
  where
    split : ((byte == 0) ≡ true) ⊎ ((byte == 0) ≡ false) → ((byte == 1) ≡ true) ⊎ ((byte == 1) ≡ false) → ((byte == 4) ≡ true) ⊎ ((byte == 4) ≡ false)
        → ((byte == 5) ≡ true) ⊎ ((byte == 5) ≡ false) → ((byte == 6) ≡ true) ⊎ ((byte == 6) ≡ false) → is_supported wc (byte_of_type (listed_type byte)) ≡ true
    split (inl a) b c d e = rw a refl
    split (inr a) (inl b) c d e =
        let one : byte ≡ 1 = eqb-true byte 1 b in
        subst (λ n. is_supported wc (byte_of_type (listed_type n)) ≡ true) (sym one) (subst (λ n. is_supported wc n ≡ true) one h)
    split (inr a) (inr b) (inl c) d e = rw (a, b, c) refl
    split (inr a) (inr b) (inr c) (inl d) e = rw (a, b, c, d) refl
    split (inr a) (inr b) (inr c) (inr d) (inl e) = rw (a, b, c, d, e) refl
    split (inr a) (inr b) (inr c) (inr d) (inr e) = rw (a, b, c, d, e) refl

part_bounds : (page : ℕ) → page < 256 → ((fixed_part page).0 < 11) × ((fixed_part page).1 < 8)
part_bounds page below = split (cases_Bool (nat_lt page 0x80)) (cases_Bool (nat_lt page 0xa0)) (cases_Bool (nat_lt page 0xc0))
  where
    split : (nat_lt page 0x80 ≡ true) ⊎ (nat_lt page 0x80 ≡ false) → (nat_lt page 0xa0 ≡ true) ⊎ (nat_lt page 0xa0 ≡ false) → (nat_lt page 0xc0 ≡ true) ⊎ (nat_lt page 0xc0 ≡ false)
        → ((fixed_part page).0 < 11) × ((fixed_part page).1 < 8)
    split (inl a) b c = let h = ltb-true page 0x80 a in rw a (omega arith, omega (arith, h))
    split (inr a) (inl b) c = let h = ltb-true page 0xa0 b in rw (a, b) (omega arith, omega (arith, h))
    split (inr a) (inr b) (inl c) = let h = ltb-true page 0xc0 c in rw (a, b, c) (omega arith, omega (arith, h))
    split (inr a) (inr b) (inr c) = let h = ltb-false page 0xc0 c in rw (a, b, c) (omega (arith, h, below), omega arith)

kept : (P : MemType → Type 0) (p : ℕ × ℕ → Bool) (kind : ℕ × ℕ → MemType) (pairs : List (ℕ × ℕ)) → AllByRecursion (λ pair. P (kind pair)) pairs
    → AllByRecursion P (map kind (filter p pairs))
kept P p kind [] all = tt
kept P p kind (x ∷ xs) all = split (cases_Bool (p x)) (kept P p kind xs all.1)
  where
    split : (p x ≡ true) ⊎ (p x ≡ false) → AllByRecursion P (map kind (filter p xs)) → AllByRecursion P (map kind (filter p (x ∷ xs)))
    split (inl e) later = rw e (all.0, later)
    split (inr e) later = rw e later

-- what types make is one of them, the default type, UC or WT
combined_has : (P : MemType → Type 0) (default : MemType) (types : List MemType) → P default → P UC → P WT → AllByRecursion P types → combined default types ≢ Undefined
    → (t : MemType) × (combined default types ≡ Kind t) × P t
combined_has P default [] of_default uc wt all defined = (default, refl, of_default)
combined_has P default (t ∷ ts) of_default uc wt all defined =
    split (cases_Bool (list_all (is_type t) ts)) (cases_Bool (list_any (is_type UC) (t ∷ ts))) (cases_Bool (list_all (λ u. is_type WT u || is_type WB u) (t ∷ ts)))
  where
    split : (list_all (is_type t) ts ≡ true) ⊎ (list_all (is_type t) ts ≡ false) → (list_any (is_type UC) (t ∷ ts) ≡ true) ⊎ (list_any (is_type UC) (t ∷ ts) ≡ false)
        → (list_all (λ u. is_type WT u || is_type WB u) (t ∷ ts) ≡ true) ⊎ (list_all (λ u. is_type WT u || is_type WB u) (t ∷ ts) ≡ false)
        → (u : MemType) × (combined default (t ∷ ts) ≡ Kind u) × P u
    split (inl a) b c = (t, rw a refl, all.0)
    split (inr a) (inl b) c = (UC, rw (a, b) refl, uc)
    split (inr a) (inr b) (inl c) = (WT, rw (a, b, c) refl, wt)
    split (inr a) (inr b) (inr c) = absurd (defined (rw (a, b, c) refl))

same_default : (xs : List (ℕ × ℕ)) (k : ℕ) (d e : ℕ × ℕ) → k < length xs → slice_index_or xs k d ≡ slice_index_or xs k e
same_default [] k d e within = absurd (omega arith)
same_default (x ∷ xs) zero d e within = refl
same_default (x ∷ xs) (suc k) d e within = same_default xs k d e (omega arith)

module _ (f : RegisterFile) (good : IsRegisterFile f) (accepted : IsAccepted f) (enabled : is_enabled f ≡ true) where
  unfoldable pub Supported : MemType → Type 0
  Supported t = is_supported (has_write_combining f) (byte_of_type t) ≡ true

  checked : first_of f (writable f) ≡ None
  checked = checked_of f accepted

  base_sound : (n : ℕ) → n < length f.pairs → reason_of f (PhysBase n) ≡ None
  base_sound n within =
      let size = pairs_length 0 (pair_count f) in
      let half : (2 * n) / 2 ≡ n = omega arith in
      let at = writable_base f (2 * n) (omega (arith, size, within, good.all_pairs)) (omega arith) in
      sound_at f (writable f) (2 * n) (PhysBase n) checked (at ∙ ap (λ k. Some (PhysBase k)) half)

  default_sound : reason_of f DefaultType ≡ None
  default_sound =
      sound_at f (writable f) (length (pair_registers 0 (pair_count f)) + length (fixed_part_of f) + 1) DefaultType checked
      (writable_last f (length (pair_registers 0 (pair_count f)) + length (fixed_part_of f) + 1) 1 refl)

  fixed_sound : has_fixed f ≡ true → (place : ℕ) → place < 11 → reason_of f (FixedRange place) ≡ None
  fixed_sound has place below =
      let size : length (fixed_part_of f) ≡ 11 = rw has refl in
      let start : ℕ = length (pair_registers 0 (pair_count f)) in
      let back : start + place - start ≡ place = omega arith in
      sound_at f (writable f) (start + place) (FixedRange place) checked
      (writable_fixed f (start + place) (omega arith) (omega (arith, size, below)) ∙ ap (λ k. Some (FixedRange k)) back)

  default_type_supported : is_supported (has_write_combining f) (low_byte f.default_type) ≡ true
  default_type_supported = not_false _ (tests_for f DefaultType default_sound).type_passes

  fixed_is_there : is_fixed_enabled f ≡ true → has_fixed f ≡ true
  fixed_is_there on = from (is_bit_set f.default_type 10) (has_fixed f) on (or_right _ _ (tests_for f DefaultType default_sound).bits_pass)
    where
      from : (a b : Bool) → a ≡ true → (a && not b) ≡ false → b ≡ true
      from true b e h = not_false b h
      from false b e h = absurd (cc)

  fixed_supported : (page : ℕ) → is_free f page ≡ true → Supported (fixed_type f page)
  unfolding Supported
  fixed_supported page free =
      let parts = and_parts _ _ free in
      let bounds = part_bounds page (ltb-true page 256 parts.1) in
      let place : ℕ = (fixed_part page).0 in
      let sound = tests_for f (FixedRange place) (fixed_sound (fixed_is_there parts.0) place bounds.0) in
      listed_supported (has_write_combining f) (byte_at (slice_index f.fixed place) (fixed_part page).1)
      (not_false _ (each_byte (λ byte. not (is_supported (has_write_combining f) byte)) (slice_index f.fixed place) 8 (fixed_part page).1 sound.type_passes bounds.1))

  pair_supported : (n : ℕ) → n < length f.pairs → Supported (pair_type (pair_at f.pairs n))
  unfolding Supported
  pair_supported n within =
      listed_supported (has_write_combining f) (low_byte (pair_at f.pairs n).0) (not_false _ (tests_for f (PhysBase n) (base_sound n within)).type_passes)

  types_supported : (page : ℕ) → AllByRecursion Supported (matching_types f page)
  types_supported page =
      kept Supported (λ pair. matches_pair f.width pair page) pair_type f.pairs
      (recursion_from_All (λ pair. Supported (pair_type pair)) f.pairs
      (λ k d within. subst (λ pair. Supported (pair_type pair)) (same_default f.pairs k (0, 0) d within) (pair_supported k within)))

  pub page_supported : (page : ℕ) → page < page_count f → (t : MemType) × (page_type f page ≡ Kind t) × Supported t
  unfolding Supported
  page_supported page below = by_free (cases_Bool (is_free f page))
    where
      by_types : (page_type_among f (matching_types f page) page ≡ combined (listed_type (low_byte f.default_type)) (matching_types f page))
          → (t : MemType) × (page_type f page ≡ Kind t) × (is_supported (has_write_combining f) (byte_of_type t) ≡ true)
      by_types is =
          let found = combined_has (λ t. is_supported (has_write_combining f) (byte_of_type t) ≡ true) (listed_type (low_byte f.default_type)) (matching_types f page)
          (listed_supported (has_write_combining f) (low_byte f.default_type) default_type_supported) refl refl (types_supported page)
          (λ e. no_undefined f accepted page below (is ∙ e)) in
          (found.0, is ∙ found.1, found.2)

      by_free : (is_free f page ≡ true) ⊎ (is_free f page ≡ false) → (t : MemType) × (page_type f page ≡ Kind t) × (is_supported (has_write_combining f) (byte_of_type t) ≡ true)
      by_free (inl free) = (fixed_type f page, rw (enabled, free) refl, fixed_supported page free)
      by_free (inr nonfree) = by_types (rw (enabled, nonfree) refl)

-- the file's own runs can be wanted
pub own_runs : (f : RegisterFile) → IsRegisterFile f → IsAccepted f → is_enabled f ≡ true → (runs : List Run) → IsRunsOf f runs → IsWanted f runs
unfolding Supported
own_runs f good accepted enabled runs are = record {
  chain = are.map.chain;
  whole = are.whole;
  supported = λ k d within.
      let place = within_chain 0 runs k d are.map.chain within in
      let found = page_supported f good accepted enabled (slice_index_or runs k d).first (omega (arith, place.1, place.2, are.whole)) in
      (found.0, sym (are.kinds k d within (slice_index_or runs k d).first (omega arith, place.1)) ∙ found.1, found.2);
}

-- the runs give the file's type to each page that isn't free
abbrev pub KeepsKinds : RegisterFile → List Run → Type 0
KeepsKinds f runs = (page : ℕ) → page < page_count f → is_free f page ≡ false → kind_at runs page ≡ page_type f page

own_kinds : (f : RegisterFile) (runs : List Run) → IsRunsOf f runs → KeepsKinds f runs
own_kinds f runs are page below nonfree = kind_is f 0 runs page are.map.chain (omega arith) (omega (arith, are.whole, below)) are.kinds

-- lists that give such runs are those that keep the file's types
module _ (f : RegisterFile) (accepted : IsAccepted f) (enabled : is_enabled f ≡ true) (runs : List Run) (own_kind : KeepsKinds f runs) where
  free_kind : (types : List MemType) (page : ℕ) → is_free f page ≡ true → page_type_among f types page ≡ Kind (fixed_type f page)
  free_kind types page free = rw (enabled, free) refl

  keeps_of : (ranges : List Range) → Gives f runs ranges → KeepsTypes f ranges
  keeps_of ranges gives = record {
    ranges_of = gives.ranges_of;
    same_types = λ page below. elim (cases_Bool (is_free f page)) [
      | inl free ↦ free_kind (types_at ranges page) page free ∙ sym (free_kind (matching_types f page) page free)
      | inr nonfree ↦ sym (gives.wanted_kinds page below nonfree) ∙ own_kind page below nonfree
    ];
    defined = no_undefined f accepted;
  }

  gives_of : (ranges : List Range) → KeepsTypes f ranges → Gives f runs ranges
  gives_of ranges keeps = record {
    ranges_of = keeps.ranges_of;
    wanted_kinds = λ page below nonfree. own_kind page below nonfree ∙ sym (keeps.same_types page below);
  }

  least_of : (chunk count : ℕ) → IsLeastFor f runs chunk count → IsLeast f chunk count
  least_of chunk count least = record {
    some = (least.some.0, keeps_of least.some.0 least.some.1, least.some.2, least.some.3);
    none_shorter = λ ranges keeps allowed. least.none_shorter ranges (gives_of ranges keeps) allowed;
  }

  least_for_of : (chunk count : ℕ) → IsLeast f chunk count → IsLeastFor f runs chunk count
  least_for_of chunk count least = record {
    some = (least.some.0, gives_of least.some.0 least.some.1, least.some.2, least.some.3);
    none_shorter = λ ranges gives allowed. least.none_shorter ranges (keeps_of ranges gives) allowed;
  }

  pub tidy_of : (chunk spare : ℕ) (new : Tidied) → IsTidied (tidying f chunk spare) runs new → IsTidy (tidying f chunk spare) new
  tidy_of chunk spare new tidied = record {
    old_accepted = accepted;
    enabled = enabled;
    ranges = tidied.ranges;
    file = tidied.file;
    in_order = tidied.least.in_order;
    keeps = keeps_of tidied.ranges tidied.least.gives;
    allowed = tidied.least.allowed;
    count = tidied.count;
    least = record {
      some = (tidied.ranges, keeps_of tidied.ranges tidied.least.gives, tidied.least.allowed, sym tidied.count);
      none_shorter = λ ranges keeps allowed. omega (arith, tidied.count, tidied.least.none_shorter ranges (gives_of ranges keeps) allowed);
    };
    enough = tidied.enough;
    accepted = tidied.accepted;
    same_types = λ page below. elim (cases_Bool (is_free f page)) [
      | inl free ↦ tidied.free page free
      | inr nonfree ↦ tidied.kinds page below nonfree ∙ own_kind page below nonfree
    ];
  }

  pub more_of : (chunk spare needs has : ℕ) → IsTooFew (tidying f chunk spare) runs needs has → NeedsMore (tidying f chunk spare) needs has
  more_of chunk spare needs has few = record {
    accepted = accepted;
    enabled = enabled;
    has_is = few.has_is;
    above = few.above;
    least = least_of chunk needs few.least;
  }

-- a file that gives the file's own runs keeps each page's type
pub tidy_file : (f : RegisterFile) → IsAccepted f → is_enabled f ≡ true → (runs : List Run) → IsRunsOf f runs
    → (chunk spare : ℕ) (new : Tidied) → IsTidied (tidying f chunk spare) runs new → IsTidy (tidying f chunk spare) new
tidy_file f accepted enabled runs are = tidy_of f accepted enabled runs (own_kinds f runs are)

pub keeps_is_gives : (f : RegisterFile) → IsAccepted f → is_enabled f ≡ true → (runs : List Run) → IsRunsOf f runs
    → (ranges : List Range) → KeepsTypes f ranges ↔ Gives f runs ranges
keeps_is_gives f accepted enabled runs are ranges = (gives_of f accepted enabled runs (own_kinds f runs are) ranges, keeps_of f accepted enabled runs (own_kinds f runs are) ranges)

pub least_is_least_for : (f : RegisterFile) → IsAccepted f → is_enabled f ≡ true → (runs : List Run) → IsRunsOf f runs
    → (chunk count : ℕ) → IsLeast f chunk count ↔ IsLeastFor f runs chunk count
least_is_least_for f accepted enabled runs are chunk count = (least_for_of f accepted enabled runs (own_kinds f runs are) chunk count, least_of f accepted enabled runs (own_kinds f runs are) chunk count)

pub needs_more : (f : RegisterFile) → IsAccepted f → is_enabled f ≡ true → (runs : List Run) → IsRunsOf f runs
    → (chunk spare needs has : ℕ) → IsTooFew (tidying f chunk spare) runs needs has → NeedsMore (tidying f chunk spare) needs has
needs_more f accepted enabled runs are = more_of f accepted enabled runs (own_kinds f runs are)

pub least_number : (f : RegisterFile) (chunk : ℕ) → IsRegisterFile f → IsAccepted f → is_enabled f ≡ true → (count : ℕ) × IsLeast f chunk count
least_number f chunk good accepted enabled =
    let runs = a_type_map f good in
    let cost = cost_is_least f runs.0 chunk enabled (own_runs f good accepted enabled runs.0 runs.1) in
    (cost.0, least_of f accepted enabled runs.0 (own_kinds f runs.0 runs.1) chunk cost.0 cost.2)

pub one_least : (f : RegisterFile) (chunk a b : ℕ) → IsLeast f chunk a → IsLeast f chunk b → a ≡ b
one_least f chunk a b first second =
    let below = second.none_shorter first.some.0 first.some.1 first.some.2 in
    let above = first.none_shorter second.some.0 second.some.1 second.some.2 in
    omega (arith, below, above, first.some.3, second.some.3)
