-- Ranges in ascending order have no more runs of pages than they are.
use Rattle.std.proofs.Common.{◌≡◌, ◌∙◌, ◌≤◌, ◌<◌, ◌+◌, ◌-◌, ◌/◌, ◌%◌, ◌==◌, ℕ, Bool, true, false, nat_lt, List, [], ◌∷◌, length, Option, Some, None, refl, sym, ap, subst, arith, inl, inr, length-append}
use Rattle.std.specs.Prelude.{if◌then◌else◌, ◌⊎◌, is_some}
use Rattle.std.specs.List.{AllByRecursion, filter_map}
use Rattle.std.proofs.lemmas.Bool.{cases_Bool, cases_lt}
use Rattle.std.proofs.lemmas.Bool.Decides.{nat_tests}
use Rattle.mt_memory.specs.declared.format.Claim.{Claim}
use Rattle.mt_memory.specs.declared.format.MapFault.TheVariants.{TooManyRanges}
use Rattle.mt_memory.specs.declared.format.Shown.TheVariants.{Nothing, Range}
use Rattle.mt_memory_kinds.specs.declared.kind.MemoryKind.{MemoryKind}
use Rattle.mt_memory_kinds.specs.declared.kind.MemoryKind.TheVariants.{Ram, Reserved, Device, Acpi, Nvs, Unusable}
use Rattle.mt_memory_kinds.specs.declared.kind.MemoryRange.{MemoryRange}
use Rattle.mt_memory_kinds.specs.Ranges.{AreAscending, is_kind}
use Rattle.mt_memory.specs.Laying.{cut, goes_on, joined, joined_from, laid, overlapped, part_of, ranges_of}
use Rattle.mt_memory.specs.Log.{Settled, nothing_settled, overlap_or, settled_by, settled_from, settled_with}
use Rattle.mt_memory.specs.Pages.{PagesAreGiven, claim_of, claims_of, counted, counted_as, kinds_from, pages_between, pages_of, settled_kinds, shown_pages, weakest_first}
use Rattle.mt_memory.proofs.Joined.{joined_order}
use Rattle.mt_memory.proofs.Laid.{less, not_less}
use Rattle.mt_memory.proofs.Settles.{laid_all}

-- ---- the pages of one range

record IsBetween (first end : ℕ) (pages : MemoryRange) : Type 0 where
  low : first ≤ pages.first
  order : pages.first ≤ pages.last
  high : pages.last < end

between_is : (first end : ℕ) (kind : MemoryKind) (pages : MemoryRange) → pages_between first end kind ≡ Some pages → IsBetween first end pages
between_is first end kind pages is = by (nat_lt first end) refl is
  where
    below : (a b : ℕ) → nat_lt a b ≡ true → a < b
    below a b test = grind (arith, nat_tests, test)

    by : (some : Bool) → nat_lt first end ≡ some → (if some then Some (record { first = first; last = end - 1; kind = kind }) else None) ≡ Some pages → IsBetween first end pages
    by true test e =
        let less = below first end test in
        let low : first ≡ pages.first = ap first_of e in
        let high : end - 1 ≡ pages.last = ap last_of e in
        record { low = omega (arith, low); order = omega (arith, low, high, less); high = omega (arith, high, less) }
      where
        first_of : Option MemoryRange → ℕ
        first_of (Some range) = range.first
        first_of None = 0

        last_of : Option MemoryRange → ℕ
        last_of (Some range) = range.last
        last_of None = 0
    by false test e = cc e

-- they have bytes of the range
record HasPages (range pages : MemoryRange) : Type 0 where
  low : range.first / 4096 ≤ pages.first
  order : pages.first ≤ pages.last
  high : pages.last ≤ range.last / 4096

touched_is : (range pages : MemoryRange) → pages_between (range.first / 4096) (range.last / 4096 + 1) range.kind ≡ Some pages → HasPages range pages
touched_is range pages is = let between = between_is _ _ range.kind pages is in record { low = between.low; order = between.order; high = omega (arith, between.high) }

counted_is : (kind : MemoryKind) (range pages : MemoryRange) → counted_as kind range ≡ Some pages → HasPages range pages
counted_is Ram range pages is =
    let between = between_is _ _ range.kind pages is in
    record { low = omega (arith, between.low); order = between.order; high = by (range.last % 4096 == 4095) between.high }
  where
    by : (full : Bool) → pages.last < range.last / 4096 + (if full then 1 else 0) → pages.last ≤ range.last / 4096
    by true less = omega (arith, less)
    by false less = omega (arith, less)
counted_is Reserved range pages is = touched_is range pages is
counted_is Device range pages is = touched_is range pages is
counted_is Acpi range pages is = touched_is range pages is
counted_is Nvs range pages is = touched_is range pages is
counted_is Unusable range pages is = touched_is range pages is

-- ---- pages of ranges in ascending order are the same, or one behind the other

abbrev IsOf : List MemoryRange → MemoryRange → Type 0
IsOf [] pages = ⊥
IsOf (range ∷ ranges) pages = (counted range ≡ Some pages) ⊎ IsOf ranges pages

low_of : (ranges : List MemoryRange) (low : ℕ) (pages : MemoryRange) → AreAscending low ranges → IsOf ranges pages → (low / 4096 ≤ pages.first) × (pages.first ≤ pages.last)
low_of [] low pages are is = absurd is
low_of (range ∷ ranges) low pages are (inl here) = let has = counted_is range.kind range pages here in (omega (arith, has.low, are.0), has.order)
low_of (range ∷ ranges) low pages are (inr later) = let rest = low_of ranges (range.last + 1) pages are.2 later in (omega (arith, rest.0, are.0, are.1), rest.1)

apart : (ranges : List MemoryRange) (low : ℕ) (a b : MemoryRange) → AreAscending low ranges → IsOf ranges a → IsOf ranges b → (a ≡ b) ⊎ ((a.last ≤ b.first) ⊎ (b.last ≤ a.first))
apart [] low a b are one two = absurd one
apart (range ∷ ranges) low a b are (inl one) (inl two) = inl (same one two)
  where
    same : counted range ≡ Some a → counted range ≡ Some b → a ≡ b
    same x y = cc (x, y)
apart (range ∷ ranges) low a b are (inl one) (inr two) =
    let has = counted_is range.kind range a one in
    let rest = low_of ranges (range.last + 1) b are.2 two in
    inr (inl (omega (arith, has.high, rest.0)))
apart (range ∷ ranges) low a b are (inr one) (inl two) =
    let has = counted_is range.kind range b two in
    let rest = low_of ranges (range.last + 1) a are.2 one in
    inr (inr (omega (arith, has.high, rest.0)))
apart (range ∷ ranges) low a b are (inr one) (inr two) = apart ranges (range.last + 1) a b are.2 one two

-- ---- laying one of them adds one piece at most

-- the piece has parts on both sides
abbrev Splits : MemoryRange → Claim → Type 0
Splits pages piece = (piece.range.first < pages.first) × (pages.last < piece.range.last)

parts_few : (pages : MemoryRange) (pieces : List Claim) → AllByRecursion (λ piece. Splits pages piece → ⊥) pieces
    → length (filter_map (part_of false pages) pieces) + length (filter_map (part_of true pages) pieces) ≤ length pieces
parts_few pages [] whole = omega arith
parts_few pages (piece ∷ pieces) whole =
    let rest = parts_few pages pieces whole.1 in
    elim (cases_lt piece.range.first pages.first) [
      | inl under ↦ elim (cases_lt pages.last piece.range.last) [
        | inl over ↦ absurd (whole.0 (under, over))
        | inr ends ↦ rw (less piece.range.first pages.first under, not_less pages.last piece.range.last ends) (omega (arith, rest))
      ]
      | inr starts ↦ elim (cases_lt pages.last piece.range.last) [
        | inl over ↦ rw (not_less piece.range.first pages.first starts, less pages.last piece.range.last over) (omega (arith, rest))
        | inr ends ↦ rw (not_less piece.range.first pages.first starts, not_less pages.last piece.range.last ends) (omega (arith, rest))
      ]
    ]

module _ (all : List MemoryRange) (order : AreAscending 0 all) where
  -- a piece of pages of one of the ranges
  record LiesIn (piece : Claim) : Type 0 where
    pages : MemoryRange
    is : IsOf all pages
    low : pages.first ≤ piece.range.first
    high : piece.range.last ≤ pages.last

  lies_keeps : (piece : Claim) (first last : ℕ) → piece.range.first ≤ first → last ≤ piece.range.last → LiesIn piece → LiesIn (cut piece first last)
  lies_keeps piece first last low high lies = record { pages = lies.pages; is = lies.is; low = omega (arith, lies.low, low); high = omega (arith, lies.high, high) }

  unsplit : (pages : MemoryRange) → IsOf all pages → (piece : Claim) → LiesIn piece → Splits pages piece → ⊥
  unsplit pages is piece lies splits =
      let here = low_of all 0 pages order is in
      elim (apart all 0 pages lies.pages order is lies.is) [
        | inl same ↦ let e : pages.first ≡ lies.pages.first = ap (λ (r : MemoryRange). r.first) same in omega (arith, e, splits.0, lies.low)
        | inr other ↦ elim other [
          | inl before ↦ omega (arith, before, lies.low, splits.0, here.1)
          | inr behind ↦ omega (arith, behind, lies.high, splits.1, here.1)
        ]
      ]

  all_unsplit : (pages : MemoryRange) → IsOf all pages → (pieces : List Claim) → AllByRecursion LiesIn pieces → AllByRecursion (λ piece. Splits pages piece → ⊥) pieces
  all_unsplit pages is [] lie = tt
  all_unsplit pages is (piece ∷ pieces) lie = (unsplit pages is piece lie.0, all_unsplit pages is pieces lie.1)

  laid_few : (claim : Claim) (pieces : List Claim) → IsOf all claim.range → AllByRecursion LiesIn pieces → length (laid claim pieces) ≤ length pieces + 1
  laid_few claim pieces is lie =
      let parts = parts_few claim.range pieces (all_unsplit claim.range is pieces lie) in
      let size = length-append (filter_map (part_of false claim.range) pieces) (claim ∷ filter_map (part_of true claim.range) pieces) in
      omega (arith, parts, size)

  -- what so many claims come to at most
  record Few (most : ℕ) (s : Settled) : Type 0 where
    clean : s.fault ≡ None
    lie : AllByRecursion LiesIn s.pieces
    few : length s.pieces ≤ most

  more : (most next : ℕ) (s : Settled) → most ≤ next → Few most s → Few next s
  more most next s le few = record { clean = few.clean; lie = few.lie; few = omega (arith, few.few, le) }

  few_with : (most : ℕ) (s : Settled) (claim : Claim) → most + 1 ≤ 512 → IsOf all claim.range → Few most s → Few (most + 1) (settled_with s (Range claim))
  few_with most s claim room is few =
      let size = laid_few claim s.pieces is few.lie in
      let small : nat_lt 512 (length (laid claim s.pieces)) ≡ false = not_less 512 (length (laid claim s.pieces)) (omega (arith, size, few.few, room)) in
      let next : Settled = record s { pieces = laid claim s.pieces; overlap = overlap_or s.overlap (overlapped claim s.pieces) } in
      let same : settled_with s (Range claim) ≡ next = ap (λ f. settled_by f s (Range claim)) few.clean ∙ ap (λ b. if b then record s { fault = Some (TooManyRanges claim.place) } else next) small in
      subst (Few (most + 1)) (sym same) (record {
        clean = few.clean;
        lie = laid_all LiesIn lies_keeps claim s.pieces few.lie (record { pages = claim.range; is = is; low = omega arith; high = omega arith });
        few = omega (arith, size, few.few);
      })

  few_nothing : (most : ℕ) (s : Settled) → Few most s → Few most (settled_with s Nothing)
  few_nothing most s few = subst (Few most) (sym (ap (λ f. settled_by f s Nothing) few.clean)) few

  -- ---- all claims

  abbrev one_if : Bool → ℕ
  one_if b = if b then 1 else 0

  abbrev count : MemoryKind → List MemoryRange → ℕ
  count kind [] = 0
  count kind (range ∷ ranges) = one_if (is_kind range.kind kind) + count kind ranges

  abbrev total : List MemoryKind → List MemoryRange → ℕ
  total [] ranges = 0
  total (kind ∷ kinds) ranges = count kind ranges + total kinds ranges

  few_claim : (most : ℕ) (s : Settled) (kind : MemoryKind) (range : MemoryRange) → most + one_if (is_kind range.kind kind) ≤ 512 → ((pages : MemoryRange) → counted range ≡ Some pages → IsOf all pages) → Few most s
      → Few (most + one_if (is_kind range.kind kind)) (settled_with s (claim_of kind range))
  few_claim most s kind range room known few = by (is_kind range.kind kind) (counted range) refl room
    where
      by : (same : Bool) (pages : Option MemoryRange) → counted range ≡ pages → most + one_if same ≤ 512 → Few (most + one_if same) (settled_with s (if same then shown_pages pages else Nothing))
      by true (Some pages) is room = few_with most s (record { range = pages; place = record { line = 0; column = 0 } }) room (known pages is) few
      by true None is room = more most (most + 1) (settled_with s Nothing) (omega arith) (few_nothing most s few)
      by false pages is room = more most (most + 0) (settled_with s Nothing) (omega arith) (few_nothing most s few)

  few_claims : (kind : MemoryKind) (ranges : List MemoryRange) (most : ℕ) (s : Settled) → most + count kind ranges ≤ 512 → ((pages : MemoryRange) → IsOf ranges pages → IsOf all pages) → Few most s
      → Few (most + count kind ranges) (settled_from s (claims_of kind ranges))
  few_claims kind [] most s room known few = more most (most + 0) s (omega arith) few
  few_claims kind (range ∷ ranges) most s room known few =
      let one = one_if (is_kind range.kind kind) in
      let first = few_claim most s kind range (omega (arith, room)) (λ pages is. known pages (inl is)) few in
      more (most + one + count kind ranges) (most + (one + count kind ranges)) (settled_from (settled_with s (claim_of kind range)) (claims_of kind ranges)) (omega arith)
      (few_claims kind ranges (most + one) (settled_with s (claim_of kind range)) (omega (arith, room)) (λ pages is. known pages (inr is)) first)

  few_kinds : (kinds : List MemoryKind) (most : ℕ) (s : Settled) → most + total kinds all ≤ 512 → Few most s → Few (most + total kinds all) (kinds_from s kinds all)
  few_kinds [] most s room few = more most (most + 0) s (omega arith) few
  few_kinds (kind ∷ kinds) most s room few =
      let first = few_claims kind all most s (omega (arith, room)) (λ pages is. is) few in
      more (most + count kind all + total kinds all) (most + (count kind all + total kinds all)) (kinds_from (settled_from s (claims_of kind all)) kinds all) (omega arith)
      (few_kinds kinds (most + count kind all) (settled_from s (claims_of kind all)) (omega (arith, room)) first)

  -- each range is of one kind
  total_is : (ranges : List MemoryRange) → total weakest_first ranges ≡ length ranges
  total_is [] = refl
  total_is (range ∷ ranges) = let rest = total_is ranges in by range.kind rest
    where
      by : (kind : MemoryKind) → total weakest_first ranges ≡ length ranges
          → one_if (is_kind kind Ram) + count Ram ranges + (one_if (is_kind kind Device) + count Device ranges + (one_if (is_kind kind Acpi) + count Acpi ranges + (one_if (is_kind kind Nvs) + count Nvs ranges + (one_if (is_kind kind Reserved) + count Reserved ranges + (one_if (is_kind kind Unusable) + count Unusable ranges + 0)))))
          ≡ length (range ∷ ranges)
      by Ram rest = omega (arith, rest)
      by Reserved rest = omega (arith, rest)
      by Device rest = omega (arith, rest)
      by Acpi rest = omega (arith, rest)
      by Nvs rest = omega (arith, rest)
      by Unusable rest = omega (arith, rest)

-- ---- joined ranges aren't more

joined_few : (range : MemoryRange) (ranges : List MemoryRange) → length (joined_from range ranges) ≤ length ranges + 1
joined_few range [] = omega arith
joined_few range (next ∷ ranges) = elim (cases_Bool (goes_on range next)) [
  | inl goes ↦ let rest = joined_few (record { first = range.first; last = next.last; kind = range.kind }) ranges in rw goes (omega (arith, rest))
  | inr stops ↦ let rest = joined_few next ranges in rw stops (omega (arith, rest))
]

all_few : (ranges : List MemoryRange) → length ranges ≤ 512 → length (joined ranges) ≤ 512
all_few [] few = omega arith
all_few (range ∷ ranges) few = let rest = joined_few range ranges in omega (arith, rest, few)

pub pages_are_given : PagesAreGiven
pages_are_given ranges are few =
    let order = joined_order ranges are in
    let size = total_is (joined ranges) order (joined ranges) in
    let most = all_few ranges few in
    let found = few_kinds (joined ranges) order weakest_first 0 nothing_settled (omega (arith, size, most)) (record { clean = refl; lie = tt; few = omega arith }) in
    let here : pages_of ranges ≡ Some (joined (ranges_of (settled_kinds weakest_first (joined ranges)).pieces)) = rw found.clean refl in
    ap is_some here
