-- What laying a range over others does to each byte, and to their order.
use Rattle.std.proofs.Common.{◌≡◌, ◌∙◌, ◌≤◌, ◌<◌, ◌+◌, ◌-◌, ◌&&◌, ℕ, Bool, true, false, nat_le, nat_lt, List, [], ◌∷◌, ◌++◌, Option, Some, None, refl, sym, ap, arith, inl, inr}
use Rattle.std.specs.Prelude.{◌⊎◌, if◌then◌else◌}
use Rattle.std.specs.List.{filter_map}
use Rattle.std.proofs.lemmas.Bool.{cases_lt}
use Rattle.std.proofs.lemmas.Bool.Decides.{nat_tests}
use Rattle.mt_memory.specs.declared.format.Claim.{Claim}
use Rattle.mt_memory_kinds.specs.declared.kind.MemoryKind.{MemoryKind}
use Rattle.mt_memory_kinds.specs.declared.kind.MemoryRange.{MemoryRange}
use Rattle.mt_memory.specs.Laying.{laid, part_of, ranges_of}
use Rattle.mt_memory.specs.Maps.{LaterCounts}
use Rattle.mt_memory_kinds.specs.Ranges.{AreAscending, has, kind_at}

-- ---- tests

pub is_within : (range : MemoryRange) (byte : ℕ) → range.first ≤ byte → byte ≤ range.last → has range byte ≡ true
is_within range byte low high = grind (arith, nat_tests, low, high)

pub is_under : (range : MemoryRange) (byte : ℕ) → byte < range.first → has range byte ≡ false
is_under range byte low = grind (arith, nat_tests, low)

pub is_over : (range : MemoryRange) (byte : ℕ) → range.last < byte → has range byte ≡ false
is_over range byte high = grind (arith, nat_tests, high)

pub less : (a b : ℕ) → a < b → nat_lt a b ≡ true
less a b order = grind (arith, nat_tests, order)

pub not_less : (a b : ℕ) → b ≤ a → nat_lt a b ≡ false
not_less a b order = grind (arith, nat_tests, order)

-- ---- kinds of bytes

abbrev kind_or : Option MemoryKind → Option MemoryKind → Option MemoryKind
kind_or (Some kind) next = Some kind
kind_or None next = next

kind_append : (xs ys : List MemoryRange) (byte : ℕ) → kind_at (xs ++ ys) byte ≡ kind_or (kind_at xs byte) (kind_at ys byte)
kind_append [] ys byte = refl
kind_append (x ∷ xs) ys byte = by (has x byte) (kind_at xs byte) (kind_at (xs ++ ys) byte) (kind_append xs ys byte)
  where
    by : (test : Bool) (front all : Option MemoryKind) → all ≡ kind_or front (kind_at ys byte) → (if test then Some x.kind else all) ≡ kind_or (if test then Some x.kind else front) (kind_at ys byte)
    by true front all is = refl
    by false front all is = is

ranges_append : (xs ys : List Claim) → ranges_of (xs ++ ys) ≡ ranges_of xs ++ ranges_of ys
ranges_append [] ys = refl
ranges_append (x ∷ xs) ys = ap (λ rs. x.range ∷ rs) (ranges_append xs ys)

-- what a part is, by the test that it depends on
abbrev parts : Bool → MemoryRange → List Claim → List MemoryRange
parts is_above range pieces = ranges_of (filter_map (part_of is_above range) pieces)

module _ (range : MemoryRange) where
  abbrev last_below : Claim → ℕ
  last_below piece = if nat_lt piece.range.last range.first then piece.range.last else range.first - 1

  abbrev first_above : Claim → ℕ
  first_above piece = if nat_lt range.last piece.range.first then piece.range.first else range.last + 1

  below_some : (piece : Claim) (pieces : List Claim) → piece.range.first < range.first
      → parts false range (piece ∷ pieces) ≡ record { first = piece.range.first; last = last_below piece; kind = piece.range.kind } ∷ parts false range pieces
  below_some piece pieces low = rw (less piece.range.first range.first low) refl

  below_none : (piece : Claim) (pieces : List Claim) → range.first ≤ piece.range.first → parts false range (piece ∷ pieces) ≡ parts false range pieces
  below_none piece pieces high = rw (not_less piece.range.first range.first high) refl

  above_some : (piece : Claim) (pieces : List Claim) → range.last < piece.range.last
      → parts true range (piece ∷ pieces) ≡ record { first = first_above piece; last = piece.range.last; kind = piece.range.kind } ∷ parts true range pieces
  above_some piece pieces high = rw (less range.last piece.range.last high) refl

  above_none : (piece : Claim) (pieces : List Claim) → piece.range.last ≤ range.last → parts true range (piece ∷ pieces) ≡ parts true range pieces
  above_none piece pieces low = rw (not_less range.last piece.range.last low) refl

  -- the bounds of parts
  below_end : (piece : Claim) → piece.range.last < range.first → last_below piece ≡ piece.range.last
  below_end piece low = rw (less piece.range.last range.first low) refl

  below_cut : (piece : Claim) → range.first ≤ piece.range.last → last_below piece ≡ range.first - 1
  below_cut piece high = rw (not_less piece.range.last range.first high) refl

  above_start : (piece : Claim) → range.last < piece.range.first → first_above piece ≡ piece.range.first
  above_start piece high = rw (less range.last piece.range.first high) refl

  above_cut : (piece : Claim) → piece.range.first ≤ range.last → first_above piece ≡ range.last + 1
  above_cut piece low = rw (not_less range.last piece.range.first low) refl

  -- a byte below the range has its kind by the parts below
  same_test : (x y : MemoryRange) (byte : ℕ) → x.kind ≡ y.kind → has x byte ≡ has y byte → (xs ys : List MemoryRange) → kind_at xs byte ≡ kind_at ys byte → kind_at (x ∷ xs) byte ≡ kind_at (y ∷ ys) byte
  same_test x y byte kind test xs ys rest = rw (kind, test, rest) refl

  no_test : (x : MemoryRange) (byte : ℕ) (xs : List MemoryRange) → has x byte ≡ false → kind_at (x ∷ xs) byte ≡ kind_at xs byte
  no_test x byte xs test = rw test refl

  below_kinds : (pieces : List Claim) (byte : ℕ) → byte < range.first → kind_at (parts false range pieces) byte ≡ kind_at (ranges_of pieces) byte
  below_kinds [] byte low = refl
  below_kinds (piece ∷ pieces) byte low = elim (cases_lt piece.range.first range.first) [
    | inl under ↦
        ap (λ rs. kind_at rs byte) (below_some piece pieces under)
        ∙ same_test (record { first = piece.range.first; last = last_below piece; kind = piece.range.kind }) piece.range byte refl (test under) (parts false range pieces) (ranges_of pieces) (below_kinds pieces byte low)
    | inr over ↦
        ap (λ rs. kind_at rs byte) (below_none piece pieces over) ∙ below_kinds pieces byte low
        ∙ sym (no_test piece.range byte (ranges_of pieces) (is_under piece.range byte (omega (arith, low, over))))
  ]
    where
      test : piece.range.first < range.first → (nat_le piece.range.first byte && nat_le byte (last_below piece)) ≡ has piece.range byte
      test under = elim (cases_lt piece.range.last range.first) [
        | inl ends ↦ rw (below_end piece ends) refl
        | inr on ↦ rw (below_cut piece on) (grind (arith, nat_tests, low, on))
      ]

  above_kinds : (pieces : List Claim) (byte : ℕ) → range.last < byte → kind_at (parts true range pieces) byte ≡ kind_at (ranges_of pieces) byte
  above_kinds [] byte high = refl
  above_kinds (piece ∷ pieces) byte high = elim (cases_lt range.last piece.range.last) [
    | inl over ↦
        ap (λ rs. kind_at rs byte) (above_some piece pieces over)
        ∙ same_test (record { first = first_above piece; last = piece.range.last; kind = piece.range.kind }) piece.range byte refl (test over) (parts true range pieces) (ranges_of pieces) (above_kinds pieces byte high)
    | inr under ↦
        ap (λ rs. kind_at rs byte) (above_none piece pieces under) ∙ above_kinds pieces byte high
        ∙ sym (no_test piece.range byte (ranges_of pieces) (is_over piece.range byte (omega (arith, high, under))))
  ]
    where
      test : range.last < piece.range.last → (nat_le (first_above piece) byte && nat_le byte piece.range.last) ≡ has piece.range byte
      test over = elim (cases_lt range.last piece.range.first) [
        | inl begins ↦ rw (above_start piece begins) refl
        | inr on ↦ rw (above_cut piece on) (grind (arith, nat_tests, high, on))
      ]

  -- no part has another byte
  below_ends : (piece : Claim) → piece.range.first < range.first → last_below piece < range.first
  below_ends piece under = elim (cases_lt piece.range.last range.first) [
    | inl ends ↦ rw (below_end piece ends) ends
    | inr on ↦ rw (below_cut piece on) (omega (arith, under))
  ]

  above_begins : (piece : Claim) → range.last < first_above piece
  above_begins piece = elim (cases_lt range.last piece.range.first) [
    | inl begins ↦ rw (above_start piece begins) begins
    | inr on ↦ rw (above_cut piece on) (omega arith)
  ]

  below_no_kinds : (pieces : List Claim) (byte : ℕ) → range.first ≤ byte → kind_at (parts false range pieces) byte ≡ None
  below_no_kinds [] byte high = refl
  below_no_kinds (piece ∷ pieces) byte high = elim (cases_lt piece.range.first range.first) [
    | inl under ↦
        let part : MemoryRange = record { first = piece.range.first; last = last_below piece; kind = piece.range.kind } in
        ap (λ rs. kind_at rs byte) (below_some piece pieces under)
        ∙ no_test part byte (parts false range pieces) (is_over part byte (omega (arith, below_ends piece under, high))) ∙ below_no_kinds pieces byte high
    | inr over ↦ ap (λ rs. kind_at rs byte) (below_none piece pieces over) ∙ below_no_kinds pieces byte high
  ]

  above_no_kinds : (pieces : List Claim) (byte : ℕ) → byte ≤ range.last → kind_at (parts true range pieces) byte ≡ None
  above_no_kinds [] byte low = refl
  above_no_kinds (piece ∷ pieces) byte low = elim (cases_lt range.last piece.range.last) [
    | inl over ↦
        let part : MemoryRange = record { first = first_above piece; last = piece.range.last; kind = piece.range.kind } in
        ap (λ rs. kind_at rs byte) (above_some piece pieces over)
        ∙ no_test part byte (parts true range pieces) (is_under part byte (omega (arith, above_begins piece, low))) ∙ above_no_kinds pieces byte low
    | inr under ↦ ap (λ rs. kind_at rs byte) (above_none piece pieces under) ∙ above_no_kinds pieces byte low
  ]

laid_parts : (claim : Claim) (pieces : List Claim) → ranges_of (laid claim pieces) ≡ parts false claim.range pieces ++ claim.range ∷ parts true claim.range pieces
laid_parts claim pieces = ranges_append (filter_map (part_of false claim.range) pieces) (claim ∷ filter_map (part_of true claim.range) pieces)

pub later_counts : LaterCounts
later_counts claim pieces byte order =
    ap (λ rs. kind_at rs byte) (laid_parts claim pieces) ∙ kind_append (parts false claim.range pieces) (claim.range ∷ parts true claim.range pieces) byte
    ∙ elim (cases_lt byte claim.range.first) [
      | inl under ↦ rw (below_kinds claim.range pieces byte under, is_under claim.range byte under, above_no_kinds claim.range pieces byte (omega (arith, under, order))) (settle (kind_at (ranges_of pieces) byte))
      | inr on ↦ elim (cases_lt claim.range.last byte) [
        | inl over ↦ rw (below_no_kinds claim.range pieces byte on, is_over claim.range byte over, above_kinds claim.range pieces byte over) refl
        | inr within ↦ rw (below_no_kinds claim.range pieces byte on, is_within claim.range byte on within) refl
      ]
    ]
  where
    settle : (found : Option MemoryKind) → kind_or found None ≡ found
    settle (Some kind) = refl
    settle None = refl

-- ---- order

pub weaker : (low from : ℕ) (ranges : List MemoryRange) → low ≤ from → AreAscending from ranges → AreAscending low ranges
weaker low from [] less are = tt
weaker low from (r ∷ rs) less are = (omega (arith, less, are.0), are.1, are.2)

module _ (range : MemoryRange) where
  below_order : (pieces : List Claim) (low : ℕ) (rest : List MemoryRange) → AreAscending low (ranges_of pieces) → low ≤ range.first → AreAscending range.first rest
      → AreAscending low (parts false range pieces ++ rest)
  below_order [] low rest are under later = weaker low range.first rest under later
  below_order (piece ∷ pieces) low rest are under later = elim (cases_lt piece.range.first range.first) [
    | inl starts ↦ rw (below_some range piece pieces starts) (elim (cases_lt piece.range.last range.first) [
      | inl ends ↦ rw (below_end range piece ends) (are.0, are.1, below_order pieces (piece.range.last + 1) rest are.2 (omega (arith, ends)) later)
      | inr on ↦
          let next : range.first - 1 + 1 ≡ range.first = omega (arith, starts) in
          rw (below_cut range piece on, next) (are.0, omega (arith, starts), below_order pieces range.first rest (weaker range.first (piece.range.last + 1) (ranges_of pieces) (omega (arith, on)) are.2) (omega arith) later)
    ])
    | inr over ↦
        rw (below_none range piece pieces over)
        (below_order pieces low rest (weaker low (piece.range.last + 1) (ranges_of pieces) (omega (arith, are.1, under, over)) are.2) under later)
  ]

  above_order : (pieces : List Claim) (low from : ℕ) → AreAscending low (ranges_of pieces) → (from ≤ low) ⊎ (from ≤ range.last + 1) → AreAscending from (parts true range pieces)
  above_order [] low from are bound = tt
  above_order (piece ∷ pieces) low from are bound = elim (cases_lt range.last piece.range.last) [
    | inl over ↦ rw (above_some range piece pieces over) (elim (cases_lt range.last piece.range.first) [
      | inl begins ↦ rw (above_start range piece begins) (starts begins, are.1, above_order pieces (piece.range.last + 1) (piece.range.last + 1) are.2 (inl (omega arith)))
      | inr on ↦ rw (above_cut range piece on) (behind on, omega (arith, over), above_order pieces (piece.range.last + 1) (piece.range.last + 1) are.2 (inl (omega arith)))
    ])
    | inr under ↦ rw (above_none range piece pieces under) (above_order pieces (piece.range.last + 1) from are.2 (elim bound [
      | inl at_low ↦ inl (omega (arith, at_low, are.0, are.1))
      | inr at_end ↦ inr at_end
    ]))
  ]
    where
      starts : range.last < piece.range.first → from ≤ piece.range.first
      starts begins = elim bound [
        | inl at_low ↦ omega (arith, at_low, are.0)
        | inr at_end ↦ omega (arith, at_end, begins)
      ]

      behind : piece.range.first ≤ range.last → from ≤ range.last + 1
      behind on = elim bound [
        | inl at_low ↦ omega (arith, at_low, are.0, on)
        | inr at_end ↦ at_end
      ]

pub laid_order : (claim : Claim) (pieces : List Claim) → claim.range.first ≤ claim.range.last → AreAscending 0 (ranges_of pieces) → AreAscending 0 (ranges_of (laid claim pieces))
laid_order claim pieces order are =
    rw (laid_parts claim pieces)
    (below_order claim.range pieces 0 (claim.range ∷ parts true claim.range pieces) are (omega arith)
    (omega arith, order, above_order claim.range pieces 0 (claim.range.last + 1) are (inr (omega arith))))
