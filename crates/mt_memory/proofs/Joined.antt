-- Joined ranges are in order, the longest, and give each byte the kind that it had.
use Rattle.std.proofs.Common.{◌≡◌, ◌∙◌, ◌≤◌, ◌+◌, ◌-◌, ◌==◌, ◌&&◌, ℕ, true, false, nat_lt, List, [], ◌∷◌, refl, sym, ap, arith, inl, inr}
use Rattle.std.specs.Prelude.{if◌then◌else◌}
use Rattle.std.proofs.lemmas.Bool.{and_parts, cases_Bool, cases_lt}
use Rattle.std.proofs.lemmas.Bool.Decides.{nat_tests}
use Rattle.mt_memory_kinds.specs.declared.kind.MemoryKind.{MemoryKind}
use Rattle.mt_memory_kinds.specs.declared.kind.MemoryKind.TheVariants.{Ram, Reserved, Device, Acpi, Nvs, Unusable}
use Rattle.mt_memory_kinds.specs.declared.kind.MemoryRange.{MemoryRange}
use Rattle.mt_memory.specs.Laying.{goes_on, joined, joined_from}
use Rattle.mt_memory.specs.Maps.{AreLongest, JoinedIsSame}
use Rattle.mt_memory_kinds.specs.Ranges.{AreAscending, is_kind, kind_at, kind_number}
use Rattle.mt_memory.proofs.Laid.{is_over, is_under, is_within}

-- ---- kinds by their numbers

abbrev kind_by : ℕ → MemoryKind
kind_by n = if n == 0 then Ram else if n == 1 then Device else if n == 2 then Acpi else if n == 3 then Nvs else if n == 4 then Reserved else Unusable

by_number : (kind : MemoryKind) → kind_by (kind_number kind) ≡ kind
by_number Ram = refl
by_number Reserved = refl
by_number Device = refl
by_number Acpi = refl
by_number Nvs = refl
by_number Unusable = refl

equal : (a b : ℕ) → (a == b) ≡ true → a ≡ b
equal a b test = grind (arith, nat_tests, test)

pub same_kind : (a b : MemoryKind) → is_kind a b ≡ true → a ≡ b
same_kind a b test = sym (by_number a) ∙ ap kind_by (equal (kind_number a) (kind_number b) test) ∙ by_number b

-- ---- ranges that go on

abbrev extended : MemoryRange → MemoryRange → MemoryRange
extended range next = record { first = range.first; last = next.last; kind = range.kind }

module _ (range next : MemoryRange) (goes : goes_on range next ≡ true) where
  goes_parts : (is_kind range.kind next.kind ≡ true) × (next.first ≡ range.last + 1)
  goes_parts =
      let all = and_parts (is_kind range.kind next.kind && nat_lt range.last next.first) (next.first - range.last == 1) goes in
      let two = and_parts (is_kind range.kind next.kind) (nat_lt range.last next.first) all.0 in
      (two.0, touches range.last next.first two.1 all.1)
    where
      touches : (a b : ℕ) → nat_lt a b ≡ true → (b - a == 1) ≡ true → b ≡ a + 1
      touches a b less one = grind (arith, nat_tests, less, one)

  pub goes_kind : range.kind ≡ next.kind
  goes_kind = same_kind range.kind next.kind goes_parts.0

  pub goes_next : next.first ≡ range.last + 1
  goes_next = goes_parts.1

-- ---- order

pub joined_from_order : (ranges : List MemoryRange) (range : MemoryRange) (low : ℕ) → low ≤ range.first → range.first ≤ range.last → AreAscending (range.last + 1) ranges
    → AreAscending low (joined_from range ranges)
joined_from_order [] range low under order are = (under, order, tt)
joined_from_order (next ∷ ranges) range low under order are = elim (cases_Bool (goes_on range next)) [
  | inl goes ↦ rw goes (joined_from_order ranges (extended range next) low under (omega (arith, order, are.0, are.1)) are.2)
  | inr stops ↦ rw stops (under, order, joined_from_order ranges next (range.last + 1) are.0 are.1 are.2)
]

pub joined_order : (ranges : List MemoryRange) → AreAscending 0 ranges → AreAscending 0 (joined ranges)
joined_order [] are = tt
joined_order (next ∷ ranges) are = joined_from_order ranges next 0 are.0 are.1 are.2

-- ---- longest

-- the first of joined ranges begins as the range that they begin with
record BeginsAs (range : MemoryRange) (ranges : List MemoryRange) : Type 0 where
  head : MemoryRange
  tail : List MemoryRange
  parts : ranges ≡ head ∷ tail
  first : head.first ≡ range.first
  kind : head.kind ≡ range.kind

begins : (ranges : List MemoryRange) (range : MemoryRange) → BeginsAs range (joined_from range ranges)
begins [] range = record { head = range; tail = []; parts = refl; first = refl; kind = refl }
begins (next ∷ ranges) range = elim (cases_Bool (goes_on range next)) [
  | inl goes ↦
      let rest = begins ranges (extended range next) in
      record { head = rest.head; tail = rest.tail; parts = rw goes rest.parts; first = rest.first; kind = rest.kind }
  | inr stops ↦ record { head = range; tail = joined_from next ranges; parts = rw stops refl; first = refl; kind = refl }
]

stops_at : (range next head : MemoryRange) → goes_on range next ≡ false → head.first ≡ next.first → head.kind ≡ next.kind → goes_on range head ≡ false
stops_at range next head stops first kind = rw (first, kind) stops

longest_from : (range : MemoryRange) (ranges : List MemoryRange) (next : MemoryRange) → BeginsAs next ranges → goes_on range next ≡ false → AreLongest ranges → AreLongest (range ∷ ranges)
longest_from range ranges next begins stops are =
    let all : AreLongest (begins.head ∷ begins.tail) = rw begins.parts at are in
    rw begins.parts (stops_at range next begins.head stops begins.first begins.kind, all)

pub joined_from_longest : (ranges : List MemoryRange) (range : MemoryRange) → AreLongest (joined_from range ranges)
joined_from_longest [] range = tt
joined_from_longest (next ∷ ranges) range = elim (cases_Bool (goes_on range next)) [
  | inl goes ↦ rw goes (joined_from_longest ranges (extended range next))
  | inr stops ↦ rw stops (longest_from range (joined_from next ranges) next (begins ranges next) stops (joined_from_longest ranges next))
]

pub joined_longest : (ranges : List MemoryRange) → AreLongest (joined ranges)
joined_longest [] = tt
joined_longest (next ∷ ranges) = joined_from_longest ranges next

-- ---- kinds

kind_at_two : (range next : MemoryRange) (ranges : List MemoryRange) (byte : ℕ) → goes_on range next ≡ true → range.first ≤ range.last → next.first ≤ next.last
    → kind_at (extended range next ∷ ranges) byte ≡ kind_at (range ∷ next ∷ ranges) byte
kind_at_two range next ranges byte goes order more =
    let touch = goes_next range next goes in
    let kind = goes_kind range next goes in
    elim (cases_lt byte range.first) [
      | inl under ↦ rw (is_under (extended range next) byte under, is_under range byte under, is_under next byte (omega (arith, under, order, touch))) refl
      | inr on ↦ elim (cases_lt next.last byte) [
        | inl over ↦ rw (is_over (extended range next) byte over, is_over range byte (omega (arith, over, more, touch)), is_over next byte over) refl
        | inr within ↦ elim (cases_lt range.last byte) [
          | inl later ↦ rw (is_within (extended range next) byte on within, is_over range byte later, is_within next byte (omega (arith, later, touch)) within, kind) refl
          | inr sooner ↦ rw (is_within (extended range next) byte on within, is_within range byte on sooner) refl
        ]
      ]
    ]

kind_behind : (range : MemoryRange) (xs ys : List MemoryRange) (byte : ℕ) → kind_at xs byte ≡ kind_at ys byte → kind_at (range ∷ xs) byte ≡ kind_at (range ∷ ys) byte
kind_behind range xs ys byte same = rw same refl

pub joined_from_kinds : (ranges : List MemoryRange) (range : MemoryRange) (byte : ℕ) → range.first ≤ range.last → AreAscending (range.last + 1) ranges
    → kind_at (joined_from range ranges) byte ≡ kind_at (range ∷ ranges) byte
joined_from_kinds [] range byte order are = refl
joined_from_kinds (next ∷ ranges) range byte order are = elim (cases_Bool (goes_on range next)) [
  | inl goes ↦
      ap (λ test. kind_at (if test then joined_from (extended range next) ranges else range ∷ joined_from next ranges) byte) goes
      ∙ joined_from_kinds ranges (extended range next) byte (omega (arith, order, are.0, are.1)) are.2
      ∙ kind_at_two range next ranges byte goes order are.1
  | inr stops ↦
      ap (λ test. kind_at (if test then joined_from (extended range next) ranges else range ∷ joined_from next ranges) byte) stops
      ∙ kind_behind range (joined_from next ranges) (next ∷ ranges) byte (joined_from_kinds ranges next byte are.1 are.2)
]

pub joined_is_same : JoinedIsSame
joined_is_same [] byte are = refl
joined_is_same (next ∷ ranges) byte are = joined_from_kinds ranges next byte are.1 are.2
