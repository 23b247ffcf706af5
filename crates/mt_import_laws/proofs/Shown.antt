-- The bits of a slot are shown by readings, and the bits that make it whole by readings of one table.
use Rattle.std.proofs.Common.{◌≡◌, ◌<◌, ◌/◌, ◌%◌, ℕ, zero, suc, Bool, true, false, ◌==◌, ◌&&◌, not, List, [], ◌∷◌, Some, None, refl, sym, ◌∙◌, ap, subst, bit_or, inl, inr, arith}
use Rattle.std.specs.Prelude.{if◌then◌else◌}
use Rattle.std.specs.Int.{bit_at}
use Rattle.std.proofs.lemmas.Bool.{eqb-false, eqb-true}
use Rattle.std.proofs.lemmas.Nat.Bits.{bit_at-lt, bit_at-pow_other, bit_at-zero, bit_at_ones}
use Rattle.mt_kinds.specs.Bits.{is_bit_set}
use Rattle.mt_import.specs.declared.shape.Reading.{Reading}
use Rattle.mt_import.specs.declared.shape.Slot.{Slot}
use Rattle.mt_import.specs.Slot.{all_bits, is_disabled, is_whole, slot_with, whole_value}
use Rattle.mt_import.specs.Supplied.{Supplied}
use Rattle.mt_import.specs.Outcome.{slot_shown}
use Rattle.mt_import_laws.specs.Origins.{IsShown, ShowsBit}
use Rattle.mt_import_laws.proofs.Bits.{bit_of_either}
use Rattle.mt_import_laws.proofs.Fine.{IsFine, agreed}

-- what shows a bit shows it among more readings
abbrev later : (other : Reading) (before : List Reading) (k number i : ℕ) → ShowsBit before k number i → ShowsBit (other ∷ before) k number i
later other before k number i shows = record { reading = shows.reading; among = inr shows.among; processor_is = shows.processor_is; number_is = shows.number_is; shown_bit = shows.shown_bit }

abbrev first : (reading : Reading) (before : List Reading) (k number i : ℕ) → reading.processor ≡ k → reading.number ≡ number → bit_at reading.bits i ≡ 1 → ShowsBit (reading ∷ before) k number i
first reading before k number i p n one = record { reading = reading; among = inl refl; processor_is = p; number_is = n; shown_bit = one }

no_bit : {A : Type 0} (i : ℕ) → bit_at 0 i ≡ 1 → A
no_bit i one = let e : 0 ≡ 1 = sym (bit_at-zero i) ∙ one in absurd (omega (arith, e))

-- ---- each bit that is known

pub bit_shown : (readings : List Reading) (k number i : ℕ) → bit_at (slot_shown readings k number).bits i ≡ 1 → ShowsBit readings k number i
bit_shown [] k number i one = no_bit i one
bit_shown (reading ∷ before) k number i one = by (reading.processor == k) (reading.number == number) refl refl (bit_shown before k number i) one
  where
    by : (p n : Bool) → (reading.processor == k) ≡ p → (reading.number == number) ≡ n → (bit_at (slot_shown before k number).bits i ≡ 1 → ShowsBit before k number i)
        → bit_at (if p && n then slot_with (slot_shown before k number) reading else slot_shown before k number).bits i ≡ 1 → ShowsBit (reading ∷ before) k number i
    by true true same same_too known one = elim (bit_of_either (slot_shown before k number).bits reading.bits i one) [
      | inl new ↦ first reading before k number i (eqb-true reading.processor k same) (eqb-true reading.number number same_too) new
      | inr old ↦ later reading before k number i (known old)
    ]
    by true false same apart known one = later reading before k number i (known one)
    by false n apart same known one = later reading before k number i (known one)

-- ---- the bits that one table has shown

-- Each of these bits is shown by a reading of this table.
abbrev AreOfTable : List Reading → ℕ → ℕ → ℕ → ℕ → Type 0
AreOfTable readings k number table fresh = (i : ℕ) → bit_at fresh i ≡ 1 → (b : ShowsBit readings k number i) × (b.reading.table ≡ table)

record OfOneTable (readings : List Reading) (k number : ℕ) (slot : Slot) : Type 0 where
  table : ℕ
  bits : AreOfTable readings k number table slot.fresh
  last : is_whole slot ≡ false → table ≡ slot.table

more : (other : Reading) (before : List Reading) (k number table fresh : ℕ) → AreOfTable before k number table fresh → AreOfTable (other ∷ before) k number table fresh
more other before k number table fresh bits i one = let found = bits i one in (later other before k number i found.0, found.1)

module _ (reading : Reading) (before : List Reading) (k number : ℕ) (p : reading.processor ≡ k) (n : reading.number ≡ number) where
  own : AreOfTable (reading ∷ before) k number reading.table reading.bits
  own i one = (first reading before k number i p n one, refl)

  joined : (fresh : ℕ) → AreOfTable before k number reading.table fresh → AreOfTable (reading ∷ before) k number reading.table (bit_or fresh reading.bits)
  joined fresh bits i one = elim (bit_of_either fresh reading.bits i one) [
    | inl new ↦ own i new
    | inr old ↦ more reading before k number reading.table fresh bits i old
  ]

  one_more : (slot : Slot) → OfOneTable before k number slot → (whole same : Bool) → is_whole slot ≡ whole → (slot.table == reading.table) ≡ same → OfOneTable (reading ∷ before) k number (slot_with slot reading)
  one_more slot has true same is is_same = record {
    table = has.table;
    bits = rw is (more reading before k number has.table slot.fresh has.bits);
    last = λ not_whole. let e : is_whole slot ≡ false = rw is at not_whole in cc (e, is);
  }
  one_more slot has false true is is_same =
      let t : has.table ≡ reading.table = has.last is ∙ eqb-true slot.table reading.table is_same in
      record {
        table = reading.table;
        bits = rw (is, is_same) (joined slot.fresh (subst (λ t. AreOfTable before k number t slot.fresh) t has.bits));
        last = λ not_whole. refl;
      }
  one_more slot has false false is apart = record { table = reading.table; bits = rw (is, apart) own; last = λ not_whole. refl }

next_table : (reading : Reading) (before : List Reading) (k number : ℕ) → OfOneTable before k number (slot_shown before k number) → OfOneTable (reading ∷ before) k number (slot_shown (reading ∷ before) k number)
next_table reading before k number has = by (reading.processor == k) (reading.number == number) refl refl
  where
    still : OfOneTable (reading ∷ before) k number (slot_shown before k number)
    still = record { table = has.table; bits = more reading before k number has.table (slot_shown before k number).fresh has.bits; last = has.last }

    by : (p n : Bool) → (reading.processor == k) ≡ p → (reading.number == number) ≡ n
        → OfOneTable (reading ∷ before) k number (if p && n then slot_with (slot_shown before k number) reading else slot_shown before k number)
    by true true same same_too =
        one_more reading before k number (eqb-true reading.processor k same) (eqb-true reading.number number same_too) (slot_shown before k number) has
        (is_whole (slot_shown before k number)) ((slot_shown before k number).table == reading.table) refl refl
    by true false same apart = still
    by false n apart same = still

of_one_table : (readings : List Reading) (k number : ℕ) → OfOneTable readings k number (slot_shown readings k number)
of_one_table [] k number = record { table = 0; bits = λ i one. no_bit i one; last = λ not_whole. refl }
of_one_table (reading ∷ before) k number = next_table reading before k number (of_one_table before k number)

-- ---- a whole register

whole_by : (slot : Slot) (value : ℕ) (test : Bool) → (slot.fresh == all_bits) ≡ test → (if test then Some slot.value else None) ≡ Some value → (slot.fresh ≡ all_bits) × (slot.value ≡ value)
whole_by slot value true is found = (eqb-true slot.fresh all_bits is, cc found)
whole_by slot value false is found = cc found

pub is_shown : (supplied : Supplied) (readings : List Reading) (k number value : ℕ) → IsFine supplied readings → whole_value (slot_shown readings k number) ≡ Some value → IsShown readings k number value
is_shown supplied readings k number value fine found =
    let slot = slot_shown readings k number in
    let whole = whole_by slot value (slot.fresh == all_bits) refl found in
    let has = of_one_table readings k number in
    record {
      table = has.table;
      bits = λ i within.
          let found_bit = has.bits i (ap (λ f. bit_at f i) whole.0 ∙ bit_at_ones 64 i within) in
          let b = found_bit.0 in
          let agrees = (agreed supplied readings b.reading i fine b.among b.shown_bit).value in
          let here : (slot_shown readings b.reading.processor b.reading.number).value ≡ value =
          ap (λ j. (slot_shown readings j b.reading.number).value) b.processor_is ∙ ap (λ m. (slot_shown readings k m).value) b.number_is ∙ whole.1 in
          (b, found_bit.1, sym agrees ∙ ap (λ v. bit_at v i) here);
    }

-- ---- a pair that is disabled

clear_by : (bit value : Bool) → (bit && not value) ≡ true → (bit ≡ true) × (value ≡ false)
clear_by true true is = cc is
clear_by true false is = (refl, refl)
clear_by false value is = cc is

set_bit : (n : ℕ) → (n == 0x800) ≡ true → bit_at n 11 ≡ 1
set_bit n is = ap (λ bits. bit_at bits 11) (eqb-true n 0x800 is)

not_set : (n : ℕ) → n < 2 → (n == 1) ≡ false → n ≡ 0
not_set zero small is = refl
not_set (suc zero) small is = cc is
not_set (suc (suc n)) small is = absurd (omega (arith, small))

clear_bit : (n : ℕ) → is_bit_set n 11 ≡ false → bit_at n 11 ≡ 0
clear_bit n is = not_set (n / 2048 % 2) (bit_at-lt n 11) is

-- a bit of a number with one bit
the_bit : (i : ℕ) → bit_at 0x800 i ≡ 1 → i ≡ 11
the_bit i one = by (i == 11) refl
  where
    by : (test : Bool) → (i == 11) ≡ test → i ≡ 11
    by true same = eqb-true i 11 same
    by false other = let e : 0 ≡ 1 = sym (bit_at-pow_other 11 i (eqb-false i 11 other)) ∙ one in absurd (omega (arith, e))

-- a reading of the register that shows a bit shows one of those that are known
pub known_bit : (supplied : Supplied) (readings : List Reading) (k number i : ℕ) → IsFine supplied readings → ShowsBit readings k number i → bit_at (slot_shown readings k number).bits i ≡ 1
known_bit supplied readings k number i fine shows =
    subst (λ j. bit_at (slot_shown readings j number).bits i ≡ 1) shows.processor_is
    (subst (λ n. bit_at (slot_shown readings shows.reading.processor n).bits i ≡ 1) shows.number_is (agreed supplied readings shows.reading i fine shows.among shows.shown_bit).shown)

pub only_valid : (supplied : Supplied) (readings : List Reading) (k number i : ℕ) → IsFine supplied readings → is_disabled (slot_shown readings k number) ≡ true → ShowsBit readings k number i → i ≡ 11
only_valid supplied readings k number i fine is shows =
    let slot = slot_shown readings k number in
    let bits : slot.bits ≡ 0x800 = eqb-true slot.bits 0x800 (clear_by (slot.bits == 0x800) (is_bit_set slot.value 11) is).0 in
    the_bit i (ap (λ b. bit_at b i) (sym bits) ∙ known_bit supplied readings k number i fine shows)

pub shown_clear : (supplied : Supplied) (readings : List Reading) (k number : ℕ) → IsFine supplied readings → is_disabled (slot_shown readings k number) ≡ true
    → (b : ShowsBit readings k number 11) × (bit_at b.reading.value 11 ≡ 0)
shown_clear supplied readings k number fine is =
    let slot = slot_shown readings k number in
    let tests = clear_by (slot.bits == 0x800) (is_bit_set slot.value 11) is in
    let b = bit_shown readings k number 11 (set_bit slot.bits tests.0) in
    let agrees = (agreed supplied readings b.reading 11 fine b.among b.shown_bit).value in
    let here : (slot_shown readings b.reading.processor b.reading.number).value ≡ slot.value =
    ap (λ j. (slot_shown readings j b.reading.number).value) b.processor_is ∙ ap (λ m. (slot_shown readings k m).value) b.number_is in
    (b, sym agrees ∙ ap (λ v. bit_at v 11) here ∙ clear_bit slot.value tests.1)
