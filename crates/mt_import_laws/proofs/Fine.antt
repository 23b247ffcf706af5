-- Readings none of which has a rival.
use Rattle.std.proofs.Common.{◌≡◌, ◌<◌, ℕ, Bool, true, false, ◌==◌, nat_lt, List, [], ◌∷◌, Option, Some, None, refl, sym, ◌∙◌, ap, subst, bit_and, inl, inr, arith}
use Rattle.std.specs.Prelude.{⊤, min, if◌then◌else◌}
use Rattle.std.specs.Int.{bit_at}
use Rattle.std.specs.Option.{option_or}
use Rattle.std.proofs.lemmas.Bool.{eqb-true}
use Rattle.std.proofs.lemmas.Bool.Decides.{nat_tests}
use Rattle.std.proofs.lemmas.Nat.Bits.{bit_at-lt, bit_at_and}
use Rattle.mt_import.specs.declared.fault.ImportFault.{ImportFault}
use Rattle.mt_import.specs.declared.fault.ImportFault.TheVariants.{BadProcessor}
use Rattle.mt_import.specs.declared.fault.Rival.{Rival}
use Rattle.mt_import.specs.declared.fault.Rival.TheVariants.{Line, Word, CapabilityWord}
use Rattle.mt_import.specs.declared.shape.Reading.{Reading}
use Rattle.mt_import.specs.declared.shape.Slot.{Slot}
use Rattle.mt_import.specs.Readings.{Fact, is_fault, is_line, is_register_value, is_warning, is_width}
use Rattle.mt_import.specs.Slot.{clashes}
use Rattle.mt_import.specs.Supplied.{Supplied, bits_differ, supplied_value}
use Rattle.mt_import.specs.Outcome.{Seen, capabilities_shown, contradiction, count_rival, counts_fewer, least_count, fact_fault, last_shown, facts_fault, fixed_rival, pairs_fault, reading_fault, rival, seen_after, seen_with, slot_shown}
use Rattle.mt_import_laws.specs.Origins.{IsAmong}
use Rattle.mt_import_laws.proofs.Bits.{bit_first, bit_second, not_false, same_number, value_kept, value_new}

-- neither on bits and VCNT nor on FIX
pub record HasNoRival (supplied : Supplied) (before : List Reading) (reading : Reading) : Type 0 where
  pub rival_is : rival supplied before reading ≡ None
  pub fixed_is : fixed_rival (supplied_value supplied 0xfe) before reading ≡ None

abbrev pub IsFine : Supplied → List Reading → Type 0
IsFine supplied [] = ⊤
IsFine supplied (reading ∷ before) = HasNoRival supplied before reading × IsFine supplied before

-- ---- facts without a fault

pub both_none : (a b : Option ImportFault) → option_or a b ≡ None → (a ≡ None) × (b ≡ None)
both_none None b is = (refl, is)
both_none (Some fault) b is = cc is

no_contradiction : (reading : Reading) (found : Option Rival) → contradiction reading found ≡ None → found ≡ None
no_contradiction reading None is = refl
no_contradiction reading (Some other) is = cc is

neither : (supplied : Supplied) (before : List Reading) (reading : Reading) (found other : Option Rival) → rival supplied before reading ≡ found → fixed_rival (supplied_value supplied 0xfe) before reading ≡ other
    → option_or found other ≡ None → HasNoRival supplied before reading
neither supplied before reading None other one two is = record { rival_is = one; fixed_is = two ∙ is }
neither supplied before reading (Some found) other one two is = cc is

no_rival : (supplied : Supplied) (before : List Reading) (reading : Reading) → reading_fault supplied before reading ≡ None → HasNoRival supplied before reading
no_rival supplied before reading is = by (nat_lt 15 reading.processor) is
  where
    by : (far : Bool) → (if far then Some (BadProcessor reading.place)
        else option_or (contradiction reading (option_or (rival supplied before reading) (fixed_rival (supplied_value supplied 0xfe) before reading))) (pairs_fault before reading)) ≡ None
        → HasNoRival supplied before reading
    by true is = cc is
    by false is =
        neither supplied before reading (rival supplied before reading) (fixed_rival (supplied_value supplied 0xfe) before reading) refl refl
        (no_contradiction reading (option_or (rival supplied before reading) (fixed_rival (supplied_value supplied 0xfe) before reading))
        (both_none (contradiction reading (option_or (rival supplied before reading) (fixed_rival (supplied_value supplied 0xfe) before reading))) (pairs_fault before reading) is).0)

pub fine_after : (supplied : Supplied) (facts : List Fact) (seen : Seen) → facts_fault supplied seen facts ≡ None → IsFine supplied seen.readings → IsFine supplied (seen_after seen facts).readings
fine_after supplied [] seen none fine = fine
fine_after supplied (fact ∷ facts) seen none fine =
    let both = both_none (fact_fault supplied seen fact) (facts_fault supplied (seen_with seen fact) facts) none in
    fine_after supplied facts (seen_with seen fact) both.1 (by fact both.0)
  where
    by : (f : Fact) → fact_fault supplied seen f ≡ None → IsFine supplied (seen_with seen f).readings
    by (is_line number format matched) one = fine
    by (is_register_value reading) one = (no_rival supplied seen.readings reading one, fine)
    by (is_width width place) one = fine
    by (is_warning warning number) one = fine
    by (is_fault fault) one = fine

-- ---- a reading among others

rival_by : (word count clash : Bool) (line : ℕ) (others : Option Rival) → (if word then Some Word else if count then Some CapabilityWord else if clash then Some (Line line) else others) ≡ None → (word ≡ false) × (clash ≡ false) × (others ≡ None) × (count ≡ false)
rival_by true count clash line others is = cc is
rival_by false true clash line others is = cc is
rival_by false false true line others is = cc is
rival_by false false false line others is = (refl, refl, is, refl)

pub tests_of_rival : (supplied : Supplied) (before : List Reading) (reading : Reading) → HasNoRival supplied before reading
    → (bits_differ (supplied_value supplied reading.number) reading.bits reading.value ≡ false) × (clashes (slot_shown before reading.processor reading.number) reading ≡ false)
    × (count_rival (capabilities_shown before) (last_shown before) reading ≡ None) × (counts_fewer (supplied_value supplied 0xfe) (least_count reading) ≡ false)
tests_of_rival supplied before reading is =
    rival_by (bits_differ (supplied_value supplied reading.number) reading.bits reading.value) (counts_fewer (supplied_value supplied 0xfe) (least_count reading))
    (clashes (slot_shown before reading.processor reading.number) reading) (slot_shown before reading.processor reading.number).line (count_rival (capabilities_shown before) (last_shown before) reading) is.rival_is

-- no word gives another bit
word_differs : (given : Option ℕ) (word bits value i : ℕ) → given ≡ Some word → bits_differ given bits value ≡ false → bit_at bits i ≡ 1 → bit_at word i ≡ bit_at value i
word_differs None word bits value i is same one = cc is
word_differs (Some other) word bits value i is same one =
    let w : other ≡ word = cc is in
    let e : bit_and other bits ≡ value = eqb-true (bit_and other bits) value (not_false (bit_and other bits == value) same) in
    ap (λ x. bit_at x i) (sym w) ∙ sym (whole (bit_at other i) (bit_at bits i) (bit_at-lt other i) one) ∙ sym (bit_at_and other bits i) ∙ ap (λ x. bit_at x i) e
  where
    whole : (a b : ℕ) → a < 2 → b ≡ 1 → min a b ≡ a
    whole a b small one = grind (arith, nat_tests, small, one)

pub word_agrees : (supplied : Supplied) (readings : List Reading) (reading : Reading) (word i : ℕ) → IsFine supplied readings → IsAmong reading readings → supplied_value supplied reading.number ≡ Some word
    → bit_at reading.bits i ≡ 1 → bit_at word i ≡ bit_at reading.value i
word_agrees supplied [] reading word i fine among given one = absurd among
word_agrees supplied (other ∷ before) reading word i fine (inl same) given one =
    word_differs (supplied_value supplied reading.number) word reading.bits reading.value i given
    (subst (λ (r : Reading). bits_differ (supplied_value supplied r.number) r.bits r.value ≡ false) same (tests_of_rival supplied before other fine.0).0) one
word_agrees supplied (other ∷ before) reading word i fine (inr later) given one = word_agrees supplied before reading word i fine.1 later given one

-- ---- the slot of a reading's register has its bits

pub record HasBit (slot : Slot) (reading : Reading) (i : ℕ) : Type 0 where
  pub shown : bit_at slot.bits i ≡ 1
  pub value : bit_at slot.value i ≡ bit_at reading.value i

module _ (before : List Reading) (other reading : Reading) (i : ℕ) (fits : clashes (slot_shown before other.processor other.number) other ≡ false) where
  abbrev old : Slot
  old = slot_shown before reading.processor reading.number

  -- one more reading, of the same register or of another
  kept : HasBit old reading i → (processor_test number_test : Bool) → (other.processor == reading.processor) ≡ processor_test → (other.number == reading.number) ≡ number_test
      → HasBit (slot_shown (other ∷ before) reading.processor reading.number) reading i
  kept has true true same same_too =
      let p = eqb-true other.processor reading.processor same in
      let n = eqb-true other.number reading.number same_too in
      let fit : clashes old other ≡ false = subst (λ k. clashes (slot_shown before k reading.number) other ≡ false) p (subst (λ m. clashes (slot_shown before other.processor m) other ≡ false) n fits) in
      rw (same, same_too) (record { shown = bit_first old.bits other.bits i has.shown; value = value_kept old other i fit has.shown ∙ has.value })
  kept has true false same apart = rw (same, apart) has
  kept has false number_test apart same = rw apart has

here : (before : List Reading) (reading : Reading) (i : ℕ) → clashes (slot_shown before reading.processor reading.number) reading ≡ false → bit_at reading.bits i ≡ 1
    → HasBit (slot_shown (reading ∷ before) reading.processor reading.number) reading i
here before reading i fits one =
    let old = slot_shown before reading.processor reading.number in
    rw (same_number reading.processor reading.processor refl, same_number reading.number reading.number refl) (record { shown = bit_second old.bits reading.bits i one; value = value_new old reading i fits one })

pub agreed : (supplied : Supplied) (readings : List Reading) (reading : Reading) (i : ℕ) → IsFine supplied readings → IsAmong reading readings → bit_at reading.bits i ≡ 1
    → HasBit (slot_shown readings reading.processor reading.number) reading i
agreed supplied [] reading i fine among one = absurd among
agreed supplied (other ∷ before) reading i fine (inl same) one =
    subst (λ (r : Reading). HasBit (slot_shown (r ∷ before) reading.processor reading.number) reading i) (sym same)
    (here before reading i (subst (λ (r : Reading). clashes (slot_shown before r.processor r.number) r ≡ false) same (tests_of_rival supplied before other fine.0).1) one)
agreed supplied (other ∷ before) reading i fine (inr later) one =
    kept before other reading i (tests_of_rival supplied before other fine.0).1 (agreed supplied before reading i fine.1 later one) (other.processor == reading.processor) (other.number == reading.number) refl refl
