-- A register that comes out of readings of its parts, and a pair that is off.
use Rattle.std.proofs.Common.{◌≡◌, ◌∙◌, ◌^◌, ◌<◌, ◌==◌, ◌&&◌, ℕ, Bool, true, false, List, [], ◌∷◌, Option, Some, None, refl, sym, ap, subst, arith, inl, inr, bit_or}
use Rattle.std.specs.Prelude.{◌⊎◌, ⊤, if◌then◌else◌}
use Rattle.std.specs.Int.{bit_at}
use Rattle.std.specs.List.{AllByRecursion}
use Rattle.std.proofs.lemmas.Bool.{eqb-true}
use Rattle.std.proofs.lemmas.Nat.Bits.{bit_at_ones}
use lib.Bits.{or_self, or_zero_l}
use Rattle.mt_regs.specs.RegisterFile.{IsRegisterFile, RegisterFile}
use Rattle.mt_import.specs.declared.shape.Reading.{Reading}
use Rattle.mt_import.specs.declared.shape.Slot.{Slot}
use Rattle.mt_import.specs.Readings.{Fact, is_fault, is_line, is_register_value, is_warning, is_width}
use Rattle.mt_import.specs.Slot.{all_bits, is_disabled, is_whole, slot_with}
use Rattle.mt_import.specs.Supplied.{Supplied, supplied_value}
use Rattle.mt_import.specs.Values.{assumed_of, assumed_value, disabled_value, is_pair_number, mask_of, or_supplied}
use Rattle.mt_import.specs.Outcome.{Seen, findings_of, known_by, seen_after, seen_with, slot_shown, values_of}
use Rattle.mt_import.proofs.Same.{value_is}
use Rattle.mt_import_laws.specs.Origins.{IsAmong}
use Rattle.mt_import_laws.specs.Printed.{Agrees, Key, number_at, value_in}
use Rattle.mt_import_laws.proofs.Bits.{bit_first, bit_second, same_number}
use Rattle.mt_import_laws.proofs.Keys.{IsKey, same_key, value_at_key}
use Rattle.mt_import_laws.proofs.PartBits.{whole_by_bits}
use Rattle.mt_import_laws.proofs.Whole.{IsKnown, IsPart, Prints, known, same_file, whole_slot}

-- ---- all facts of one table

abbrev pub IsOfTable : ℕ → Fact → Type 0
IsOfTable table (is_line number format matched) = ⊤
IsOfTable table (is_register_value reading) = reading.table ≡ table
IsOfTable table (is_width width place) = ⊤
IsOfTable table (is_warning warning number) = ⊤
IsOfTable table (is_fault fault) = ⊤

-- a reading behind which, as it is itself, all are of a table
abbrev pub IsRecent : ℕ → List Reading → Reading → Type 0
IsRecent table [] reading = ⊥
IsRecent table (other ∷ before) reading = (other.table ≡ table) × ((other ≡ reading) ⊎ IsRecent table before reading)

-- a reading that is a fact of the table is gathered behind others
pub recent_gathers : (table : ℕ) (facts : List Fact) (seen : Seen) (reading : Reading) → AllByRecursion (IsOfTable table) facts → IsAmong (is_register_value reading) facts ⊎ IsRecent table seen.readings reading
    → IsRecent table (seen_after seen facts).readings reading
recent_gathers table [] seen reading of (inl fact) = absurd fact
recent_gathers table [] seen reading of (inr before) = before
recent_gathers table (fact ∷ facts) seen reading of (inl (inr later)) = recent_gathers table facts (seen_with seen fact) reading of.1 (inl later)
recent_gathers table (fact ∷ facts) seen reading of (inl (inl same)) =
    recent_gathers table facts (seen_with seen fact) reading of.1
    (inr (subst (λ (f : Fact). IsOfTable table f → IsRecent table (seen_with seen f).readings reading) (sym same) (λ is. (is, inl refl)) of.0))
recent_gathers table (fact ∷ facts) seen reading of (inr before) = recent_gathers table facts (seen_with seen fact) reading of.1 (inr (by fact of.0))
  where
    by : (f : Fact) → IsOfTable table f → IsRecent table (seen_with seen f).readings reading
    by (is_line number format matched) is = before
    by (is_register_value other) is = (is, inr before)
    by (is_width width place) is = before
    by (is_warning warning number) is = before
    by (is_fault fault) is = before

-- ---- one register

module _ (file : RegisterFile) (prints : Prints) (key : Key) (is_key : IsKey key) (table : ℕ) where
  abbrev slot : List Reading → Slot
  slot readings = slot_shown readings 0 (number_at key)

  -- a bit that a reading shows
  new_bit : (before : List Reading) (reading : Reading) (i : ℕ) → i < 64 → bit_at reading.bits i ≡ 1 → bit_at (slot_with (slot before) reading).fresh i ≡ 1
  new_bit before reading i within one = by (is_whole (slot before)) ((slot before).table == reading.table) refl
    where
      by : (whole test : Bool) → ((slot before).fresh == all_bits) ≡ whole → bit_at (if whole then (slot before).fresh else if test then bit_or (slot before).fresh reading.bits else reading.bits) i ≡ 1
      by true test is = ap (λ x. bit_at x i) (eqb-true (slot before).fresh all_bits is) ∙ bit_at_ones 64 i within
      by false true is = bit_second (slot before).fresh reading.bits i one
      by false false is = one

  zero_of : (k : ℕ) → k < 1 → k ≡ 0
  zero_of k less = omega (arith, less)

  -- The table shows this bit, and its readings are the last.
  record IsFresh (s : Slot) (i : ℕ) : Type 0 where
    bit : bit_at s.fresh i ≡ 1
    at : s.table ≡ table

  old_bit : (before : List Reading) (reading : Reading) (i : ℕ) → IsFresh (slot before) i → reading.table ≡ table → bit_at (slot_with (slot before) reading).fresh i ≡ 1
  old_bit before reading i earlier at = by (is_whole (slot before)) ((slot before).table == reading.table) (same_number (slot before).table reading.table (earlier.at ∙ sym at))
    where
      by : (whole test : Bool) → test ≡ true → bit_at (if whole then (slot before).fresh else if test then bit_or (slot before).fresh reading.bits else reading.bits) i ≡ 1
      by true test is = earlier.bit
      by false true is = bit_first (slot before).fresh reading.bits i earlier.bit
      by false false is = cc is

  fresh_bit : (readings : List Reading) (reading : Reading) (i : ℕ) → AllByRecursion (IsPart (same_file file) 1 prints) readings → IsRecent table readings reading → reading.number ≡ number_at key → i < 64 → bit_at reading.bits i ≡ 1
      → IsFresh (slot readings) i
  fresh_bit [] reading i parts recent number within one = absurd recent
  fresh_bit (other ∷ before) reading i parts recent number within one = elim recent.1 [
    | inl found ↦
        rw (same_number other.processor 0 (zero_of other.processor parts.0.processor), same_number other.number (number_at key) (ap (λ (r : Reading). r.number) found ∙ number))
        (record { bit = new_bit before other i within (ap (λ (r : Reading). bit_at r.bits i) found ∙ one); at = recent.0 })
    | inr later ↦ by (other.processor == 0 && other.number == number_at key) (fresh_bit before reading i parts.1 later number within one)
  ]
    where
      by : (test : Bool) → IsFresh (slot before) i → IsFresh (if test then slot_with (slot before) other else slot before) i
      by true earlier = record { bit = old_bit before other i earlier recent.0; at = recent.0 }
      by false earlier = earlier

  -- a reading of the register that shows a bit, behind which all readings are of the table
  pub record ShowsOne (readings : List Reading) (i : ℕ) : Type 0 where
    pub reading : Reading
    pub recent : IsRecent table readings reading
    pub number : reading.number ≡ number_at key
    pub one : bit_at reading.bits i ≡ 1

  -- readings of the table that show each bit show all of it
  pub parts_whole : (readings : List Reading) → AllByRecursion (IsPart (same_file file) 1 prints) readings → ((i : ℕ) → i < 64 → ShowsOne readings i) → (slot readings).fresh ≡ all_bits
  parts_whole readings parts each =
      whole_by_bits (slot readings).fresh (known (same_file file) 1 prints readings 0 key parts is_key).small (λ i within.
      let shows = each i within in
      (fresh_bit readings shows.reading i parts shows.recent shows.number within shows.one).bit)

  -- ---- a register of which lines show the same bits

  module _ (bits : ℕ) (only : (shown : ℕ) → prints key shown ≡ true → shown ≡ bits) where
    own_bits : (reading : Reading) → IsPart (same_file file) 1 prints reading → reading.number ≡ number_at key → reading.bits ≡ bits
    own_bits reading part number = only reading.bits (ap (λ k. prints k reading.bits) (sym (same_key part.key key part.is_key is_key (sym part.number ∙ number))) ∙ part.is_printed)

    with_bits : (old new : ℕ) → (old ≡ 0) ⊎ (old ≡ bits) → new ≡ bits → bit_or old new ≡ bits
    with_bits old new (inl none) is = rw (none, is) (or_zero_l bits)
    with_bits old new (inr some) is = rw (some, is) (or_self bits)

    none_or_bits : (readings : List Reading) → AllByRecursion (IsPart (same_file file) 1 prints) readings → ((slot readings).bits ≡ 0) ⊎ ((slot readings).bits ≡ bits)
    none_or_bits [] parts = inl refl
    none_or_bits (reading ∷ before) parts = by (reading.processor == 0) (reading.number == number_at key) refl (none_or_bits before parts.1)
      where
        by : (p n : Bool) → (reading.number == number_at key) ≡ n → ((slot before).bits ≡ 0) ⊎ ((slot before).bits ≡ bits)
            → ((if p && n then slot_with (slot before) reading else slot before).bits ≡ 0) ⊎ ((if p && n then slot_with (slot before) reading else slot before).bits ≡ bits)
        by true true is earlier = inr (with_bits (slot before).bits reading.bits earlier (own_bits reading parts.0 (eqb-true reading.number (number_at key) is)))
        by true false is earlier = earlier
        by false n is earlier = earlier

    pub held_bits : (readings : List Reading) (reading : Reading) → AllByRecursion (IsPart (same_file file) 1 prints) readings → IsAmong reading readings → reading.number ≡ number_at key → (slot readings).bits ≡ bits
    held_bits [] reading parts among number = absurd among
    held_bits (other ∷ before) reading parts (inl found) number =
        let here : other.number ≡ number_at key = ap (λ (r : Reading). r.number) found ∙ number in
        rw (same_number other.processor 0 (zero_of other.processor parts.0.processor), same_number other.number (number_at key) here) (with_bits (slot before).bits other.bits (none_or_bits before parts.1) (own_bits other parts.0 here))
    held_bits (other ∷ before) reading parts (inr later) number = by (other.processor == 0) (other.number == number_at key) refl (held_bits before reading parts.1 later number)
      where
        by : (p n : Bool) → (other.number == number_at key) ≡ n → (slot before).bits ≡ bits → (if p && n then slot_with (slot before) other else slot before).bits ≡ bits
        by true true is earlier = with_bits (slot before).bits other.bits (inr earlier) (own_bits other parts.0 (eqb-true other.number (number_at key) is))
        by true false is earlier = earlier
        by false n is earlier = earlier

-- ---- a pair that is off

module _ (file : RegisterFile) (supplied : Supplied) (is : IsRegisterFile file) (agrees : Agrees supplied file) (seen : Seen) where
  -- V of its mask alone is shown, and clear: a register that no word supplies is 0
  pub off_value : (key : Key) → IsKey key → value_in file key < 2 ^ 64 → IsKnown (slot_shown seen.readings 0 (number_at key)) (value_in file key) → is_pair_number (number_at key) ≡ true
      → is_disabled (slot_shown seen.readings 0 (mask_of (number_at key))) ≡ true → (value_in file key ≡ 0) ⊎ (supplied_value supplied (number_at key) ≡ Some (value_in file key))
      → values_of supplied (findings_of seen) 0 (number_at key) ≡ Some (value_in file key)
  off_value key is_key fits slot pair off zero_or_word = value_is supplied (findings_of seen) 0 (number_at key) ∙ by ((slot_shown seen.readings 0 (number_at key)).fresh == all_bits) refl
    where
      by_word : (given : Option ℕ) → supplied_value supplied (number_at key) ≡ given → (value_in file key ≡ 0) ⊎ (given ≡ Some (value_in file key)) → or_supplied given (Some 0) ≡ Some (value_in file key)
      by_word None none (inl zero) = ap Some (sym zero)
      by_word None none (inr word) = cc word
      by_word (Some word) some zero = ap Some (value_at_key file key word is is_key (agrees.registers (number_at key) word some))

      rest : Option ℕ
      rest = assumed_value (assumed_of 0 supplied.assumed) (slot_shown seen.readings 0) (known_by supplied (findings_of seen)) (number_at key)

      by : (test : Bool) → ((slot_shown seen.readings 0 (number_at key)).fresh == all_bits) ≡ test
          → or_supplied (or_supplied (if test then Some (slot_shown seen.readings 0 (number_at key)).value else None) (or_supplied (supplied_value supplied (number_at key)) (disabled_value (slot_shown seen.readings 0) (number_at key)))) rest
          ≡ Some (value_in file key)
      by true whole = ap Some (whole_slot (slot_shown seen.readings 0 (number_at key)) (value_in file key) slot fits (eqb-true (slot_shown seen.readings 0 (number_at key)).fresh all_bits whole)).shows
      by false part =
          let none : disabled_value (slot_shown seen.readings 0) (number_at key) ≡ Some 0 = rw (pair, off) refl in
          ap (λ o. or_supplied (or_supplied (supplied_value supplied (number_at key)) o) rest) none
          ∙ ap (λ o. or_supplied o rest) (by_word (supplied_value supplied (number_at key)) refl zero_or_word)
