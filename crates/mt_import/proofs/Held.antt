-- What a reader keeps when it takes one more fact.
use Rattle.std.proofs.Common.{◌≡◌, ◌≢◌, ◌≤◌, ◌<◌, ◌+◌, ◌-◌, ◌*◌, ℕ, Bool, true, false, ◌==◌, ◌&&◌, nat_lt, zero, suc, List, ◌∷◌, replicate, Option, Some, None, refl, sym, ◌∙◌, ap, arith, slice_set, subst, bit_or}
use Rattle.std.specs.Prelude.{max, if◌then◌else◌}
use Rattle.std.specs.List.{slice_index_or}
use Rattle.std.proofs.lemmas.Bool.{eqb-true}
use Rattle.std.proofs.lemmas.List.{get_or-set_other, length-replicate}
use Rattle.std.proofs.lemmas.Grind.{get_or-set_at}
use Rattle.std.proofs.Math.ListN.{length-set}
use Rattle.std.proofs.lemmas.Bool.Decides.{nat_tests}
use Rattle.mt_regs.specs.RegisterFile.{low_byte}
use Rattle.mt_import.specs.declared.format.Format.{Format}
use Rattle.mt_import.specs.declared.shape.Reading.{Reading}
use Rattle.mt_import.specs.declared.shape.Slot.{Slot}
use Rattle.mt_import.specs.declared.shape.Tally.{Tally}
use Rattle.mt_import.specs.declared.shape.Warning.{Warning}
use Rattle.mt_import.specs.declared.reading.Context.{Context}
use Rattle.mt_text.specs.declared.place.Place.{Place}
use Rattle.mt_import.specs.Readings.{is_line, is_register_value, is_warning, is_width}
use Rattle.mt_import.specs.Outcome.{Seen, capabilities_after, fixed_line_after, last_after, nothing_seen, seen_with, slot_shown, tally_warned, tally_with}
use Rattle.mt_import.specs.Warnings.{none_warned, warned_by, warned_with}
use Rattle.mt_import.specs.Slot.{blank_slot, slot_with}
use Rattle.mt_import.specs.Values.{is_fixed_number, is_pair_number}
use Rattle.mt_import.specs.Reader.{HasTakenFacts, IsFit, IsReader, State, held_at, slot_of}

none_at : (n i : ℕ) → slice_index_or (replicate n blank_slot) i blank_slot ≡ blank_slot
none_at zero i = refl
none_at (suc n) zero = refl
none_at (suc n) (suc i) = none_at n i

at_start : (processor : ℕ) (slot : Option ℕ) → held_at (replicate 1584 blank_slot) processor slot ≡ blank_slot
at_start processor None = refl
at_start processor (Some slot) = none_at 1584 (99 * processor + slot)

pub taken_new : (context : Context) (format : Option Format)
    → HasTakenFacts (record { context = context; slots = replicate 1584 blank_slot; capabilities = blank_slot; last = None; line_of_fixed = None; processors = 1; width = None; line_of_width = 0; tally = record { format = format; lines = 0; matches = 0; warned = none_warned } }) (nothing_seen format)
taken_new context format = record {
  slots_are = λ processor number. at_start processor (slot_of number);
  capabilities_is = refl;
  last_is = refl;
  line_of_fixed_is = refl;
  processors_is = refl;
  width_is = refl;
  line_of_width_is = refl;
  tally_is = refl;
}

pub reader_new : IsReader (replicate 1584 blank_slot) 1 None
reader_new = record {
  size = length-replicate {A = Slot} 1584 blank_slot;
  some = omega arith;
  few = omega arith;
  fit = tt;
  pairs = λ processor. subst (λ (s : Slot). low_byte s.value ≤ 32) (sym (at_start processor (slot_of 0xfe))) (omega arith);
}

-- ---- slots

-- the register in a slot
abbrev number_in : ℕ → ℕ
number_in slot = if slot == 0 then 0xfe else if slot == 97 then 0x277 else if slot == 98 then 0x2ff else if nat_lt slot 65 then slot + 0x1ff else slot + 0x20f

slot_is : (number slot : ℕ) → slot_of number ≡ Some slot → (slot < 99) × (number ≡ number_in slot)
slot_is number slot is = by (number == 0xfe) refl (number == 0x277) refl (number == 0x2ff) refl (is_pair_number number) refl (is_fixed_number number) refl
  where
    same : (a b : ℕ) → ◌≡◌ {A = Option ℕ} (Some a) (Some b) → b ≡ a
    same a b e = cc e

    at : (other : ℕ) → slot ≡ other → other < 99 → number ≡ number_in other → (slot < 99) × (number ≡ number_in slot)
    at other equal less own = rw equal (less, own)

    in_pairs : is_pair_number number ≡ true → (0x1ff < number) × (number < 0x240)
    in_pairs e = (grind (arith, nat_tests, e), grind (arith, nat_tests, e))

    in_fixed : is_fixed_number number ≡ true → (0x24f < number) × (number < 0x270)
    in_fixed e = (grind (arith, nat_tests, e), grind (arith, nat_tests, e))

    of_pair : (0x1ff < number) × (number < 0x240) → (number - 0x1ff < 99) × (number ≡ number_in (number - 0x1ff))
    of_pair low = (omega (arith, low.1), grind (arith, nat_tests, low.0, low.1))

    of_fixed : (0x24f < number) × (number < 0x270) → (number - 0x20f < 99) × (number ≡ number_in (number - 0x20f))
    of_fixed low = (omega (arith, low.1), grind (arith, nat_tests, low.0, low.1))

    by : (a : Bool) → (number == 0xfe) ≡ a → (b : Bool) → (number == 0x277) ≡ b → (c : Bool) → (number == 0x2ff) ≡ c → (d : Bool) → is_pair_number number ≡ d → (e : Bool) → is_fixed_number number ≡ e
        → (slot < 99) × (number ≡ number_in slot)
    by true is_a b is_b c is_c d is_d e is_e = at 0 (same 0 slot (let e = is in rw is_a at e)) (omega arith) (eqb-true number 0xfe is_a)
    by false is_a true is_b c is_c d is_d e is_e = at 97 (same 97 slot (let e = is in rw (is_a, is_b) at e)) (omega arith) (eqb-true number 0x277 is_b)
    by false is_a false is_b true is_c d is_d e is_e = at 98 (same 98 slot (let e = is in rw (is_a, is_b, is_c) at e)) (omega arith) (eqb-true number 0x2ff is_c)
    by false is_a false is_b false is_c true is_d e is_e =
        let own = of_pair (in_pairs is_d) in at (number - 0x1ff) (same (number - 0x1ff) slot (let e = is in rw (is_a, is_b, is_c, is_d) at e)) own.0 own.1
    by false is_a false is_b false is_c false is_d true is_e =
        let own = of_fixed (in_fixed is_e) in at (number - 0x20f) (same (number - 0x20f) slot (let e = is in rw (is_a, is_b, is_c, is_d, is_e) at e)) own.0 own.1
    by false is_a false is_b false is_c false is_d false is_e = let e : None ≡ Some slot = rw (is_a, is_b, is_c, is_d, is_e) at is in cc e

slot_within : (number slot : ℕ) → slot_of number ≡ Some slot → slot < 99
slot_within number slot is = (slot_is number slot is).0

slots_apart : (a b slot : ℕ) → slot_of a ≡ Some slot → slot_of b ≡ Some slot → a ≡ b
slots_apart a b slot is is_too = (slot_is a slot is).1 ∙ sym (slot_is b slot is_too).1

-- ---- one more reading

most : (a b : ℕ) → (1 ≤ a) → (a ≤ 16) → (b ≤ 16) → (1 ≤ max a b) × (max a b ≤ 16)
most a b some few few_too = (grind (arith, nat_tests, some), grind (arith, nat_tests, few, few_too))

places_apart : (p k slot s : ℕ) → slot < 99 → s < 99 → 99 * k + s ≡ 99 * p + slot → k ≡ p
places_apart p k slot s within within_too same = omega (arith, within, within_too, same)

module _ (state : State) (reading : Reading) (slot : ℕ) (next : Slot) (is : IsReader state.slots state.processors state.width) (at : slot_of reading.number ≡ Some slot) (few : reading.processor < 16)
    (is_next : next ≡ slot_with (held_at state.slots reading.processor (Some slot)) reading) where
  abbrev slots : List Slot
  slots = slice_set state.slots (99 * reading.processor + slot) next

  other : (k number : ℕ) → (reading.processor == k && reading.number == number) ≡ false → (found : Option ℕ) → slot_of number ≡ found → held_at slots k found ≡ held_at state.slots k found
  other k number apart None found = refl
  other k number apart (Some s) found = get_or-set_other state.slots (99 * reading.processor + slot) (99 * k + s) next blank_slot differ
    where
      equal : (a b : ℕ) → a ≡ b → (b == a) ≡ true
      equal a b e = grind (arith, nat_tests, e)

      differ : 99 * k + s ≢ 99 * reading.processor + slot
      differ same =
          let p = places_apart reading.processor k slot s (slot_within reading.number slot at) (slot_within number s found) same in
          let q : s ≡ slot = omega (arith, p, same) in
          let n = slots_apart number reading.number slot (found ∙ ap Some q) at in
          let e : true ≡ false = rw (equal k reading.processor p, equal number reading.number n) at apart in cc e

  own : held_at slots reading.processor (slot_of reading.number) ≡ slot_with (held_at state.slots reading.processor (slot_of reading.number)) reading
  own =
      ap (held_at slots reading.processor) at
      ∙ get_or-set_at state.slots (99 * reading.processor + slot) (99 * reading.processor + slot) next blank_slot refl (omega (arith, is.size, slot_within reading.number slot at, few))
      ∙ is_next ∙ ap (λ found. slot_with (held_at state.slots reading.processor found) reading) (sym at)

  fits : (reading.number ≡ 0xfe → low_byte (bit_or (held_at state.slots reading.processor (slot_of 0xfe)).value reading.value) ≤ 32)
      → (k : ℕ) (processor_test number_test : Bool) → (reading.processor == k) ≡ processor_test → (reading.number == 0xfe) ≡ number_test → low_byte (held_at slots k (slot_of 0xfe)).value ≤ 32
  fits sound k true true same same_too =
      let n = eqb-true reading.number 0xfe same_too in
      subst (λ j. low_byte (held_at slots j (slot_of 0xfe)).value ≤ 32) (eqb-true reading.processor k same)
      (subst (λ m. low_byte (held_at slots reading.processor (slot_of m)).value ≤ 32) n
      (subst (λ (s : Slot). low_byte s.value ≤ 32) (sym own)
      (subst (λ m. low_byte (bit_or (held_at state.slots reading.processor (slot_of m)).value reading.value) ≤ 32) (sym n) (sound n))))
  fits sound k true false same apart =
      let e : (reading.processor == k && reading.number == 0xfe) ≡ false = rw (same, apart) refl in subst (λ (s : Slot). low_byte s.value ≤ 32) (sym (other k 0xfe e (slot_of 0xfe) refl)) (is.pairs k)
  fits sound k false number_test apart same =
      let e : (reading.processor == k && reading.number == 0xfe) ≡ false = rw apart refl in subst (λ (s : Slot). low_byte s.value ≤ 32) (sym (other k 0xfe e (slot_of 0xfe) refl)) (is.pairs k)

  pub reader_more : (reading.number ≡ 0xfe → low_byte (bit_or (held_at state.slots reading.processor (slot_of 0xfe)).value reading.value) ≤ 32) → IsReader slots (max (reading.processor + 1) state.processors) state.width
  reader_more sound =
      let bounds = most (reading.processor + 1) state.processors (omega arith) (omega (arith, few)) is.few in
      record {
        size = length-set state.slots (99 * reading.processor + slot) next ∙ is.size;
        some = bounds.0;
        few = bounds.1;
        fit = is.fit;
        pairs = λ k. fits sound k (reading.processor == k) (reading.number == 0xfe) refl refl;
      }

  module _ (seen : Seen) (holds : HasTakenFacts state seen) where
    here : held_at slots reading.processor (slot_of reading.number) ≡ slot_with (slot_shown seen.readings reading.processor reading.number) reading
    here = own ∙ ap (λ s. slot_with s reading) (holds.slots_are reading.processor reading.number)

    shown : (k number : ℕ) (processor_test number_test : Bool) → (reading.processor == k) ≡ processor_test → (reading.number == number) ≡ number_test
        → held_at slots k (slot_of number) ≡ slot_shown (reading ∷ seen.readings) k number
    shown k number true true same same_too =
        let p = eqb-true reading.processor k same in
        let n = eqb-true reading.number number same_too in
        rw (same, same_too) (
        ap (λ j. held_at slots j (slot_of number)) (sym p) ∙ ap (λ m. held_at slots reading.processor (slot_of m)) (sym n) ∙ here
        ∙ ap (λ j. slot_with (slot_shown seen.readings j reading.number) reading) p ∙ ap (λ m. slot_with (slot_shown seen.readings k m) reading) n
        )
    shown k number true false same apart =
        let e : (reading.processor == k && reading.number == number) ≡ false = rw (same, apart) refl in rw (same, apart) (other k number e (slot_of number) refl ∙ holds.slots_are k number)
    shown k number false number_test apart same =
        let e : (reading.processor == k && reading.number == number) ≡ false = rw apart refl in rw apart (other k number e (slot_of number) refl ∙ holds.slots_are k number)

    pub taken_more : HasTakenFacts (record { context = state.context; slots = slots; capabilities = capabilities_after reading state.capabilities; last = last_after reading state.last; line_of_fixed = fixed_line_after reading state.line_of_fixed; processors = max (reading.processor + 1) state.processors; width = state.width; line_of_width = state.line_of_width; tally = tally_warned state.tally (warned_by reading state.tally.warned) })
        (seen_with seen (is_register_value reading))
    taken_more = record {
      slots_are = λ k number. shown k number (reading.processor == k) (reading.number == number) refl refl;
      capabilities_is = ap (capabilities_after reading) holds.capabilities_is;
      last_is = ap (last_after reading) holds.last_is;
      line_of_fixed_is = ap (fixed_line_after reading) holds.line_of_fixed_is;
      processors_is = ap (max (reading.processor + 1)) holds.processors_is;
      width_is = holds.width_is;
      line_of_width_is = holds.line_of_width_is;
      tally_is = ap (λ (t : Tally). tally_warned t (warned_by reading t.warned)) holds.tally_is;
    }

pub reader_width : (held : List Slot) (count width : ℕ) (before : Option ℕ) → IsReader held count before → IsFit width → IsReader held count (Some width)
reader_width held count width before is fit = record { size = is.size; some = is.some; few = is.few; fit = fit; pairs = is.pairs }

pub taken_width : (state : State) (seen : Seen) (width : ℕ) (place : Place) → HasTakenFacts state seen
    → HasTakenFacts (record { context = state.context; slots = state.slots; capabilities = state.capabilities; last = state.last; line_of_fixed = state.line_of_fixed; processors = state.processors; width = Some width; line_of_width = place.line; tally = state.tally }) (seen_with seen (is_width width place))
taken_width state seen width place holds = record {
  slots_are = holds.slots_are;
  capabilities_is = holds.capabilities_is;
  last_is = holds.last_is;
  line_of_fixed_is = holds.line_of_fixed_is;
  processors_is = holds.processors_is;
  width_is = refl;
  line_of_width_is = refl;
  tally_is = holds.tally_is;
}

-- a line was counted
pub taken_line : (state : State) (seen : Seen) (number : ℕ) (format : Option Format) (matched : Bool) → HasTakenFacts state seen
    → HasTakenFacts (record { context = state.context; slots = state.slots; capabilities = state.capabilities; last = state.last; line_of_fixed = state.line_of_fixed; processors = state.processors; width = state.width; line_of_width = state.line_of_width; tally = tally_with state.tally number format matched }) (seen_with seen (is_line number format matched))
taken_line state seen number format matched holds = record {
  slots_are = holds.slots_are;
  capabilities_is = holds.capabilities_is;
  last_is = holds.last_is;
  line_of_fixed_is = holds.line_of_fixed_is;
  processors_is = holds.processors_is;
  width_is = holds.width_is;
  line_of_width_is = holds.line_of_width_is;
  tally_is = ap (λ t. tally_with t number format matched) holds.tally_is;
}

-- a line warned
pub taken_warning : (state : State) (seen : Seen) (warning : Warning) (number : ℕ) → HasTakenFacts state seen
    → HasTakenFacts (record { context = state.context; slots = state.slots; capabilities = state.capabilities; last = state.last; line_of_fixed = state.line_of_fixed; processors = state.processors; width = state.width; line_of_width = state.line_of_width; tally = tally_warned state.tally (warned_with warning number state.tally.warned) }) (seen_with seen (is_warning warning number))
taken_warning state seen warning number holds = record {
  slots_are = holds.slots_are;
  capabilities_is = holds.capabilities_is;
  last_is = holds.last_is;
  line_of_fixed_is = holds.line_of_fixed_is;
  processors_is = holds.processors_is;
  width_is = holds.width_is;
  line_of_width_is = holds.line_of_width_is;
  tally_is = ap (λ (t : Tally). tally_warned t (warned_with warning number t.warned)) holds.tally_is;
}

-- what a reader keeps doesn't speak of its context
pub taken_in : (state : State) (seen : Seen) (context : Context) → HasTakenFacts state seen
    → HasTakenFacts (record { context = context; slots = state.slots; capabilities = state.capabilities; last = state.last; line_of_fixed = state.line_of_fixed; processors = state.processors; width = state.width; line_of_width = state.line_of_width; tally = state.tally }) seen
taken_in state seen context holds = record {
  slots_are = holds.slots_are;
  capabilities_is = holds.capabilities_is;
  last_is = holds.last_is;
  line_of_fixed_is = holds.line_of_fixed_is;
  processors_is = holds.processors_is;
  width_is = holds.width_is;
  line_of_width_is = holds.line_of_width_is;
  tally_is = holds.tally_is;
}
