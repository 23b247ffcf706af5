-- Readings that show bits of registers of files, one for each processor: what is known of each register, and that none contradicts another.
use Rattle.std.proofs.Common.{◌≡◌, ◌∙◌, ◌<◌, ◌≤◌, ◌+◌, ◌-◌, ◌*◌, ◌/◌, ◌%◌, ◌==◌, ◌&&◌, ◌^◌, nat_lt, length, slice_index, ℕ, zero, suc, Bool, true, false, List, [], ◌∷◌, Option, Some, None, refl, sym, ap, subst, arith, inl, inr, lit<, lit≤, bit_and, bit_or}
use Rattle.std.specs.Prelude.{if◌then◌else◌, not, replicate, ⊤}
use Rattle.std.specs.Int.{bit_at}
use Rattle.std.specs.List.{AllByRecursion}
use Rattle.std.proofs.lemmas.Bool.{eqb-true}
use Rattle.std.proofs.lemmas.Bool.Decides.{nat_tests}
use Rattle.std.proofs.lemmas.Nat.Bits.{bit_at_and}
use lib.Bits.{and_le_l, and_mask, and_mod, and_zero_l, and_zero_r, or_lt}
use Rattle.mt_kinds.specs.Bits.{is_bit_set}
use Rattle.mt_regs.specs.declared.registers.Register.TheVariants.{PhysBase, PhysMask, FixedRange, Pat, DefaultType}
use Rattle.mt_regs.specs.RegisterFile.{IsRegisterFile, RegisterFile, has_fixed, low_byte, pair_at}
use Rattle.mt_regs.specs.Registers.{fixed_numbers}
use Rattle.mt_text.specs.declared.place.Place.{Place}
use Rattle.mt_import.specs.declared.fault.Rival.{Rival}
use Rattle.mt_import.specs.declared.fault.Rival.TheVariants.{Line, Word, CapabilityLine, CapabilityWord}
use Rattle.mt_import.specs.declared.shape.LastPair.{LastPair}
use Rattle.mt_import.specs.declared.shape.Reading.{Reading}
use Rattle.mt_import.specs.declared.shape.Slot.{Slot}
use Rattle.mt_import.specs.Readings.{Fact, is_fault, is_line, is_register_value, is_warning, is_width}
use Rattle.mt_import.specs.Slot.{all_bits, blank_slot, clashes, is_whole, slot_with}
use Rattle.mt_import.specs.Supplied.{Supplied, bits_differ, differs, supplied_value}
use Rattle.mt_import.specs.Values.{is_pair_number, lacks_fix}
use Rattle.mt_import.specs.Outcome.{Seen, capability_rival, count_of, count_rival, counted, counts_fewer, last_shown, least_count, capabilities_shown, fact_fault, facts_fault, fix_shown, fixed_rival, last_fixed_line, processors, ranged_rival, reading_fault, rival, seen_after, seen_with, shows_fixed, shows_no_fix, slot_shown, uncounted_rival, width_fault}
use Rattle.mt_import_laws.specs.Origins.{IsAmong}
use Rattle.mt_import_laws.specs.Printed.{Agrees, Key, number_at, value_in}
use Rattle.mt_import_laws.proofs.Keys.{IsKey, same_key, value_at_key}
use Rattle.mt_import_laws.proofs.Bits.{same_number}
use Rattle.mt_import_laws.proofs.PartBits.{all_or, covers_both, covers_new, covers_old, parts_agree, parts_join, whole_of_part}

-- the bits that lines may show of a register
abbrev pub Prints : Type 0
Prints = Key → ℕ → Bool

-- any bits of any register
abbrev pub any_bits : Prints
any_bits key bits = true

-- the same file for each processor
abbrev pub same_file : RegisterFile → ℕ → RegisterFile
same_file file k = file

-- The files of so many processors have one width and one capability register.
pub record AreAlike (files : ℕ → RegisterFile) (count : ℕ) : Type 0 where
  pub some : 1 ≤ count
  pub few : count ≤ 16
  pub is_file : (k : ℕ) → k < count → IsRegisterFile (files k)
  pub widths : (k : ℕ) → k < count → (files k).width ≡ (files 0).width
  pub capabilities : (k : ℕ) → k < count → (files k).capabilities ≡ (files 0).capabilities

pub alone : (file : RegisterFile) → IsRegisterFile file → AreAlike (same_file file) 1
alone file is = record { some = lit≤ tt; few = lit≤ tt; is_file = λ k less. is; widths = λ k less. refl; capabilities = λ k less. refl }

-- a reading of one of the processors shows such bits of a register as its file has them
pub record IsPart (files : ℕ → RegisterFile) (count : ℕ) (prints : Prints) (reading : Reading) : Type 0 where
  pub key : Key
  pub is_key : IsKey key
  pub is_printed : prints key reading.bits ≡ true
  pub number : reading.number ≡ number_at key
  pub processor : reading.processor < count
  pub small : reading.bits < 2 ^ 64
  pub value : reading.value ≡ bit_and (value_in (files reading.processor) key) reading.bits

-- a reading that is among some of one processor is of processor 0
pub of_first : (file : RegisterFile) (prints : Prints) (readings : List Reading) (reading : Reading) → AllByRecursion (IsPart (same_file file) 1 prints) readings → IsAmong reading readings → reading.processor ≡ 0
of_first file prints [] reading parts among = absurd among
of_first file prints (other ∷ before) reading parts (inl same) = let less = parts.0.processor in let e : other.processor ≡ 0 = omega (arith, less) in ap (λ (r : Reading). r.processor) (sym same) ∙ e
of_first file prints (other ∷ before) reading parts (inr later) = of_first file prints before reading parts.1 later

-- What is known of a register are bits of this value. All bits of one table count as shown.
pub record IsKnown (slot : Slot) (value : ℕ) : Type 0 where
  pub shows : slot.value ≡ bit_and value slot.bits
  pub small : slot.fresh < 2 ^ 64
  pub covers : bit_and slot.bits slot.fresh ≡ slot.fresh

-- all of a register is known
pub record Holds (slot : Slot) (value : ℕ) : Type 0 where
  pub fresh : slot.fresh ≡ all_bits
  pub shows : slot.value ≡ value

pub whole_slot : (slot : Slot) (value : ℕ) → IsKnown slot value → value < 2 ^ 64 → slot.fresh ≡ all_bits → Holds slot value
whole_slot slot value is fits whole = record {
  fresh = whole;
  shows = is.shows ∙ whole_of_part value slot.bits fits (ap (bit_and slot.bits) (sym whole) ∙ is.covers ∙ whole);
}

-- ---- one more reading of a register

nothing_known : (value : ℕ) → IsKnown blank_slot value
nothing_known value = record { shows = sym (and_zero_r value); small = lit< tt; covers = refl }

module _ (slot : Slot) (reading : Reading) where
  pub one_more : (value : ℕ) → IsKnown slot value → reading.bits < 2 ^ 64 → reading.value ≡ bit_and value reading.bits → IsKnown (slot_with slot reading) value
  one_more value known small is =
      let fresh = by (is_whole slot) (slot.table == reading.table) in
      record { shows = rw (known.shows, is) (parts_join value slot.bits reading.bits); small = fresh.0; covers = fresh.1 }
    where
      by : (whole same : Bool) → ((if whole then slot.fresh else if same then bit_or slot.fresh reading.bits else reading.bits) < 2 ^ 64)
          × (bit_and (bit_or slot.bits reading.bits) (if whole then slot.fresh else if same then bit_or slot.fresh reading.bits else reading.bits)
          ≡ (if whole then slot.fresh else if same then bit_or slot.fresh reading.bits else reading.bits))
      by true same = (known.small, covers_old slot.bits slot.fresh reading.bits known.covers)
      by false true = (or_lt 64 slot.fresh reading.bits known.small small, covers_both slot.bits slot.fresh reading.bits known.covers)
      by false false = (small, covers_new slot.bits reading.bits)

  pub no_clash : (value : ℕ) → IsKnown slot value → reading.value ≡ bit_and value reading.bits → clashes slot reading ≡ false
  no_clash value known is =
      rw (known.shows, is, parts_agree value slot.bits reading.bits, same_number (bit_and (bit_and value reading.bits) slot.bits) (bit_and (bit_and value reading.bits) slot.bits) refl) refl

  -- a whole register stays whole, and is so behind a reading of all bits
  still_whole : slot.fresh ≡ all_bits → (slot_with slot reading).fresh ≡ all_bits
  still_whole whole = rw (same_number slot.fresh all_bits whole) whole

  now_whole : slot.fresh < 2 ^ 64 → reading.bits ≡ all_bits → (slot_with slot reading).fresh ≡ all_bits
  now_whole small bits = by (is_whole slot) (slot.table == reading.table) refl
    where
      by : (whole same : Bool) → (slot.fresh == all_bits) ≡ whole → (if whole then slot.fresh else if same then bit_or slot.fresh reading.bits else reading.bits) ≡ all_bits
      by true same is = eqb-true slot.fresh all_bits is
      by false true is = ap (bit_or slot.fresh) bits ∙ all_or slot.fresh small
      by false false is = bits

-- ---- what holds of one file

module _ (file : RegisterFile) where
  -- ---- VCNT counts each pair of the file

  and_false : (test : Bool) → (test && false) ≡ false
  and_false true = refl
  and_false false = refl

  abbrev enabled : ℕ → ℕ → ℕ
  enabled number value = if is_pair_number number && number % 2 == 1 && is_bit_set value 11 then (number - 0x1ff) / 2 else 0

  fixed_high : (place : ℕ) → place < 11 → nat_lt (slice_index fixed_numbers place) 0x240 ≡ false
  fixed_high zero few = refl
  fixed_high (suc zero) few = refl
  fixed_high (suc (suc zero)) few = refl
  fixed_high (suc (suc (suc zero))) few = refl
  fixed_high (suc (suc (suc (suc zero)))) few = refl
  fixed_high (suc (suc (suc (suc (suc zero))))) few = refl
  fixed_high (suc (suc (suc (suc (suc (suc zero)))))) few = refl
  fixed_high (suc (suc (suc (suc (suc (suc (suc zero))))))) few = refl
  fixed_high (suc (suc (suc (suc (suc (suc (suc (suc zero)))))))) few = refl
  fixed_high (suc (suc (suc (suc (suc (suc (suc (suc (suc zero))))))))) few = refl
  fixed_high (suc (suc (suc (suc (suc (suc (suc (suc (suc (suc zero)))))))))) few = refl
  fixed_high (suc (suc (suc (suc (suc (suc (suc (suc (suc (suc (suc n))))))))))) few = absurd (omega (arith, few))

  even : (n : ℕ) → ((0x200 + 2 * n) % 2 == 1) ≡ false
  even n = let e : (0x200 + 2 * n) % 2 ≡ 0 = omega arith in rw e refl

  beyond : (pairs : List (ℕ × ℕ)) (n : ℕ) → length pairs ≤ n → pair_at pairs n ≡ (0, 0)
  beyond [] n past = refl
  beyond (pair ∷ pairs) zero past = absurd (omega (arith, past))
  beyond (pair ∷ pairs) (suc n) past = beyond pairs n (omega (arith, past))

  enabled_at : (key : Key) (bits : ℕ) → IsRegisterFile file → IsKey key → enabled (number_at key) (bit_and (value_in file key) bits) ≤ low_byte file.capabilities
  enabled_at None bits is_file is = omega arith
  enabled_at (Some (PhysBase n)) bits is_file is = rw (even n, and_false (is_pair_number (0x200 + 2 * n))) (omega arith)
  enabled_at (Some (PhysMask n)) bits is_file is = by_length (nat_lt n (length file.pairs)) refl
    where
      counted_or_none : (test : Bool) → n < length file.pairs → (if test then (0x201 + 2 * n - 0x1ff) / 2 else 0) ≤ low_byte file.capabilities
      counted_or_none true within = let all = is_file.all_pairs in omega (arith, within, all)
      counted_or_none false within = omega arith

      inside : nat_lt n (length file.pairs) ≡ true → n < length file.pairs
      inside test = grind (arith, nat_tests, test)

      outside : nat_lt n (length file.pairs) ≡ false → length file.pairs ≤ n
      outside test = grind (arith, nat_tests, test)

      by_length : (test : Bool) → nat_lt n (length file.pairs) ≡ test → enabled (0x201 + 2 * n) (bit_and (pair_at file.pairs n).1 bits) ≤ low_byte file.capabilities
      by_length true within = counted_or_none (is_pair_number (0x201 + 2 * n) && (0x201 + 2 * n) % 2 == 1 && is_bit_set (bit_and (pair_at file.pairs n).1 bits) 11) (inside within)
      by_length false past =
          let zeros : bit_and (pair_at file.pairs n).1 bits ≡ 0 = ap (λ (pair : ℕ × ℕ). bit_and pair.1 bits) (beyond file.pairs n (outside past)) ∙ and_zero_l bits in
          rw (zeros, and_false (is_pair_number (0x201 + 2 * n) && (0x201 + 2 * n) % 2 == 1)) (omega arith)
  enabled_at (Some (FixedRange place)) bits is_file is = rw (fixed_high place is.0, and_false (nat_lt 0x1ff (slice_index fixed_numbers place))) (omega arith)
  enabled_at (Some Pat) bits is_file is = omega arith
  enabled_at (Some DefaultType) bits is_file is = omega arith

  -- ---- without FIX each fixed-range register is 0

  zero_at : (count place : ℕ) → slice_index (replicate count 0) place ≡ 0
  zero_at zero place = refl
  zero_at (suc count) zero = refl
  zero_at (suc count) (suc place) = zero_at count place

  abbrev ranged : ℕ → ℕ → Bool
  ranged number value = nat_lt 0x24f number && nat_lt number 0x270 && nat_lt 0 value

  no_range : (number value : ℕ) → number < 0x240 → ranged number value ≡ false
  no_range number value low = let test : nat_lt 0x24f number ≡ false = grind (arith, nat_tests, low) in rw test refl

  unranged : (key : Key) (bits : ℕ) → IsRegisterFile file → IsKey key → has_fixed file ≡ false → ranged (number_at key) (bit_and (value_in file key) bits) ≡ false
  unranged None bits is_file is none = refl
  unranged (Some (PhysBase n)) bits is_file is none = let few : n < 32 = is in no_range (0x200 + 2 * n) (bit_and (pair_at file.pairs n).0 bits) (omega (arith, few))
  unranged (Some (PhysMask n)) bits is_file is none = let few : n < 32 = is in no_range (0x201 + 2 * n) (bit_and (pair_at file.pairs n).1 bits) (omega (arith, few))
  unranged (Some (FixedRange place)) bits is_file is none =
      let value : bit_and (slice_index file.fixed place) bits ≡ 0 = ap (λ (l : List ℕ). bit_and (slice_index l place) bits) (is_file.no_fixed none) ∙ ap (λ v. bit_and v bits) (zero_at 11 place) ∙ and_zero_l bits in
      rw value (and_false (nat_lt 0x24f (slice_index fixed_numbers place) && nat_lt (slice_index fixed_numbers place) 0x270))
  unranged (Some Pat) bits is_file is none = refl
  unranged (Some DefaultType) bits is_file is none = refl

-- ---- facts that tell of files

module _ (files : ℕ → RegisterFile) (count : ℕ) (prints : Prints) where
  -- a fact that tells of the files
  abbrev pub IsSound : Fact → Type 0
  IsSound (is_line number format matched) = ⊤
  IsSound (is_register_value reading) = IsPart files count prints reading
  IsSound (is_width width place) = width ≡ (files 0).width
  IsSound (is_warning warning number) = ⊤
  IsSound (is_fault fault) = ⊥

  abbrev pub IsWidth : Option ℕ → Type 0
  IsWidth None = ⊤
  IsWidth (Some width) = width ≡ (files 0).width

  pub record IsSeen (seen : Seen) : Type 0 where
    pub readings : AllByRecursion (IsPart files count prints) seen.readings
    pub width : IsWidth seen.width

  pub seen_next : (seen : Seen) (fact : Fact) → IsSeen seen → IsSound fact → IsSeen (seen_with seen fact)
  seen_next seen (is_line number format matched) is sound = record { readings = is.readings; width = is.width }
  seen_next seen (is_register_value reading) is sound = record { readings = (sound, is.readings); width = is.width }
  seen_next seen (is_width width place) is sound = record { readings = is.readings; width = sound }
  seen_next seen (is_warning warning number) is sound = record { readings = is.readings; width = is.width }
  seen_next seen (is_fault fault) is sound = absurd sound

  pub seen_last : (facts : List Fact) (seen : Seen) → IsSeen seen → AllByRecursion IsSound facts → IsSeen (seen_after seen facts)
  seen_last [] seen is sound = is
  seen_last (fact ∷ facts) seen is sound = seen_last facts (seen_with seen fact) (seen_next seen fact is sound.0) sound.1

module _ (files : ℕ → RegisterFile) (count : ℕ) (prints : Prints) where
  abbrev AreParts : List Reading → Type 0
  AreParts readings = AllByRecursion (IsPart files count prints) readings

  -- the value of a processor's register by its number
  value_by : (reading : Reading) (k : ℕ) (key : Key) → IsPart files count prints reading → reading.processor ≡ k → IsKey key → reading.number ≡ number_at key → reading.value ≡ bit_and (value_in (files k) key) reading.bits
  value_by reading k key part own is same =
      part.value ∙ ap (λ j. bit_and (value_in (files j) part.key) reading.bits) own ∙ ap (λ x. bit_and (value_in (files k) x) reading.bits) (same_key part.key key part.is_key is (sym part.number ∙ same))

  -- ---- what is known of each register

  pub known : (readings : List Reading) (k : ℕ) (key : Key) → AreParts readings → IsKey key → IsKnown (slot_shown readings k (number_at key)) (value_in (files k) key)
  known [] k key all is = nothing_known (value_in (files k) key)
  known (reading ∷ before) k key all is = by (reading.processor == k) (reading.number == number_at key) refl refl (known before k key all.1 is)
    where
      by : (p n : Bool) → (reading.processor == k) ≡ p → (reading.number == number_at key) ≡ n → IsKnown (slot_shown before k (number_at key)) (value_in (files k) key)
          → IsKnown (if p && n then slot_with (slot_shown before k (number_at key)) reading else slot_shown before k (number_at key)) (value_in (files k) key)
      by true true own same earlier =
          one_more (slot_shown before k (number_at key)) reading (value_in (files k) key) earlier all.0.small
          (value_by reading k key all.0 (eqb-true reading.processor k own) is (eqb-true reading.number (number_at key) same))
      by true false own same earlier = earlier
      by false n own same earlier = earlier

  -- a reading of all bits is among them
  pub held : (readings : List Reading) (k : ℕ) (reading : Reading) (key : Key) → AreParts readings → IsKey key → IsAmong reading readings → reading.processor ≡ k → reading.number ≡ number_at key → reading.bits ≡ all_bits
      → (slot_shown readings k (number_at key)).fresh ≡ all_bits
  held [] k reading key all is among own same whole = absurd among
  held (other ∷ before) k reading key all is (inl found) own same whole =
      let processor : other.processor ≡ k = ap (λ (r : Reading). r.processor) found ∙ own in
      let number : other.number ≡ number_at key = ap (λ (r : Reading). r.number) found ∙ same in
      rw (same_number other.processor k processor, same_number other.number (number_at key) number)
      (now_whole (slot_shown before k (number_at key)) other (known before k key all.1 is).small (ap (λ (r : Reading). r.bits) found ∙ whole))
  held (other ∷ before) k reading key all is (inr later) own same whole = by (other.processor == k) (other.number == number_at key) (held before k reading key all.1 is later own same whole)
    where
      by : (p n : Bool) → (slot_shown before k (number_at key)).fresh ≡ all_bits
          → (if p && n then slot_with (slot_shown before k (number_at key)) other else slot_shown before k (number_at key)).fresh ≡ all_bits
      by true true earlier = still_whole (slot_shown before k (number_at key)) other earlier
      by true false earlier = earlier
      by false n earlier = earlier

-- ---- files that are alike

module _ (files : ℕ → RegisterFile) (count : ℕ) (prints : Prints) (alike : AreAlike files count) where
  -- the capability register of all processors
  abbrev shared : ℕ
  shared = (files 0).capabilities

  shared_by : (reading : Reading) → IsPart files count prints reading → reading.number ≡ 0xfe → reading.value ≡ bit_and shared reading.bits
  shared_by reading part number = value_by files count prints reading reading.processor None part refl tt number ∙ ap (λ c. bit_and c reading.bits) (alike.capabilities reading.processor part.processor)

  capabilities_known : (readings : List Reading) → AreParts files count prints readings → IsKnown (capabilities_shown readings) shared
  capabilities_known [] all = nothing_known shared
  capabilities_known (reading ∷ before) all = by (reading.number == 0xfe) refl (capabilities_known before all.1)
    where
      by : (n : Bool) → (reading.number == 0xfe) ≡ n → IsKnown (capabilities_shown before) shared → IsKnown (if n then slot_with (capabilities_shown before) reading else capabilities_shown before) shared
      by true same earlier = one_more (capabilities_shown before) reading shared earlier all.0.small (shared_by reading all.0 (eqb-true reading.number 0xfe same))
      by false same earlier = earlier

  -- ---- how many processors there are

  at_most : (readings : List Reading) → AreParts files count prints readings → processors readings ≤ count
  at_most [] all = alike.some
  at_most (reading ∷ before) all = let less = all.0.processor in let earlier = at_most before all.1 in omega (arith, less, earlier)

  counts : (readings : List Reading) (reading : Reading) → IsAmong reading readings → reading.processor < processors readings
  counts [] reading among = absurd among
  counts (other ∷ before) reading (inl same) = subst (λ (r : Reading). r.processor < processors (other ∷ before)) same (omega arith)
  counts (other ∷ before) reading (inr later) = let earlier = counts before reading later in omega (arith, earlier)

  -- as many as there are files, if a reading is of the last one
  pub all_processors : (readings : List Reading) (last : Reading) → AreParts files count prints readings → IsAmong last readings → last.processor + 1 ≡ count → processors readings ≡ count
  all_processors readings last all among is = let most = at_most readings all in let least = counts readings last among in omega (arith, most, least, is)

  -- ---- VCNT counts each pair that a reading shows as enabled

  enabled_few : (reading : Reading) → IsPart files count prints reading → least_count reading ≤ low_byte shared
  enabled_few reading part =
      let file = files reading.processor in
      rw (part.number, part.value) (subst (λ c. enabled file (number_at part.key) (bit_and (value_in file part.key) reading.bits) ≤ low_byte c) (alike.capabilities reading.processor part.processor)
      (enabled_at file part.key reading.bits (alike.is_file reading.processor part.processor) part.is_key))

  last_few : (readings : List Reading) → AreParts files count prints readings → count_of (last_shown readings) ≤ low_byte shared
  last_few [] all = omega arith
  last_few (reading ∷ before) all = by (nat_lt (count_of (last_shown before)) (least_count reading)) (enabled_few reading all.0) (last_few before all.1)
    where
      by : (test : Bool) → least_count reading ≤ low_byte shared → count_of (last_shown before) ≤ low_byte shared
          → count_of (if test then Some (record { count = least_count reading; line = reading.place.line }) else last_shown before) ≤ low_byte shared
      by true new old = new
      by false new old = old

  not_fewer : (pairs : ℕ) → pairs ≤ low_byte shared → counts_fewer (Some shared) pairs ≡ false
  not_fewer pairs few = within (low_byte shared) pairs few
    where
      within : (low pairs : ℕ) → pairs ≤ low → nat_lt low pairs ≡ false
      within low pairs few = grind (arith, nat_tests, few)

  -- where all bits of VCNT are shown it is that of the files
  all_counted : (value bits : ℕ) → bits % 256 ≡ 255 → low_byte (bit_and value bits) ≡ low_byte value
  all_counted value bits all = and_mod value bits 8 ∙ ap (bit_and (value % 2 ^ 8)) all ∙ and_mask (value % 2 ^ 8) 8 ∙ omega arith

  slot_counts : (slot : Slot) (pairs : ℕ) → IsKnown slot shared → pairs ≤ low_byte shared → counts_fewer (counted slot) pairs ≡ false
  slot_counts slot pairs known few = by (slot.bits % 256 == 255) refl
    where
      by : (test : Bool) → (slot.bits % 256 == 255) ≡ test → counts_fewer (if test then Some slot.value else None) pairs ≡ false
      by true all = ap (λ low. nat_lt low pairs) (ap low_byte known.shows ∙ all_counted shared slot.bits (eqb-true (slot.bits % 256) 255 all)) ∙ not_fewer pairs few
      by false some = refl

  -- ---- FIX allows each fixed-range register that a reading shows as not 0

  -- each file has FIX as the first has it
  each_fix : (k : ℕ) (test : Bool) → k < count → has_fixed (files 0) ≡ test → has_fixed (files k) ≡ test
  each_fix k test less is = ap (λ c. is_bit_set c 8) (alike.capabilities k less) ∙ is

  shows_none : (reading : Reading) → IsPart files count prints reading → has_fixed (files 0) ≡ false → shows_fixed reading ≡ false
  shows_none reading part none =
      rw (part.number, part.value)
      (unranged (files reading.processor) part.key reading.bits (alike.is_file reading.processor part.processor) part.is_key (each_fix reading.processor false part.processor none))

  last_none : (readings : List Reading) → AreParts files count prints readings → has_fixed (files 0) ≡ false → last_fixed_line readings ≡ None
  last_none [] all none = refl
  last_none (reading ∷ before) all none = rw (shows_none reading all.0 none) (last_none before all.1 none)

  -- a bit that is shown is the value's
  bit_of_part : (value bits k : ℕ) → is_bit_set value k ≡ true → is_bit_set bits k ≡ true → is_bit_set (bit_and value bits) k ≡ true
  bit_of_part value bits k one two =
      let first : bit_at value k ≡ 1 = eqb-true (bit_at value k) 1 one in
      let second : bit_at bits k ≡ 1 = eqb-true (bit_at bits k) 1 two in
      same_number (bit_at (bit_and value bits) k) 1 (bit_at_and value bits k ∙ rw (first, second) refl)

  slot_fix : (slot : Slot) → IsKnown slot shared → has_fixed (files 0) ≡ true → lacks_fix (fix_shown slot) ≡ false
  slot_fix slot known has = by (is_bit_set slot.bits 8) refl
    where
      by : (test : Bool) → is_bit_set slot.bits 8 ≡ test → lacks_fix (if test then Some slot.value else None) ≡ false
      by true set = ap (λ v. not (is_bit_set v 8)) known.shows ∙ ap not (bit_of_part shared slot.bits 8 has set)
      by false clear = refl

  reading_fix : (reading : Reading) → IsPart files count prints reading → has_fixed (files 0) ≡ true → shows_no_fix reading ≡ false
  reading_fix reading part has = by (reading.number == 0xfe) (is_bit_set reading.bits 8) refl refl
    where
      by : (n b : Bool) → (reading.number == 0xfe) ≡ n → is_bit_set reading.bits 8 ≡ b → (n && b && not (is_bit_set reading.value 8)) ≡ false
      by true true same set = ap (λ v. not (is_bit_set v 8)) (shared_by reading part (eqb-true reading.number 0xfe same)) ∙ ap not (bit_of_part shared reading.bits 8 has set)
      by true false same clear = refl
      by false b apart bits = refl

  -- ---- no fault

  module _ (supplied : Supplied) (agrees : (k : ℕ) → k < count → Agrees supplied (files k)) where
    -- no word gives other bits
    same_word : (k : ℕ) (key : Key) (bits : ℕ) (given : Option ℕ) → k < count → IsKey key → supplied_value supplied (number_at key) ≡ given → bits_differ given bits (bit_and (value_in (files k) key) bits) ≡ false
    same_word k key bits None less is is_given = refl
    same_word k key bits (Some word) less is is_given =
        let same : word ≡ value_in (files k) key = value_at_key (files k) key word (alike.is_file k less) is ((agrees k less).registers (number_at key) word is_given) in
        rw (same, same_number (bit_and (value_in (files k) key) bits) (bit_and (value_in (files k) key) bits) refl) refl

    -- a word's capability register
    word_is : (word : ℕ) → supplied_value supplied 0xfe ≡ Some word → word ≡ shared
    word_is word given = value_at_key (files 0) None word (alike.is_file 0 alike.some) tt ((agrees 0 alike.some).registers 0xfe word given)

    word_counts : (given : Option ℕ) (pairs : ℕ) → supplied_value supplied 0xfe ≡ given → pairs ≤ low_byte shared → counts_fewer given pairs ≡ false
    word_counts None pairs is_given few = refl
    word_counts (Some word) pairs is_given few = rw (word_is word is_given) (not_fewer pairs few)

    word_fix : (given : Option ℕ) → supplied_value supplied 0xfe ≡ given → has_fixed (files 0) ≡ true → lacks_fix given ≡ false
    word_fix None is_given has = refl
    word_fix (Some word) is_given has = rw (word_is word is_given, has) refl

    no_fixed_rival : (before : List Reading) (reading : Reading) → AreParts files count prints before → IsPart files count prints reading → fixed_rival (supplied_value supplied 0xfe) before reading ≡ None
    no_fixed_rival before reading all part = by (has_fixed (files 0)) refl
      where
        with_fix : (range unfixed word line : Bool) (at : ℕ) (last : Option Rival) → unfixed ≡ false → word ≡ false → line ≡ false
            → (if range then (if word then Some CapabilityWord else if line then Some (CapabilityLine at) else None) else if unfixed then last else None) ≡ None
        with_fix true unfixed word line at last one two three = rw (two, three) refl
        with_fix false unfixed word line at last one two three = rw one refl

        without : (range unfixed : Bool) (found : Option Rival) (last : Option ℕ) → range ≡ false → last ≡ None → (if range then found else if unfixed then ranged_rival last else None) ≡ None
        without range true found last one two = rw (one, two) refl
        without range false found last one two = rw one refl

        by : (test : Bool) → has_fixed (files 0) ≡ test → fixed_rival (supplied_value supplied 0xfe) before reading ≡ None
        by true has =
            with_fix (shows_fixed reading) (shows_no_fix reading) (lacks_fix (supplied_value supplied 0xfe)) (lacks_fix (fix_shown (capabilities_shown before))) (capabilities_shown before).line
            (ranged_rival (last_fixed_line before)) (reading_fix reading part has) (word_fix (supplied_value supplied 0xfe) refl has) (slot_fix (capabilities_shown before) (capabilities_known before all) has)
        by false none =
            without (shows_fixed reading) (shows_no_fix reading) _ (last_fixed_line before) (shows_none reading part none) (last_none before all none)

    no_rival : (before : List Reading) (reading : Reading) → AreParts files count prints before → IsPart files count prints reading → rival supplied before reading ≡ None
    no_rival before reading all part =
        let key = part.key in
        let few = enabled_few reading part in
        let word : bits_differ (supplied_value supplied reading.number) reading.bits reading.value ≡ false =
        rw (part.number, part.value) (same_word reading.processor key reading.bits (supplied_value supplied (number_at key)) part.processor part.is_key refl) in
        let word_too : counts_fewer (supplied_value supplied 0xfe) (least_count reading) ≡ false = word_counts (supplied_value supplied 0xfe) (least_count reading) refl few in
        let line : clashes (slot_shown before reading.processor reading.number) reading ≡ false =
        rw part.number (no_clash (slot_shown before reading.processor (number_at key)) reading (value_in (files reading.processor) key) (known files count prints before reading.processor key all part.is_key) part.value) in
        by_tests (bits_differ (supplied_value supplied reading.number) reading.bits reading.value) (counts_fewer (supplied_value supplied 0xfe) (least_count reading))
        (clashes (slot_shown before reading.processor reading.number) reading) (slot_shown before reading.processor reading.number).line (count_rival (capabilities_shown before) (last_shown before) reading) word word_too line
        (by_counts (counts_fewer (counted (capabilities_shown before)) (least_count reading)) (capabilities_shown before).line (reading.number == 0xfe) (slot_counts (capabilities_shown before) (least_count reading) (capabilities_known before all) few) refl)
      where
        by_tests : (word fewer clash : Bool) (at : ℕ) (others : Option Rival) → word ≡ false → fewer ≡ false → clash ≡ false → others ≡ None → (if word then Some Word else if fewer then Some CapabilityWord else if clash then Some (Line at) else others) ≡ None
        by_tests word fewer clash at others one two three none = rw (one, two, three) none

        capability : (reading.number == 0xfe) ≡ true → capability_rival (capabilities_shown before) (last_shown before) reading ≡ None
        capability same =
            let value = shared_by reading part (eqb-true reading.number 0xfe same) in
            let next = one_more (capabilities_shown before) reading shared (capabilities_known before all) part.small value in
            by_two (clashes (capabilities_shown before) reading) (capabilities_shown before).line (uncounted_rival (counted (slot_with (capabilities_shown before) reading)) (last_shown before))
            (no_clash (capabilities_shown before) reading shared (capabilities_known before all) value)
            (no_uncounted (counted (slot_with (capabilities_shown before) reading)) (last_shown before)
            (slot_counts (slot_with (capabilities_shown before) reading) (count_of (last_shown before)) next (last_few before all)))
          where
            by_two : (clash : Bool) (line : ℕ) (others : Option Rival) → clash ≡ false → others ≡ None → (if clash then Some (Line line) else others) ≡ None
            by_two clash line others one two = rw (one, two) refl

            no_uncounted : (counted_by : Option ℕ) (last : Option LastPair) → counts_fewer counted_by (count_of last) ≡ false → uncounted_rival counted_by last ≡ None
            no_uncounted counted_by None few = refl
            no_uncounted counted_by (Some last) few = rw few refl

        by_counts : (fewer : Bool) (at : ℕ) (n : Bool) → fewer ≡ false → (reading.number == 0xfe) ≡ n → (if fewer then Some (CapabilityLine at) else if n then capability_rival (capabilities_shown before) (last_shown before) reading else None) ≡ None
        by_counts fewer at true none same = rw none (capability same)
        by_counts fewer at false none apart = rw none refl

    few : (value bits : ℕ) → value ≡ bit_and shared bits → nat_lt 32 (low_byte value) ≡ false
    few value bits is =
        let part = and_mod shared bits 8 in
        let less = and_le_l (shared % 2 ^ 8) (bits % 2 ^ 8) in
        let all = (alike.is_file 0 alike.some).few_pairs in
        rw is (small (low_byte (bit_and shared bits)) (omega (arith, part, less, all)))
      where
        small : (pairs : ℕ) → pairs ≤ 32 → nat_lt 32 pairs ≡ false
        small pairs le = grind (arith, nat_tests, le)

    near : (k : ℕ) → k < count → nat_lt 15 k ≡ false
    near k less = let most = alike.few in below k (omega (arith, less, most))
      where
        below : (k : ℕ) → k < 16 → nat_lt 15 k ≡ false
        below k less = grind (arith, nat_tests, less)

    no_reading_fault : (before : List Reading) (reading : Reading) → AreParts files count prints before → IsPart files count prints reading → reading_fault supplied before reading ≡ None
    no_reading_fault before reading all part =
        let far : nat_lt 15 reading.processor ≡ false = near reading.processor part.processor in
        let many : (reading.number == 0xfe && nat_lt 32 (low_byte (bit_or (slot_shown before reading.processor 0xfe).value reading.value))) ≡ false = by (reading.number == 0xfe) refl in
        let none = no_rival before reading all part in
        let none_too = no_fixed_rival before reading all part in
        rw (far, none, none_too, many) refl
      where
        own : IsKnown (slot_shown before reading.processor 0xfe) shared
        own = subst (IsKnown (slot_shown before reading.processor 0xfe)) (alike.capabilities reading.processor part.processor) (known files count prints before reading.processor None all tt)

        by : (n : Bool) → (reading.number == 0xfe) ≡ n → (n && nat_lt 32 (low_byte (bit_or (slot_shown before reading.processor 0xfe).value reading.value))) ≡ false
        by true same =
            let next = one_more (slot_shown before reading.processor 0xfe) reading shared own part.small (shared_by reading part (eqb-true reading.number 0xfe same)) in
            few (bit_or (slot_shown before reading.processor 0xfe).value reading.value) (bit_or (slot_shown before reading.processor 0xfe).bits reading.bits) next.shows
        by false apart = refl

    -- a width is that of the files
    same_width : (given : Option ℕ) (width : ℕ) → ((other : ℕ) → given ≡ Some other → other ≡ (files 0).width) → width ≡ (files 0).width → differs given width ≡ false
    same_width None width each is = refl
    same_width (Some other) width each is = rw (same_number other width (each other refl ∙ sym is)) refl

    fit : nat_lt 31 (files 0).width ≡ true
    fit = between (files 0).width (alike.is_file 0 alike.some).wide
      where
        between : (width : ℕ) → 32 ≤ width → nat_lt 31 width ≡ true
        between width wide = grind (arith, nat_tests, wide)

    fit_too : nat_lt (files 0).width 53 ≡ true
    fit_too = between (files 0).width (alike.is_file 0 alike.some).narrow
      where
        between : (width : ℕ) → width ≤ 52 → nat_lt width 53 ≡ true
        between width narrow = grind (arith, nat_tests, narrow)

    seen_width : (shown : Option ℕ) → IsWidth files count prints shown → (other : ℕ) → shown ≡ Some other → other ≡ (files 0).width
    seen_width None is other same = cc same
    seen_width (Some width) is other same = let e : width ≡ other = cc same in sym e ∙ is

    no_width_fault : (seen : Seen) (width : ℕ) (place : Place) → IsSeen files count prints seen → width ≡ (files 0).width → width_fault supplied seen width place ≡ None
    no_width_fault seen width place is same =
        let low : nat_lt 31 width ≡ true = ap (nat_lt 31) same ∙ fit in
        let high : nat_lt width 53 ≡ true = ap (λ w. nat_lt w 53) same ∙ fit_too in
        let word = same_width supplied.width width (agrees 0 alike.some).width same in
        let line = same_width seen.width width (seen_width seen.width is.width) same in
        rw (low, high, word, line) refl

    no_fact_fault : (seen : Seen) (fact : Fact) → IsSeen files count prints seen → IsSound files count prints fact → fact_fault supplied seen fact ≡ None
    no_fact_fault seen (is_line number format matched) is sound = refl
    no_fact_fault seen (is_register_value reading) is sound = no_reading_fault seen.readings reading is.readings sound
    no_fact_fault seen (is_width width place) is sound = no_width_fault seen width place is sound
    no_fact_fault seen (is_warning warning number) is sound = refl
    no_fact_fault seen (is_fault fault) is sound = absurd sound

    pub no_fault : (facts : List Fact) (seen : Seen) → IsSeen files count prints seen → AllByRecursion (IsSound files count prints) facts → facts_fault supplied seen facts ≡ None
    no_fault [] seen is sound = refl
    no_fault (fact ∷ facts) seen is sound = rw (no_fact_fault seen fact is sound.0) (no_fault facts (seen_with seen fact) (seen_next files count prints seen fact is sound.0) sound.1)

-- ---- one processor

some_processor : (readings : List Reading) → 1 ≤ processors readings
some_processor [] = omega arith
some_processor (reading ∷ before) = omega arith

pub one_processor : (file : RegisterFile) (prints : Prints) (readings : List Reading) → IsRegisterFile file → AreParts (same_file file) 1 prints readings → processors readings ≡ 1
one_processor file prints readings is all = let most = at_most (same_file file) 1 prints (alone file is) readings all in let least = some_processor readings in omega (arith, most, least)
