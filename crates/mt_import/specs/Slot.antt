-- What lines have shown of one register: which bits, with which values, and by the lines of which table (own).
--     slot_with slot reading      the slot after one more reading
--     clashes slot reading      the reading shows another value in bits that were shown
--     whole_value slot      the register's value, where one table or one line has shown all of it
use Rattle.std.specs.Prelude.{ℕ, ◌==◌, ◌&&◌, not, bit_and, bit_or, Bool, if◌then◌else◌, Option, Some, None}
use Rattle.mt_kinds.specs.Bits.{is_bit_set}
use Rattle.mt_import.specs.declared.shape.Reading.{Reading}
use Rattle.mt_import.specs.declared.shape.Slot.{Slot}

abbrev pub all_bits : ℕ
all_bits = 0xffffffffffffffff

abbrev pub blank_slot : Slot
blank_slot = record { bits = 0; fresh = 0; table = 0; value = 0; line = 0 }

abbrev pub is_whole : Slot → Bool
is_whole slot = slot.fresh == all_bits

-- A whole register stays whole. Else bits that an earlier table showed don't count.
abbrev pub fresh_after : Slot → Reading → ℕ
fresh_after slot reading = if is_whole slot then slot.fresh else if slot.table == reading.table then bit_or slot.fresh reading.bits else reading.bits

abbrev pub slot_with : Slot → Reading → Slot
slot_with slot reading = record {
  bits = bit_or slot.bits reading.bits;
  fresh = fresh_after slot reading;
  table = reading.table;
  value = bit_or slot.value reading.value;
  line = reading.place.line;
}

abbrev pub clashes : Slot → Reading → Bool
clashes slot reading = not (bit_and slot.value reading.bits == bit_and reading.value slot.bits)

abbrev pub whole_value : Slot → Option ℕ
whole_value slot = if is_whole slot then Some slot.value else None

-- Of a PhysMask V alone is shown, bit 11, and clear, as by a kernel's `disabled`: Intel SDM, volume 3A, section Variable Range MTRRs
abbrev pub is_disabled : Slot → Bool
is_disabled slot = slot.bits == 0x800 && not (is_bit_set slot.value 11)
