-- Lawful values in place of those at fault, which are guesses (own). Reserved bits become 0. A byte that is no type becomes 0, which is
-- UC. A mask with a gap becomes the mask without one that differs in the fewest bits; of several, that of the smallest range.
--     nearest_field fault      the value of the field that was at fault
--     repaired file            the file with these values
use Rattle.std.specs.Prelude.{ℕ, zero, suc, ◌-◌, ◌*◌, ◌%◌, ◌^◌, nat_lt, ◌&&◌, if◌then◌else◌, Option, None, Some, fold, bit_xor, count_ones}
use Rattle.mt_regs.specs.RegisterFile.{RegisterFile}
use Rattle.mt_regs.specs.Registers.{value_at, written}
use Rattle.mt_explain.specs.declared.field_fault.Defect.TheVariants.{ReservedBits, NoType, Gap}
use Rattle.mt_explain.specs.declared.field_fault.Defect.{Defect}
use Rattle.mt_explain.specs.declared.field_fault.FieldFault.{FieldFault}
use Rattle.mt_explain.specs.FieldFaults.{field_faults}

-- the field of so many bits, of which the highest so many are set
abbrev pub run_field : ℕ → ℕ → ℕ
run_field count ones = 2 ^ count - 2 ^ (count - ones)

-- in how many bits a field differs from that one
abbrev pub distance : ℕ → ℕ → ℕ → ℕ
distance count field ones = count_ones (bit_xor field (run_field count ones))

-- from 1 up to a number, that of the ones with the least distance, and of several the greatest
abbrev pub nearest_ones : ℕ → ℕ → ℕ → ℕ
nearest_ones count field zero = 1
nearest_ones count field (suc n) =
    if nat_lt (distance count field (nearest_ones count field n)) (distance count field (suc n)) then nearest_ones count field n else suc n

abbrev pub nearest_by : Defect → ℕ → ℕ → ℕ
nearest_by ReservedBits count found = 0
nearest_by NoType count found = 0
nearest_by Gap count found = if nat_lt 0 count && nat_lt count 64 then run_field count (nearest_ones count found count) else 0

abbrev pub nearest_field : FieldFault → ℕ
nearest_field fault = nearest_by fault.defect fault.count fault.found

-- a value in which the bits of a field are turned that differ from the nearest ones
abbrev pub turned : FieldFault → ℕ → ℕ
turned fault value = bit_xor value (bit_xor fault.found (nearest_field fault) * 2 ^ (fault.low % 64) % 2 ^ 64)

abbrev pub file_or : RegisterFile → Option RegisterFile → RegisterFile
file_or f None = f
file_or f (Some g) = g

abbrev pub repaired_value : RegisterFile → FieldFault → Option ℕ → RegisterFile
repaired_value f fault None = f
repaired_value f fault (Some value) = file_or f (written f fault.msr (turned fault value))

abbrev pub repaired_at : RegisterFile → FieldFault → RegisterFile
repaired_at f fault = repaired_value f fault (value_at f fault.msr)

abbrev pub repaired : RegisterFile → RegisterFile
repaired f = fold repaired_at f (field_faults f)
