-- The fields of a file's registers that are at fault (own). Which bits are reserved, which bytes are types and which valid masks have
-- a gap is told by the definitions of the first fault.
--     field_faults file      all of them: registers in ascending order, each with every fault that it has
use Rattle.std.specs.Prelude.{ℕ, zero, suc, ◌+◌, ◌-◌, ◌*◌, ◌/◌, ◌%◌, ◌^◌, ◌==◌, Bool, true, false, not, ◌&&◌, List, [], ◌∷◌, ◌++◌, if◌then◌else◌}
use Rattle.std.specs.List.{flat_map}
use Rattle.mt_kinds.specs.Bits.{bits, byte_at, is_bit_set}
use Rattle.mt_ranges.specs.Match.{is_run, page_field}
use Rattle.mt_regs.specs.declared.registers.Register.{Register}
use Rattle.mt_regs.specs.declared.registers.Register.TheVariants.{PhysBase, PhysMask, FixedRange, Pat, DefaultType}
use Rattle.mt_regs.specs.RegisterFile.{RegisterFile, has_fixed, has_write_combining, low_byte}
use Rattle.mt_regs.specs.Registers.{number_of, value_of, writable}
use Rattle.mt_regs.specs.Faults.{is_pat_byte, is_supported}
use Rattle.mt_explain.specs.declared.field_fault.Defect.{Defect}
use Rattle.mt_explain.specs.declared.field_fault.Defect.TheVariants.{ReservedBits, NoType, Gap}
use Rattle.mt_explain.specs.declared.field_fault.FieldFault.{FieldFault}

-- the count bits from bit low on of a register with a value
abbrev pub field : Register → ℕ → ℕ → ℕ → Defect → FieldFault
field r v low count why = record { msr = number_of r; value = v; low = low; count = count; found = bits v low count; defect = why }

abbrev pub fault_if : Bool → FieldFault → List FieldFault
fault_if b fault = if b then fault ∷ [] else []

abbrev pub base_faults : RegisterFile → ℕ → ℕ → List FieldFault
base_faults f n v =
    fault_if (not (bits v 8 4 == 0)) (field (PhysBase n) v 8 4 ReservedBits)
    ++ fault_if (not (v / 2 ^ f.width == 0)) (field (PhysBase n) v f.width (64 - f.width) ReservedBits)
    ++ fault_if (not (is_supported (has_write_combining f) (low_byte v))) (field (PhysBase n) v 0 8 NoType)

abbrev pub mask_faults : RegisterFile → ℕ → ℕ → List FieldFault
mask_faults f n v =
    fault_if (not (v % 2 ^ 11 == 0)) (field (PhysMask n) v 0 11 ReservedBits)
    ++ fault_if (not (v / 2 ^ f.width == 0)) (field (PhysMask n) v f.width (64 - f.width) ReservedBits)
    ++ fault_if (is_bit_set v 11 && not (is_run (f.width - 12) (page_field f.width v))) (field (PhysMask n) v 12 (f.width - 12) Gap)

-- the lowest count bytes of a fixed-range register
unfoldable pub fixed_faults : Bool → ℕ → ℕ → ℕ → List FieldFault
fixed_faults has_combining place v zero = []
fixed_faults has_combining place v (suc i) =
    fixed_faults has_combining place v i ++ fault_if (not (is_supported has_combining (byte_at v i))) (field (FixedRange place) v (8 * i) 8 NoType)

-- an entry of the PAT
abbrev pub entry_faults : ℕ → ℕ → List FieldFault
entry_faults v i =
    fault_if (not (byte_at v i / 8 == 0)) (field Pat v (8 * i + 3) 5 ReservedBits)
    ++ fault_if (not (is_pat_byte (byte_at v i))) (field Pat v (8 * i) 8 NoType)

-- the lowest count entries of the PAT
unfoldable pub pat_faults : ℕ → ℕ → List FieldFault
pat_faults v zero = []
pat_faults v (suc i) = pat_faults v i ++ entry_faults v i

abbrev pub default_faults : RegisterFile → ℕ → List FieldFault
default_faults f v =
    fault_if (not (bits v 8 2 == 0)) (field DefaultType v 8 2 ReservedBits)
    ++ fault_if (not (v / 2 ^ 12 == 0)) (field DefaultType v 12 52 ReservedBits)
    ++ fault_if (is_bit_set v 10 && not (has_fixed f)) (field DefaultType v 10 1 ReservedBits)
    ++ fault_if (not (is_supported (has_write_combining f) (low_byte v))) (field DefaultType v 0 8 NoType)

abbrev pub faults_at : RegisterFile → Register → ℕ → List FieldFault
faults_at f (PhysBase n) v = base_faults f n v
faults_at f (PhysMask n) v = mask_faults f n v
faults_at f (FixedRange place) v = fixed_faults (has_write_combining f) place v 8
faults_at f Pat v = pat_faults v 8
faults_at f DefaultType v = default_faults f v

abbrev pub register_faults : RegisterFile → Register → List FieldFault
register_faults f r = faults_at f r (value_of f r)

abbrev pub field_faults : RegisterFile → List FieldFault
field_faults f = flat_map (register_faults f) (writable f)

-- ---- what is wrong

abbrev pub same_defect : Defect → Defect → Bool
same_defect ReservedBits ReservedBits = true
same_defect ReservedBits NoType = false
same_defect ReservedBits Gap = false
same_defect NoType ReservedBits = false
same_defect NoType NoType = true
same_defect NoType Gap = false
same_defect Gap ReservedBits = false
same_defect Gap NoType = false
same_defect Gap Gap = true

abbrev pub is_of : Defect → FieldFault → Bool
is_of why fault = same_defect why fault.defect
