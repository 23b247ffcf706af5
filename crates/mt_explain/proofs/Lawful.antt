-- The faults of fields are those of the definitions of the first fault.
use Rattle.std.proofs.Common.{◌≡◌, ◌∙◌, ℕ, zero, suc, ◌+◌, ◌-◌, ◌*◌, ◌/◌, ◌%◌, ◌^◌, Bool, true, false, List, [], ◌∷◌, ◌++◌, Option, Some, None, refl, sym, ap, true≢false}
use Rattle.std.specs.Prelude.{◌==◌, ◌||◌, ◌&&◌, ◌↔◌, not, if◌then◌else◌}
use Rattle.std.specs.List.{flat_map, list_any}
use Rattle.std.specs.Option.{option_or}
use Rattle.std.proofs.lemmas.Bool.{or_parts}
use Rattle.std.proofs.lemmas.List.Folds.{list_any-append}
use Rattle.mt_kinds.specs.Bits.{bits, byte_at, is_bit_set}
use Rattle.mt_ranges.specs.Match.{is_run, page_field}
use Rattle.mt_regs.specs.declared.fault.Fault.{Fault}
use Rattle.mt_regs.specs.declared.fault.Reason.{Reason}
use Rattle.mt_regs.specs.declared.fault.Reason.TheVariants.{ReservedBit, UnsupportedType, BrokenMask}
use Rattle.mt_regs.specs.declared.registers.Register.{Register}
use Rattle.mt_regs.specs.declared.registers.Register.TheVariants.{PhysBase, PhysMask, FixedRange, Pat, DefaultType}
use Rattle.mt_regs.specs.RegisterFile.{RegisterFile, has_fixed, has_write_combining, low_byte}
use Rattle.mt_regs.specs.Registers.{value_of, writable}
use Rattle.mt_regs.specs.Faults.{any_byte, fault_at, first_of, has_broken_mask, has_reserved_bit, has_unsupported_type, is_pat_byte, is_supported, reason_of, register_fault}
use Rattle.mt_explain.specs.declared.field_fault.Defect.{Defect}
use Rattle.mt_explain.specs.declared.field_fault.Defect.TheVariants.{ReservedBits, NoType, Gap}
use Rattle.mt_explain.specs.declared.field_fault.FieldFault.{FieldFault}
use Rattle.mt_explain.specs.FieldFaults.{entry_faults, fault_if, faults_at, field, field_faults, fixed_faults, is_of, pat_faults, register_faults, same_defect}

or_false : (b : Bool) → (b || false) ≡ b
or_false true = refl
or_false false = refl

-- a fault that a test finds, or that it doesn't
hit : (p : FieldFault → Bool) (b : Bool) (fault : FieldFault) → p fault ≡ true → list_any p (fault_if b fault) ≡ b
hit p true fault is = rw is refl
hit p false fault is = refl

miss : (p : FieldFault → Bool) (b : Bool) (fault : FieldFault) → p fault ≡ false → list_any p (fault_if b fault) ≡ false
miss p true fault is = rw is refl
miss p false fault is = refl

two : (p : FieldFault → Bool) (xs ys : List FieldFault) (a b : Bool) → list_any p xs ≡ a → list_any p ys ≡ b → list_any p (xs ++ ys) ≡ (a || b)
two p xs ys a b first second = list_any-append p xs ys ∙ ap (λ (c : Bool). c || list_any p ys) first ∙ ap (λ (c : Bool). a || c) second

three : (p : FieldFault → Bool) (xs ys zs : List FieldFault) (a b c : Bool) → list_any p xs ≡ a → list_any p ys ≡ b → list_any p zs ≡ c → list_any p (xs ++ ys ++ zs) ≡ (a || b || c)
three p xs ys zs a b c first second third = two p (xs ++ ys) zs (a || b) c (two p xs ys a b first second) third

four : (p : FieldFault → Bool) (xs ys zs ws : List FieldFault) (a b c d : Bool) → list_any p xs ≡ a → list_any p ys ≡ b → list_any p zs ≡ c → list_any p ws ≡ d
    → list_any p (xs ++ ys ++ zs ++ ws) ≡ (a || b || c || d)
four p xs ys zs ws a b c d first second third last = two p (xs ++ ys ++ zs) ws (a || b || c) d (three p xs ys zs a b c first second third) last

-- ---- bytes

fixed_types : (has_combining : Bool) (place v n : ℕ) → list_any (is_of NoType) (fixed_faults has_combining place v n) ≡ any_byte (λ byte. not (is_supported has_combining byte)) v n
unfolding fixed_faults
fixed_types has_combining place v zero = refl
fixed_types has_combining place v (suc i) =
    two (is_of NoType) (fixed_faults has_combining place v i) (fault_if (not (is_supported has_combining (byte_at v i))) (field (FixedRange place) v (8 * i) 8 NoType)) _ _
    (fixed_types has_combining place v i) (hit (is_of NoType) (not (is_supported has_combining (byte_at v i))) (field (FixedRange place) v (8 * i) 8 NoType) refl)

fixed_none : (why : Defect) → same_defect why NoType ≡ false → (has_combining : Bool) (place v n : ℕ) → list_any (is_of why) (fixed_faults has_combining place v n) ≡ false
unfolding fixed_faults
fixed_none why other has_combining place v zero = refl
fixed_none why other has_combining place v (suc i) =
    two (is_of why) (fixed_faults has_combining place v i) (fault_if (not (is_supported has_combining (byte_at v i))) (field (FixedRange place) v (8 * i) 8 NoType)) false false
    (fixed_none why other has_combining place v i) (miss (is_of why) (not (is_supported has_combining (byte_at v i))) (field (FixedRange place) v (8 * i) 8 NoType) other)

entry_of : (why : Defect) (a b : Bool) (v i : ℕ)
    → list_any (is_of why) (fault_if (not (byte_at v i / 8 == 0)) (field Pat v (8 * i + 3) 5 ReservedBits)) ≡ a
    → list_any (is_of why) (fault_if (not (is_pat_byte (byte_at v i))) (field Pat v (8 * i) 8 NoType)) ≡ b
    → list_any (is_of why) (entry_faults v i) ≡ (a || b)
entry_of why a b v i first second =
    two (is_of why) (fault_if (not (byte_at v i / 8 == 0)) (field Pat v (8 * i + 3) 5 ReservedBits)) (fault_if (not (is_pat_byte (byte_at v i))) (field Pat v (8 * i) 8 NoType)) a b first second

pat_reserved : (v n : ℕ) → list_any (is_of ReservedBits) (pat_faults v n) ≡ any_byte (λ byte. not (byte / 8 == 0)) v n
unfolding pat_faults
pat_reserved v zero = refl
pat_reserved v (suc i) =
    two (is_of ReservedBits) (pat_faults v i) (entry_faults v i) _ _ (pat_reserved v i)
    (entry_of ReservedBits (not (byte_at v i / 8 == 0)) false v i (hit (is_of ReservedBits) (not (byte_at v i / 8 == 0)) (field Pat v (8 * i + 3) 5 ReservedBits) refl)
    (miss (is_of ReservedBits) (not (is_pat_byte (byte_at v i))) (field Pat v (8 * i) 8 NoType) refl) ∙ or_false (not (byte_at v i / 8 == 0)))

pat_types : (v n : ℕ) → list_any (is_of NoType) (pat_faults v n) ≡ any_byte (λ byte. not (is_pat_byte byte)) v n
unfolding pat_faults
pat_types v zero = refl
pat_types v (suc i) =
    two (is_of NoType) (pat_faults v i) (entry_faults v i) _ _ (pat_types v i)
    (entry_of NoType false (not (is_pat_byte (byte_at v i))) v i (miss (is_of NoType) (not (byte_at v i / 8 == 0)) (field Pat v (8 * i + 3) 5 ReservedBits) refl)
    (hit (is_of NoType) (not (is_pat_byte (byte_at v i))) (field Pat v (8 * i) 8 NoType) refl))

pat_masks : (v n : ℕ) → list_any (is_of Gap) (pat_faults v n) ≡ false
unfolding pat_faults
pat_masks v zero = refl
pat_masks v (suc i) =
    two (is_of Gap) (pat_faults v i) (entry_faults v i) false false (pat_masks v i)
    (entry_of Gap false false v i (miss (is_of Gap) (not (byte_at v i / 8 == 0)) (field Pat v (8 * i + 3) 5 ReservedBits) refl)
    (miss (is_of Gap) (not (is_pat_byte (byte_at v i))) (field Pat v (8 * i) 8 NoType) refl))

-- ---- registers

pub reserved_is : (f : RegisterFile) (r : Register) (v : ℕ) → list_any (is_of ReservedBits) (faults_at f r v) ≡ has_reserved_bit f r v
reserved_is f (PhysBase n) v =
    three (is_of ReservedBits)
    (fault_if (not (bits v 8 4 == 0)) (field (PhysBase n) v 8 4 ReservedBits))
    (fault_if (not (v / 2 ^ f.width == 0)) (field (PhysBase n) v f.width (64 - f.width) ReservedBits))
    (fault_if (not (is_supported (has_write_combining f) (low_byte v))) (field (PhysBase n) v 0 8 NoType))
    (not (bits v 8 4 == 0)) (not (v / 2 ^ f.width == 0)) false
    (hit (is_of ReservedBits) (not (bits v 8 4 == 0)) (field (PhysBase n) v 8 4 ReservedBits) refl)
    (hit (is_of ReservedBits) (not (v / 2 ^ f.width == 0)) (field (PhysBase n) v f.width (64 - f.width) ReservedBits) refl)
    (miss (is_of ReservedBits) (not (is_supported (has_write_combining f) (low_byte v))) (field (PhysBase n) v 0 8 NoType) refl)
    ∙ or_false (not (bits v 8 4 == 0) || not (v / 2 ^ f.width == 0))
reserved_is f (PhysMask n) v =
    three (is_of ReservedBits)
    (fault_if (not (v % 2 ^ 11 == 0)) (field (PhysMask n) v 0 11 ReservedBits))
    (fault_if (not (v / 2 ^ f.width == 0)) (field (PhysMask n) v f.width (64 - f.width) ReservedBits))
    (fault_if (is_bit_set v 11 && not (is_run (f.width - 12) (page_field f.width v))) (field (PhysMask n) v 12 (f.width - 12) Gap))
    (not (v % 2 ^ 11 == 0)) (not (v / 2 ^ f.width == 0)) false
    (hit (is_of ReservedBits) (not (v % 2 ^ 11 == 0)) (field (PhysMask n) v 0 11 ReservedBits) refl)
    (hit (is_of ReservedBits) (not (v / 2 ^ f.width == 0)) (field (PhysMask n) v f.width (64 - f.width) ReservedBits) refl)
    (miss (is_of ReservedBits) (is_bit_set v 11 && not (is_run (f.width - 12) (page_field f.width v))) (field (PhysMask n) v 12 (f.width - 12) Gap) refl)
    ∙ or_false (not (v % 2 ^ 11 == 0) || not (v / 2 ^ f.width == 0))
reserved_is f (FixedRange place) v = fixed_none ReservedBits refl (has_write_combining f) place v 8
reserved_is f Pat v = pat_reserved v 8
reserved_is f DefaultType v =
    four (is_of ReservedBits)
    (fault_if (not (bits v 8 2 == 0)) (field DefaultType v 8 2 ReservedBits))
    (fault_if (not (v / 2 ^ 12 == 0)) (field DefaultType v 12 52 ReservedBits))
    (fault_if (is_bit_set v 10 && not (has_fixed f)) (field DefaultType v 10 1 ReservedBits))
    (fault_if (not (is_supported (has_write_combining f) (low_byte v))) (field DefaultType v 0 8 NoType))
    (not (bits v 8 2 == 0)) (not (v / 2 ^ 12 == 0)) (is_bit_set v 10 && not (has_fixed f)) false
    (hit (is_of ReservedBits) (not (bits v 8 2 == 0)) (field DefaultType v 8 2 ReservedBits) refl)
    (hit (is_of ReservedBits) (not (v / 2 ^ 12 == 0)) (field DefaultType v 12 52 ReservedBits) refl)
    (hit (is_of ReservedBits) (is_bit_set v 10 && not (has_fixed f)) (field DefaultType v 10 1 ReservedBits) refl)
    (miss (is_of ReservedBits) (not (is_supported (has_write_combining f) (low_byte v))) (field DefaultType v 0 8 NoType) refl)
    ∙ or_false (not (bits v 8 2 == 0) || not (v / 2 ^ 12 == 0) || (is_bit_set v 10 && not (has_fixed f)))

pub types_is : (f : RegisterFile) (r : Register) (v : ℕ) → list_any (is_of NoType) (faults_at f r v) ≡ has_unsupported_type f r v
types_is f (PhysBase n) v =
    three (is_of NoType)
    (fault_if (not (bits v 8 4 == 0)) (field (PhysBase n) v 8 4 ReservedBits))
    (fault_if (not (v / 2 ^ f.width == 0)) (field (PhysBase n) v f.width (64 - f.width) ReservedBits))
    (fault_if (not (is_supported (has_write_combining f) (low_byte v))) (field (PhysBase n) v 0 8 NoType))
    false false (not (is_supported (has_write_combining f) (low_byte v)))
    (miss (is_of NoType) (not (bits v 8 4 == 0)) (field (PhysBase n) v 8 4 ReservedBits) refl)
    (miss (is_of NoType) (not (v / 2 ^ f.width == 0)) (field (PhysBase n) v f.width (64 - f.width) ReservedBits) refl)
    (hit (is_of NoType) (not (is_supported (has_write_combining f) (low_byte v))) (field (PhysBase n) v 0 8 NoType) refl)
types_is f (PhysMask n) v =
    three (is_of NoType)
    (fault_if (not (v % 2 ^ 11 == 0)) (field (PhysMask n) v 0 11 ReservedBits))
    (fault_if (not (v / 2 ^ f.width == 0)) (field (PhysMask n) v f.width (64 - f.width) ReservedBits))
    (fault_if (is_bit_set v 11 && not (is_run (f.width - 12) (page_field f.width v))) (field (PhysMask n) v 12 (f.width - 12) Gap))
    false false false
    (miss (is_of NoType) (not (v % 2 ^ 11 == 0)) (field (PhysMask n) v 0 11 ReservedBits) refl)
    (miss (is_of NoType) (not (v / 2 ^ f.width == 0)) (field (PhysMask n) v f.width (64 - f.width) ReservedBits) refl)
    (miss (is_of NoType) (is_bit_set v 11 && not (is_run (f.width - 12) (page_field f.width v))) (field (PhysMask n) v 12 (f.width - 12) Gap) refl)
types_is f (FixedRange place) v = fixed_types (has_write_combining f) place v 8
types_is f Pat v = pat_types v 8
types_is f DefaultType v =
    four (is_of NoType)
    (fault_if (not (bits v 8 2 == 0)) (field DefaultType v 8 2 ReservedBits))
    (fault_if (not (v / 2 ^ 12 == 0)) (field DefaultType v 12 52 ReservedBits))
    (fault_if (is_bit_set v 10 && not (has_fixed f)) (field DefaultType v 10 1 ReservedBits))
    (fault_if (not (is_supported (has_write_combining f) (low_byte v))) (field DefaultType v 0 8 NoType))
    false false false (not (is_supported (has_write_combining f) (low_byte v)))
    (miss (is_of NoType) (not (bits v 8 2 == 0)) (field DefaultType v 8 2 ReservedBits) refl)
    (miss (is_of NoType) (not (v / 2 ^ 12 == 0)) (field DefaultType v 12 52 ReservedBits) refl)
    (miss (is_of NoType) (is_bit_set v 10 && not (has_fixed f)) (field DefaultType v 10 1 ReservedBits) refl)
    (hit (is_of NoType) (not (is_supported (has_write_combining f) (low_byte v))) (field DefaultType v 0 8 NoType) refl)

pub masks_is : (f : RegisterFile) (r : Register) (v : ℕ) → list_any (is_of Gap) (faults_at f r v) ≡ has_broken_mask f r v
masks_is f (PhysBase n) v =
    three (is_of Gap)
    (fault_if (not (bits v 8 4 == 0)) (field (PhysBase n) v 8 4 ReservedBits))
    (fault_if (not (v / 2 ^ f.width == 0)) (field (PhysBase n) v f.width (64 - f.width) ReservedBits))
    (fault_if (not (is_supported (has_write_combining f) (low_byte v))) (field (PhysBase n) v 0 8 NoType))
    false false false
    (miss (is_of Gap) (not (bits v 8 4 == 0)) (field (PhysBase n) v 8 4 ReservedBits) refl)
    (miss (is_of Gap) (not (v / 2 ^ f.width == 0)) (field (PhysBase n) v f.width (64 - f.width) ReservedBits) refl)
    (miss (is_of Gap) (not (is_supported (has_write_combining f) (low_byte v))) (field (PhysBase n) v 0 8 NoType) refl)
masks_is f (PhysMask n) v =
    three (is_of Gap)
    (fault_if (not (v % 2 ^ 11 == 0)) (field (PhysMask n) v 0 11 ReservedBits))
    (fault_if (not (v / 2 ^ f.width == 0)) (field (PhysMask n) v f.width (64 - f.width) ReservedBits))
    (fault_if (is_bit_set v 11 && not (is_run (f.width - 12) (page_field f.width v))) (field (PhysMask n) v 12 (f.width - 12) Gap))
    false false (is_bit_set v 11 && not (is_run (f.width - 12) (page_field f.width v)))
    (miss (is_of Gap) (not (v % 2 ^ 11 == 0)) (field (PhysMask n) v 0 11 ReservedBits) refl)
    (miss (is_of Gap) (not (v / 2 ^ f.width == 0)) (field (PhysMask n) v f.width (64 - f.width) ReservedBits) refl)
    (hit (is_of Gap) (is_bit_set v 11 && not (is_run (f.width - 12) (page_field f.width v))) (field (PhysMask n) v 12 (f.width - 12) Gap) refl)
masks_is f (FixedRange place) v = fixed_none Gap refl (has_write_combining f) place v 8
masks_is f Pat v = pat_masks v 8
masks_is f DefaultType v =
    four (is_of Gap)
    (fault_if (not (bits v 8 2 == 0)) (field DefaultType v 8 2 ReservedBits))
    (fault_if (not (v / 2 ^ 12 == 0)) (field DefaultType v 12 52 ReservedBits))
    (fault_if (is_bit_set v 10 && not (has_fixed f)) (field DefaultType v 10 1 ReservedBits))
    (fault_if (not (is_supported (has_write_combining f) (low_byte v))) (field DefaultType v 0 8 NoType))
    false false false false
    (miss (is_of Gap) (not (bits v 8 2 == 0)) (field DefaultType v 8 2 ReservedBits) refl)
    (miss (is_of Gap) (not (v / 2 ^ 12 == 0)) (field DefaultType v 12 52 ReservedBits) refl)
    (miss (is_of Gap) (is_bit_set v 10 && not (has_fixed f)) (field DefaultType v 10 1 ReservedBits) refl)
    (miss (is_of Gap) (not (is_supported (has_write_combining f) (low_byte v))) (field DefaultType v 0 8 NoType) refl)

-- ---- no fault

-- a list without a fault of each of the three kinds is empty
all_none : (faults : List FieldFault) → list_any (is_of ReservedBits) faults ≡ false → list_any (is_of NoType) faults ≡ false → list_any (is_of Gap) faults ≡ false → faults ≡ []
all_none [] reserved types masks = refl
all_none (x ∷ xs) reserved types masks = absurd (by x.defect (or_parts _ _ reserved).0 (or_parts _ _ types).0 (or_parts _ _ masks).0)
  where
    by : (why : Defect) → same_defect ReservedBits why ≡ false → same_defect NoType why ≡ false → same_defect Gap why ≡ false → ⊥
    by ReservedBits a b c = true≢false a
    by NoType a b c = true≢false b
    by Gap a b c = true≢false c

some_reason : (a b c : Bool) → (if a then Some ReservedBit else if b then Some UnsupportedType else if c then Some BrokenMask else None) ≡ None → (a ≡ false) × (b ≡ false) × (c ≡ false)
some_reason true b c is = absurd (cc is)
some_reason false true c is = absurd (cc is)
some_reason false false true is = absurd (cc is)
some_reason false false false is = (refl, refl, refl)

no_reason : (a b c : Bool) → a ≡ false → b ≡ false → c ≡ false → (if a then Some ReservedBit else if b then Some UnsupportedType else if c then Some BrokenMask else None) ≡ None
no_reason a b c first second third = rw (first, second, third) refl

lawful_register : (f : RegisterFile) (r : Register) → (register_faults f r ≡ []) ↔ (reason_of f r ≡ None)
lawful_register f r = (
  λ empty. no_reason (has_reserved_bit f r (value_of f r)) (has_unsupported_type f r (value_of f r)) (has_broken_mask f r (value_of f r))
      (sym (reserved_is f r (value_of f r)) ∙ ap (list_any (is_of ReservedBits)) empty)
      (sym (types_is f r (value_of f r)) ∙ ap (list_any (is_of NoType)) empty)
      (sym (masks_is f r (value_of f r)) ∙ ap (list_any (is_of Gap)) empty),
  λ is.
      let each = some_reason (has_reserved_bit f r (value_of f r)) (has_unsupported_type f r (value_of f r)) (has_broken_mask f r (value_of f r)) is in
      all_none (register_faults f r) (reserved_is f r (value_of f r) ∙ each.0) (types_is f r (value_of f r) ∙ each.1) (masks_is f r (value_of f r) ∙ each.2),
)

both_empty : (xs ys : List FieldFault) → xs ++ ys ≡ [] → (xs ≡ []) × (ys ≡ [])
both_empty [] ys is = (refl, is)
both_empty (x ∷ xs) ys is = absurd (cc is)

lawful_registers : (f : RegisterFile) (rs : List Register) → (flat_map (register_faults f) rs ≡ []) ↔ (first_of f rs ≡ None)
lawful_registers f [] = (λ is. refl, λ is. refl)
lawful_registers f (r ∷ rs) = (
  λ is.
      let parts = both_empty (register_faults f r) (flat_map (register_faults f) rs) is in
      ap (λ (why : Option Reason). option_or (fault_at r why) (first_of f rs)) ((lawful_register f r).0 parts.0) ∙ (lawful_registers f rs).0 parts.1,
  λ is.
      let parts = by (reason_of f r) (first_of f rs) is in
      ap (λ (faults : List FieldFault). faults ++ flat_map (register_faults f) rs) ((lawful_register f r).1 parts.0) ∙ (lawful_registers f rs).1 parts.1,
)
  where
    by : (why : Option Reason) (rest : Option Fault) → option_or (fault_at r why) rest ≡ None → (why ≡ None) × (rest ≡ None)
    by None rest is = (refl, is)
    by (Some reason) rest is = absurd (cc is)

pub lawful_file : (f : RegisterFile) → (field_faults f ≡ []) ↔ (register_fault f ≡ None)
lawful_file f = lawful_registers f (writable f)
