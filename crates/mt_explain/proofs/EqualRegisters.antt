-- Files of one kind are equal if their writable registers are.
use Rattle.std.proofs.Common.{◌≡◌, ◌==◌, ℕ, [], ◌∷◌, ◌++◌, Option, Some, None, sym, ap, inl, inr, refl}
use Rattle.std.specs.Prelude.{if◌then◌else◌}
use Rattle.std.specs.List.{find}
use Rattle.std.specs.Option.{option_map}
use Rattle.std.proofs.lemmas.Bool.{cases_Bool}
use Rattle.mt_kinds.specs.Bits.{is_bit_set}
use Rattle.mt_regs.specs.declared.registers.Register.{Register}
use Rattle.mt_regs.specs.declared.registers.Register.TheVariants.{Pat, DefaultType}
use Rattle.mt_regs.specs.RegisterFile.{IsRegisterFile, RegisterFile, low_byte}
use Rattle.mt_regs.specs.Registers.{fixed_registers, number_of, pair_registers, register_of, value_at, value_of, writable}
use Rattle.mt_regs.specs.StartFiles.{SameKind}
use Rattle.mt_regs.proofs.ByNumber.{same_file}
use Rattle.mt_regs.proofs.Writes.{IsKnown, each_found, known}
use Rattle.mt_explain.specs.Groups.{HaveEqualRegisters}

module _ (f g : RegisterFile) (is : IsRegisterFile f) (is_too : IsRegisterFile g) (same : SameKind f g) where
  same_registers : (number : ℕ) → register_of g number ≡ register_of f number
  same_registers number =
      ap (λ c. find (λ r. number_of r == number) (pair_registers 0 (low_byte c) ++ (if is_bit_set c 8 then fixed_registers else []) ++ Pat ∷ DefaultType ∷ [])) (sym same.capabilities)

  same_values : HaveEqualRegisters f g → (number : ℕ) → value_at f number ≡ value_at g number
  same_values equal number = elim (cases_Bool (number == 0xfe)) [
    | inl capabilities ↦ rw capabilities (ap Some same.capabilities)
    | inr register ↦ rw (register, same_registers number) (by (register_of f number) refl)
  ]
    where
      by : (o : Option Register) → register_of f number ≡ o → option_map (value_of f) o ≡ option_map (value_of g) o
      by None at = refl
      by (Some r) at = ap Some (equal r (each_found (IsKnown f) (λ s. number_of s == number) (writable f) r (known f is.all_pairs) at).0.0)

  pub are_equal_if : HaveEqualRegisters f g → f ≡ g
  are_equal_if equal = same_file f g is is_too (same_values equal) same.width

pub have_equal_if : (f g : RegisterFile) → f ≡ g → HaveEqualRegisters f g
have_equal_if f g equal = λ r within. ap (λ (h : RegisterFile). value_of h r) equal
