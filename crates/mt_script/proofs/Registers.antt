-- Numbers that are no registers.
use Rattle.std.proofs.Common.{◌≡◌, ℕ, ◌<◌, Option, Some, None, false, ◌==◌, refl, arith}
use Rattle.std.specs.Prelude.{is_some}
use Rattle.std.specs.Option.{option_map}
use Rattle.std.proofs.lemmas.Bool.Decides.{nat_tests}
use Rattle.mt_regs.specs.RegisterFile.{RegisterFile, IsRegisterFile}
use Rattle.mt_regs.specs.Registers.{value_at, value_of, register_of}
use Rattle.mt_regs.specs.declared.registers.Register.{Register}
use Rattle.mt_regs.proofs.ByNumber.{register_of-range}

pub none_large : (file : RegisterFile) (number : ℕ) → IsRegisterFile file → 0xffffffff < number → is_some (value_at file number) ≡ false
none_large file number is large = rw apart (by (register_of file number) refl)
  where
    apart : (number == 0xfe) ≡ false
    apart = grind (arith, nat_tests, large)

    by : (found : Option Register) → register_of file number ≡ found → is_some (option_map (value_of file) (register_of file number)) ≡ false
    by None none = rw none refl
    by (Some r) some =
        let range = register_of-range file number r is some in
        let impossible : ⊥ = omega (arith, range.1, large) in
        absurd impossible
