use Rattle.std.proofs.Common.{◌≡◌, false}
use Rattle.std.specs.Prelude.{not}
use Rattle.mt_regs.specs.Faults.{any_byte, is_supported}
use Rattle.mt_tidy.proofs.sound.has_types.Given as goal

abbrev pub invariant-loop-i : goal.invariant-loop-i
invariant-loop-i l = any_byte (λ byte. not (is_supported l.has_combining byte)) l.value l.i ≡ false
