use Rattle.std.proofs.Common.{◌≡◌, ℕ, ◌<◌, true}
use Rattle.mt_kinds.specs.Bits.{byte_at}
use Rattle.mt_regs.specs.Faults.{is_pat_byte}
use Rattle.mt_tidy.proofs.sound.is_pat_sound.Given as goal

abbrev pub invariant-loop-i : goal.invariant-loop-i
invariant-loop-i l = (k : ℕ) → k < l.i → is_pat_byte (byte_at l.f.pat k) ≡ true
