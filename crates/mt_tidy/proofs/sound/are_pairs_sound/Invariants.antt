use Rattle.std.proofs.Common.{ℕ, ◌<◌}
use Rattle.mt_regs.specs.RegisterFile.{pair_at}
use Rattle.mt_tidy.specs.Sound.{IsPairValue}
use Rattle.mt_tidy.proofs.sound.are_pairs_sound.Given as goal

abbrev pub invariant-loop-pair : goal.invariant-loop-pair
invariant-loop-pair l = (n : ℕ) → n < l.pair-index → IsPairValue l.f (pair_at l.f.pairs n)
