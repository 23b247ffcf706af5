use Rattle.std.proofs.Common.{arith}
use Rattle.mt_tidy.proofs.NoFault.{pat_sound}
use Rattle.mt_tidy.proofs.sound.is_pat_sound.Goals as goal

pub returns : goal.returns
returns c = λ _. pat_sound c.args.f.now (λ i below. c.loop-i.invariant i (omega arith))
