use Rattle.std.proofs.Common.{length, ap, arith, refl}
use Rattle.mt_flat.proofs.worked.worked_flat_of.Goals as goal

pub returns-clause-other_value : goal.returns-clause-other_value
returns-clause-other_value c = λ h. omega (arith, h.values 0x100008 refl)

pub returns-clause-nothing_pending : goal.returns-clause-nothing_pending
returns-clause-nothing_pending c = λ h. omega (arith, ap length (h.pending 0))
