use Rattle.std.proofs.Common.{◌∙◌}
use Rattle.mt_proc.proofs.Digits.{stays_short}
use Rattle.mt_proc.proofs.listing.significant.Goals as goal

pub returns-after-zeros-clause-text : goal.returns-after-zeros-clause-text
returns-after-zeros-clause-text c = stays_short c.zeros.rest.now c.zeros-test.false ∙ c.zeros.invariant.same
