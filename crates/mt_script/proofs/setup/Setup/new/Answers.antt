use Rattle.mt_script.proofs.Keeping.{start_is}
use Rattle.mt_script.proofs.setup.Setup.new.Goals as goal

pub invariant_of-result : goal.invariant_of-result
invariant_of-result c = rw (c.new.ensures, c.new-2.ensures) start_is
