use Rattle.std.proofs.Common.{sym, subst}
use Rattle.mt_proc.specs.Serving.{Serves}
use Rattle.mt_proc.proofs.Served.{serves_idling}
use Rattle.mt_proc.proofs.processors.Processors.new.Goals as goal

pub invariant_of-result : goal.invariant_of-result
invariant_of-result c = subst Serves (sym c.in_ok-start.ensures) (serves_idling c.args.files.now c.requires.some c.requires.few c.requires.start)
