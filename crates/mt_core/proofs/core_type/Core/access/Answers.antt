use Rattle.std.proofs.Common.{sym, subst}
use Rattle.mt_machine.specs.System.{System}
use Rattle.mt_core.specs.Arises.{IsCore}
use Rattle.mt_core.proofs.Arising.{accessed}
use Rattle.mt_core.proofs.core_type.Core.access.Goals as goal

pub invariant_of-self : goal.invariant_of-self
invariant_of-self c =
    subst (λ (s : System). IsCore (record { system = s; order = c.self.inside.order })) (sym c.access.ensures.after)
    (accessed c.self.inside.system c.self.inside.order c.args.k c.args.op c.requires.fits c.self.invariant)
