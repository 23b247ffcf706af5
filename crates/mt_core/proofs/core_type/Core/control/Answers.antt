use Rattle.std.proofs.Common.{ap, ◌∙◌, sym, subst, slice_get}
use Rattle.mt_machine.specs.System.{System}
use Rattle.mt_machine.specs.Machine.{Machine}
use Rattle.mt_core.specs.Arises.{IsCore}
use Rattle.mt_core.proofs.Arising.{controlled}
use Rattle.mt_core.proofs.core_type.Core.control.Goals as goal

pub invariant_of-self : goal.invariant_of-self
invariant_of-self c =
    subst (λ (s : System). IsCore (record { system = s; order = c.self.inside.order })) (sym c.control.ensures.after)
    (controlled c.self.inside.system c.self.inside.order c.args.k c.args.c
    (λ p is. c.requires.fits p (ap (λ (m : Machine). slice_get m.system.processors c.args.k) (sym c.self.view_is) ∙ is))
    c.self.invariant)
