use Rattle.std.proofs.Common.{◌≡◌, ◌∙◌, ap, sym, subst, Option, None}
use Rattle.mt_machine.specs.System.{System}
use Rattle.mt_machine.specs.Machine.{Machine, Order}
use Rattle.mt_core.specs.Arises.{IsCore}
use Rattle.mt_core.proofs.Arising.{snoops}
use Rattle.mt_core.proofs.core_type.Core.self_snoop.Goals as goal

pub invariant_of-self : goal.invariant_of-self
invariant_of-self c =
    let none : c.self.inside.order ≡ None = ap (λ (m : Machine). m.order) c.self.view_is ∙ c.requires.idle in
    subst (λ (v : System × Option Order). IsCore (record { system = v.0; order = v.1 })) (λ i. (sym c.self_snoop.ensures i, sym none i))
    (snoops c.self.inside.system c.args.k (subst (λ (o : Option Order). IsCore (record { system = c.self.inside.system; order = o })) none c.self.invariant))
