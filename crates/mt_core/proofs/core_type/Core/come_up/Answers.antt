use Rattle.std.proofs.Common.{◌≡◌, ◌∙◌, ◌<◌, ◌≤◌, ap, length, rules, sym, subst, Option, None}
use Rattle.mt_machine.specs.System.{System}
use Rattle.mt_machine.specs.ComingAndGoing.{reset}
use Rattle.mt_machine.specs.Machine.{Machine, Order}
use Rattle.mt_core.specs.Arises.{IsCore}
use Rattle.mt_core.proofs.Arising.{came}
use Rattle.mt_core.proofs.Settling.{is_quiet_without_order}
use Rattle.mt_core.proofs.core_type.Core.come_up.Goals as goal

pub come_up-requires-clause-one_era : goal.come_up-requires-clause-one_era
come_up-requires-clause-one_era c =
    let none : c.self.inside.order ≡ None = ap (λ (m : Machine). m.order) c.self.view_is ∙ c.requires.idle in
    (is_quiet_without_order (record { system = c.self.inside.system; order = c.self.inside.order }) c.self.invariant.arises none).one_era

pub come_up-requires-clause-one_kind : goal.come_up-requires-clause-one_kind
come_up-requires-clause-one_kind c =
    let none : c.self.inside.order ≡ None = ap (λ (m : Machine). m.order) c.self.view_is ∙ c.requires.idle in
    (is_quiet_without_order (record { system = c.self.inside.system; order = c.self.inside.order }) c.self.invariant.arises none).one_kind

pub invariant_of-self-2 : goal.invariant_of-self-2
invariant_of-self-2 c =
    let none : c.self.inside.order ≡ None = ap (λ (m : Machine). m.order) c.self.view_is ∙ c.requires.idle in
    let more : c.come_up.new.self ≡ reset c.self.inside.system = search rules in
    subst (λ (v : System × Option Order). IsCore (record { system = v.0; order = v.1 })) (λ i. (sym more i, sym none i))
    (came c.self.inside.system (subst (λ (m : Machine). 0 < length m.system.processors) (sym c.self.view_is) c.requires.some)
    (subst (λ (m : Machine). length m.system.processors ≤ 15) (sym c.self.view_is) c.requires.few)
    (subst (λ (o : Option Order). IsCore (record { system = c.self.inside.system; order = o })) none c.self.invariant))
