use Rattle.std.proofs.Common.{◌≡◌, ◌∙◌, ◌<◌, ap, length, sym, subst, Option, None}
use Rattle.mt_machine.specs.System.{System}
use Rattle.mt_machine.specs.Machine.{Machine, Order}
use Rattle.mt_core.specs.Arises.{IsCore}
use Rattle.mt_core.proofs.Arising.{went_away}
use Rattle.mt_core.proofs.Settling.{is_quiet_without_order}
use Rattle.mt_core.proofs.core_type.Core.go_down.Goals as goal

pub go_down-requires-clause-running : goal.go_down-requires-clause-running
go_down-requires-clause-running c =
    let none : c.self.inside.order ≡ None = ap (λ (m : Machine). m.order) c.self.view_is ∙ c.requires.idle in
    (is_quiet_without_order (record { system = c.self.inside.system; order = c.self.inside.order }) c.self.invariant.arises none).running

pub invariant_of-self : goal.invariant_of-self
invariant_of-self c =
    let none : c.self.inside.order ≡ None = ap (λ (m : Machine). m.order) c.self.view_is ∙ c.requires.idle in
    subst (λ (v : System × Option Order). IsCore (record { system = v.0; order = v.1 })) (λ i. (sym c.go_down.ensures.gone i, sym none i))
    (went_away c.self.inside.system (subst (λ (m : Machine). 1 < length m.system.processors) (sym c.self.view_is) c.requires.more)
    (subst (λ (o : Option Order). IsCore (record { system = c.self.inside.system; order = o })) none c.self.invariant))
