use Rattle.std.proofs.Common.{◌≡◌, ◌∙◌, Bool, sym, subst, rules, Option, None, Some}
use Rattle.std.specs.Prelude.{if◌then◌else◌}
use Rattle.mt_machine.specs.declared.go.Go.TheVariants.{Pending}
use Rattle.mt_machine.specs.Machine.{Order}
use Rattle.mt_core.specs.Arises.{IsCore}
use Rattle.mt_core.proofs.Arising.{decided}
use Rattle.mt_core.proofs.core_type.Core.decide.Goals as goal

pub invariant_of-self-then-is_over_in : goal.invariant_of-self-then-is_over_in
invariant_of-self-then-is_over_in c =
    let o : Order = record { goal = c.order.inside.goal; from_era = c.order.inside.from_era; go = c.order.inside.go } in
    let was : c.self.inside.order ≡ Some o = search rules in
    let pending : o.go ≡ Pending = c.is_pending.ensures.0 c.if-not-is_pending.false in
    subst (λ (b : Bool). IsCore (record { system = c.self.inside.system; order = if b then None else Some (record o { go = c.args.go }) })) (sym c.is_over_in.ensures ∙ c.if-is_over_in.true)
    (decided c.self.inside.system o c.args.go c.requires pending (subst (λ (x : Option Order). IsCore (record { system = c.self.inside.system; order = x })) was c.self.invariant))

pub invariant_of-self-else-is_over_in : goal.invariant_of-self-else-is_over_in
invariant_of-self-else-is_over_in c =
    let o : Order = record { goal = c.order.inside.goal; from_era = c.order.inside.from_era; go = c.order.inside.go } in
    let was : c.self.inside.order ≡ Some o = search rules in
    let pending : o.go ≡ Pending = c.is_pending.ensures.0 c.if-not-is_pending.false in
    subst (λ (b : Bool). IsCore (record { system = c.self.inside.system; order = if b then None else Some (record o { go = c.args.go }) })) (sym c.is_over_in.ensures ∙ c.if-is_over_in.false)
    (decided c.self.inside.system o c.args.go c.requires pending (subst (λ (x : Option Order). IsCore (record { system = c.self.inside.system; order = x })) was c.self.invariant))
