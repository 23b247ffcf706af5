use Rattle.std.proofs.Common.{◌≡◌, ap, sym, subst, ◌∙◌, rules, Bool, Option, None, Some}
use Rattle.std.specs.Prelude.{if◌then◌else◌}
use Rattle.std.specs.Option.{option_map_or}
use Rattle.mt_machine.specs.System.{System}
use Rattle.mt_machine.specs.declared.event.Event.{Event}
use Rattle.mt_machine.specs.Machine.{Machine, Order, due_at, remaining_order, step}
use Rattle.mt_core.specs.Arises.{IsCore}
use Rattle.mt_core.specs.Steps.{under_way}
use Rattle.mt_core.proofs.Settling.{settled_by}
use Rattle.mt_core.proofs.Stepping.{advanced}
use Rattle.mt_core.proofs.core_type.Core.do_due.Goals as goal

pub invariant_of-self-then-is_over_in : goal.invariant_of-self-then-is_over_in
invariant_of-self-then-is_over_in c =
    let was : c.self.inside.order ≡ Some c.in-Some.order = search rules in
    let due : due_at (under_way c.in-Some.order c.self.inside.system) c.args.k ≡ Some c.in-Some-do_due_event.event = sym c.do_due_event.ensures.event ∙ c.in-Some-do_due_event.is in
    let stepped : c.do_due_event.new.system ≡ step c.in-Some.order.goal c.in-Some-do_due_event.event c.args.k c.self.inside.system =
    c.do_due_event.ensures.after ∙ ap (λ (r : Option Event). option_map_or (λ e. step c.in-Some.order.goal e c.args.k c.self.inside.system) r c.self.inside.system) c.in-Some-do_due_event.is in
    let left : remaining_order c.in-Some.order c.do_due_event.new.system.processors ≡ None = ap (λ (b : Bool). if b then None else Some c.in-Some.order) (sym c.is_over_in.ensures ∙ c.if-is_over_in.true) in
    subst (λ (o : Option Order). IsCore (record { system = c.do_due_event.new.system; order = o })) left
    (subst (λ (s : System). IsCore (record { system = s; order = remaining_order c.in-Some.order s.processors })) (sym stepped)
    (advanced c.in-Some.order c.self.inside.system
    (subst (λ (o : Option Order). IsCore (record { system = c.self.inside.system; order = o })) was c.self.invariant)
    c.args.k c.in-Some-do_due_event.event due))

pub invariant_of-self-else-is_over_in : goal.invariant_of-self-else-is_over_in
invariant_of-self-else-is_over_in c =
    let was : c.self.inside.order ≡ Some c.in-Some.order = search rules in
    let due : due_at (under_way c.in-Some.order c.self.inside.system) c.args.k ≡ Some c.in-Some-do_due_event.event = sym c.do_due_event.ensures.event ∙ c.in-Some-do_due_event.is in
    let stepped : c.do_due_event.new.system ≡ step c.in-Some.order.goal c.in-Some-do_due_event.event c.args.k c.self.inside.system =
    c.do_due_event.ensures.after ∙ ap (λ (r : Option Event). option_map_or (λ e. step c.in-Some.order.goal e c.args.k c.self.inside.system) r c.self.inside.system) c.in-Some-do_due_event.is in
    let left : remaining_order c.in-Some.order c.do_due_event.new.system.processors ≡ c.self.inside.order = ap (λ (b : Bool). if b then None else Some c.in-Some.order) (sym c.is_over_in.ensures ∙ c.if-is_over_in.false) ∙ sym was in
    subst (λ (o : Option Order). IsCore (record { system = c.do_due_event.new.system; order = o })) left
    (subst (λ (s : System). IsCore (record { system = s; order = remaining_order c.in-Some.order s.processors })) (sym stepped)
    (advanced c.in-Some.order c.self.inside.system
    (subst (λ (o : Option Order). IsCore (record { system = c.self.inside.system; order = o })) was c.self.invariant)
    c.args.k c.in-Some-do_due_event.event due))

pub returns-then-is_over_in-clause-settled : goal.returns-then-is_over_in-clause-settled
returns-then-is_over_in-clause-settled c =
    let was : c.self.inside.order ≡ Some c.in-Some.order = search rules in
    let core : IsCore (under_way c.in-Some.order c.self.inside.system) = subst (λ (o : Option Order). IsCore (record { system = c.self.inside.system; order = o })) was c.self.invariant in
    settled_by c.args.self.now c.self.inside.system c.do_due_event.new.system c.in-Some.order c.args.k c.in-Some-do_due_event.event
    core.arises
    (sym (ap (λ (m : Machine). m.order) c.self.view_is) ∙ was)
    (sym c.do_due_event.ensures.event ∙ c.in-Some-do_due_event.is)
    (c.do_due_event.ensures.after ∙ ap (λ (r : Option Event). option_map_or (λ e. step c.in-Some.order.goal e c.args.k c.self.inside.system) r c.self.inside.system) c.in-Some-do_due_event.is)

pub returns-else-is_over_in-clause-settled : goal.returns-else-is_over_in-clause-settled
returns-else-is_over_in-clause-settled c =
    let was : c.self.inside.order ≡ Some c.in-Some.order = search rules in
    let core : IsCore (under_way c.in-Some.order c.self.inside.system) = subst (λ (o : Option Order). IsCore (record { system = c.self.inside.system; order = o })) was c.self.invariant in
    settled_by c.args.self.now c.self.inside.system c.do_due_event.new.system c.in-Some.order c.args.k c.in-Some-do_due_event.event
    core.arises
    (sym (ap (λ (m : Machine). m.order) c.self.view_is) ∙ was)
    (sym c.do_due_event.ensures.event ∙ c.in-Some-do_due_event.is)
    (c.do_due_event.ensures.after ∙ ap (λ (r : Option Event). option_map_or (λ e. step c.in-Some.order.goal e c.args.k c.self.inside.system) r c.self.inside.system) c.in-Some-do_due_event.is)
