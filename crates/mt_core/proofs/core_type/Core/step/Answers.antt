use Rattle.std.proofs.Common.{Some, sym, subst}
use Rattle.std.specs.Prelude.{◌↔◌, ◌≡◌, true}
use Rattle.mt_machine.specs.Machine.{Order}
use Rattle.mt_machine.specs.Access.{is_running}
use Rattle.mt_core.specs.Headline.{WaitsFor}
use Rattle.mt_core.specs.Stops.{is_outside}
use Rattle.mt_core.specs.declared.stepped.Stepped.{Stepped}
use Rattle.mt_core.specs.declared.stepped.Stepped.TheVariants.{NoUpdate, Waits}
use Rattle.mt_core.proofs.Stopping.{stops_outside}
use Rattle.mt_core.proofs.Waiting.{waits_at_barriers}
use Rattle.mt_core.proofs.core_type.Core.step.Goals as goal

pub returns-clause-waits : goal.returns-clause-waits
returns-clause-waits c p count at =
    let both = waits_at_barriers c.args.self.now c.args.k p count at in
    subst (λ (r : Stepped). (r ≡ Waits count.arrived count.awaited) ↔ ((o : Order) × (c.args.self.now.order ≡ Some o) × WaitsFor o c.args.self.now.system.processors p count)) (sym c.do_due.ensures.answer)
    (both.0, λ h. both.1 h.0 h.1 h.2)

pub returns-clause-stops : goal.returns-clause-stops
returns-clause-stops c p at =
    let both = stops_outside c.args.self.now c.args.k p c.do_due.ensures.core.arises at in
    subst (λ (r : Stepped). (r ≡ NoUpdate) ↔ ((is_running p.phase ≡ true) × (is_outside c.args.self.now p ≡ true))) (sym c.do_due.ensures.answer)
    (both.0, λ h. both.1 h.0 h.1)
