use Rattle.std.proofs.Common.{◌≡◌, subst, true, false, Err, None, Some}
use Rattle.std.specs.Prelude.{IsSome}
use Rattle.mt_regs.proofs.First.{one_first_fault_lem}
use Rattle.mt_core.specs.declared.fault.CallFault.{CallFault}
use Rattle.mt_core.specs.declared.fault.CallFault.TheVariants.{Refused, UnderWay}
use Rattle.mt_rendezvous.proofs.crew.Refusal.update_alone.Goals as goal

pub unreachable-requires : goal.unreachable-requires
unreachable-requires c = one c.in_default.field-0 c.in_default.is
  where
    one : (fault : CallFault) → c.call.result ≡ Err fault → ⊥
    one UnderWay is =
        let some : IsSome c.args.core.now.order = c.call.ensures.under_way.0 is in
        let bad : false ≡ true = subst IsSome c.requires.callable.0 some in
        cc
    one (Refused fault) is =
        let none : Some fault ≡ None = one_first_fault_lem c.args.goal.now (Some fault) None (c.call.ensures.refused fault is).1 c.requires.callable.2 in
        cc

pub returns : goal.returns
returns c =
    c.round.ensures.updated c.args.core.now c.args.goal.now c.requires.quiet c.requires.callable c.in-Ok.ensures.called.2
