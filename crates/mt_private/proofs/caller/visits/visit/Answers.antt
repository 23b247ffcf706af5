use Rattle.std.proofs.Common.{ap, sym, subst}
use Rattle.mt_machine.specs.declared.phase.Phase.TheVariants.{Running}
use Rattle.mt_machine.specs.Machine.{Machine}
use Rattle.mt_rendezvous.specs.declared.view.Added.TheVariants.{Never}
use Rattle.mt_private.specs.InYard.{LodgesIn}
use Rattle.mt_private.specs.YardCalls.{AreIn}
use Rattle.mt_private.proofs.caller.visits.visit.Goals as goal

pub visit_with-visited-requires-clause-ready : goal.visit_with-visited-requires-clause-ready
visit_with-visited-requires-clause-ready g c κs within = record {
  lodges = subst (λ (m : Machine). LodgesIn c.args.yard.now c.args.guest.pass m.system Never) (sym c.core_of-core.ensures) c.requires.lodges;
  runs = subst (λ (m : Machine). AreIn Running m.system) (sym c.core_of-core.ensures) c.requires.runs;
  idle = ap (λ (m : Machine). m.order) c.core_of-core.ensures;
}
