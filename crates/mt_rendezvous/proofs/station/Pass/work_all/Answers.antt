use Rattle.std.proofs.Common.{◌≡◌, ◌<◌, true, ap, sym, ◌∙◌, subst}
use Rattle.mt_machine.specs.declared.go.Go.TheVariants.{Given}
use Rattle.mt_machine.specs.System.{Processor}
use Rattle.mt_cpu.specs.Steps.{is_local}
use Rattle.mt_laws.proofs.Steps.Counts.{left_of}
use Rattle.mt_rendezvous.specs.Station.{start_of}
use Rattle.mt_rendezvous.proofs.Facts.{nearer}
use Rattle.mt_rendezvous.proofs.station.Pass.work_all.Goals as goal

pub loop-self-smaller : goal.loop-self-smaller
loop-self-smaller c =
    let here : is_local c.loop-self.cpu.phase ≡ true = ap is_local (sym c.phase.ensures) ∙ sym c.is_local.ensures ∙ c.loop-self-test.true in
    subst (λ (q : Processor). left_of q < left_of c.loop-self.cpu) (sym c.work.ensures.becomes)
    (nearer (start_of c.args.station.now.table.shared.key) c.requires.passed.begins Given c.loop-self.self.number c.loop-self.cpu c.loop-self.invariant.passed.stands here)
