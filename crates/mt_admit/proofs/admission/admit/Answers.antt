use Rattle.std.proofs.Common.{◌≡◌, ◌∙◌, sym, Err}
use Rattle.std.specs.Prelude.{Ok}
use Rattle.mt_admit.specs.declared.fault.UpFault.TheVariants.{UnderWay}
use Rattle.mt_admit.proofs.Calling.{admitted_by}
use Rattle.mt_admit.proofs.admission.admit.Goals as goal

pub returns-in-Ok-clause-admitted : goal.returns-in-Ok-clause-admitted
returns-in-Ok-clause-admitted c =
    admitted_by c.args.core.now c.up.new.core c.round.new.self c.a_core_arises.ensures.arises c.requires.some
    (λ some. let e : Ok c.in-Ok.k ≡ Err UnderWay = sym c.in-Ok.is ∙ c.up.ensures.under_way.1 some in cc e)
    c.in-Ok.ensures.up c.round.ensures.updated
