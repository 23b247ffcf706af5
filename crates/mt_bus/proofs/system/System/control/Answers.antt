use Rattle.std.proofs.Common.{◌∙◌, ap, slice_get, subst, sym}
use Rattle.mt_machine.specs.System.{IsSound, System}
use Rattle.mt_machine.specs.Control.{RuledAfter}
use Rattle.mt_laws.proofs.Invariant.SoundSteps.{control_keeps_sound}
use Rattle.mt_bus.specs.Tables.{AreTablesOf}
use Rattle.mt_bus.proofs.Tables.{tables_controlled}
use Rattle.mt_bus.proofs.system.System.control.Goals as goal

pub control-requires-clause-fits : goal.control-requires-clause-fits
control-requires-clause-fits c p at = c.requires.fits p (ap (λ (s : System). slice_get s.processors c.args.k) (sym c.self.view_is) ∙ at)

pub invariant_of-self : goal.invariant_of-self
invariant_of-self c =
    subst (λ (s : System). IsSound s × AreTablesOf s.processors c.self.inside.tables.items) (sym (ap (λ (r : RuledAfter). r.after) c.control.ensures)) (
      control_keeps_sound c.self.inside.bus c.args.k c.args.c c.self.invariant.0
          (λ p at. c.requires.fits p (ap (λ (s : System). slice_get s.processors c.args.k) (sym c.self.view_is) ∙ at)),
      tables_controlled c.self.inside.bus c.args.k c.args.c c.self.inside.tables.items c.self.invariant.1,
    )
