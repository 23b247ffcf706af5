use Rattle.std.proofs.Common.{subst, sym}
use Rattle.mt_machine.specs.System.{IsSound, System}
use Rattle.mt_laws.proofs.Invariant.SoundSteps.{drain_keeps_sound}
use Rattle.mt_bus.specs.Tables.{AreTablesOf}
use Rattle.mt_bus.proofs.Tables.{tables_drained}
use Rattle.mt_bus.proofs.system.System.drain.Goals as goal

pub invariant_of-self : goal.invariant_of-self
invariant_of-self c =
    subst (λ (s : System). IsSound s × AreTablesOf s.processors c.self.inside.tables.items) (sym c.drain.ensures)
    (drain_keeps_sound c.self.inside.bus c.args.k c.self.invariant.0, tables_drained c.args.k c.self.inside.bus c.self.inside.tables.items c.self.invariant.1)
