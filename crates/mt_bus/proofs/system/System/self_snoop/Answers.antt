use Rattle.std.proofs.Common.{subst, sym}
use Rattle.mt_machine.specs.System.{IsSound, System}
use Rattle.mt_laws.proofs.Invariant.Snooping.{snooping_stays_sound}
use Rattle.mt_bus.specs.Tables.{AreTablesOf}
use Rattle.mt_bus.proofs.Tables.{tables_snooping}
use Rattle.mt_bus.proofs.system.System.self_snoop.Goals as goal

pub invariant_of-self : goal.invariant_of-self
invariant_of-self c =
    subst (λ (s : System). IsSound s × AreTablesOf s.processors c.self.inside.tables.items) (sym c.set_self_snoop.ensures)
    (snooping_stays_sound c.self.inside.bus c.args.k c.self.invariant.0, tables_snooping c.args.k c.self.inside.bus c.self.inside.tables.items c.self.invariant.1)
