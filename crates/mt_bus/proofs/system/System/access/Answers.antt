use Rattle.std.proofs.Common.{ap, rules, subst, sym}
use Rattle.mt_machine.specs.System.{IsSound, System}
use Rattle.mt_machine.specs.Access.{Answered}
use Rattle.mt_laws.proofs.Invariant.SoundSteps.{access_keeps_sound}
use Rattle.mt_bus.specs.Tables.{AreTablesOf}
use Rattle.mt_bus.proofs.Tables.{tables_accessed, translated_by}
use Rattle.mt_bus.proofs.system.System.access.Goals as goal

pub access-requires-clause-table : goal.access-requires-clause-table
access-requires-clause-table c =
    translated_by c.self.inside.bus c.self.inside.tables.items c.as_slice.result.now c.index-as_slice-k.result
    c.self.invariant.0 c.self.invariant.1 c.args.k (search rules) c.as_slice.ensures.value c.index-as_slice-k.is

pub invariant_of-self : goal.invariant_of-self
invariant_of-self c =
    subst (λ (s : System). IsSound s × AreTablesOf s.processors c.self.inside.tables.items) (sym (ap (λ (r : Answered). r.after) c.access.ensures))
    (access_keeps_sound c.self.inside.bus c.args.k c.args.op c.self.invariant.0, tables_accessed c.self.inside.bus c.args.k c.args.op c.self.inside.tables.items c.self.invariant.1)
