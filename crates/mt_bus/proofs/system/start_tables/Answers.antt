use Rattle.std.proofs.Common.{sym, subst, rules, List, ◌++◌, ◌∷◌, [], ◌≡◌, ◌+◌, take}
use Rattle.std.specs.Prelude.{map}
use Rattle.mt_types.specs.Tables.{IsTableOf, TypeTable}
use Rattle.mt_machine.specs.System.{start_processor}
use Rattle.mt_bus.specs.Tables.{AreTablesOf}
use Rattle.mt_bus.proofs.Tables.{tables_more}
use Rattle.mt_bus.proofs.system.start_tables.Goals as goal

pub loop-file-preserved : goal.loop-file-preserved
loop-file-preserved c =
    let pushed : c.push.new.self.items ≡ c.loop-file.tables.items ++ c.of.result ∷ [] = search rules in
    subst (λ (ts : List TypeTable). AreTablesOf (map start_processor (take (c.loop-file.file-index + 1) c.args.files.now)) ts) (sym pushed)
    (tables_more c.args.files.now c.loop-file.file-index c.file-item.result c.loop-file.tables.items c.of.result c.loop-file-test.true
    (subst (λ f. IsTableOf f c.of.result) c.file-item.is c.of.ensures.table) c.loop-file.invariant)
