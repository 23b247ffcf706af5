use Rattle.std.proofs.Common.{take}
use Rattle.std.specs.Prelude.{map}
use Rattle.mt_machine.specs.System.{start_processor}
use Rattle.mt_bus.specs.Tables.{AreTablesOf}
use Rattle.mt_bus.proofs.system.start_tables.Given as goal

abbrev pub invariant-loop-file : goal.invariant-loop-file
invariant-loop-file l = AreTablesOf (map start_processor (take l.file-index l.files)) l.tables.items
