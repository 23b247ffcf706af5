use Rattle.mt_kinds.specs.declared.mem_type.MemType.TheVariants.{UC}
use Rattle.mt_regs.specs.declared.page_type.PageType.TheVariants.{Kind}
use Rattle.std.specs.Prelude.{None}
use Rattle.mt_map.proofs.rows.append_rows.Goals as goal

pub append_row-requires-clause-placed : goal.append_row-requires-clause-placed
append_row-requires-clause-placed c = c.requires.placed c.rows.row-index (record { first = 0; count = 0; top = 0; kind = Kind UC; other = None }) c.rows-test.true
