use Rattle.std.proofs.Common.{◌≡◌, drop}
use Rattle.mt_import.specs.Tables.{rows_at, said_in}
use Rattle.mt_import.proofs.tables.said_in.Given as goal

abbrev pub invariant-rows : goal.invariant-rows
invariant-rows l = said_in (rows_at (drop l.row-index l.rows)) l.line.number l.line.bytes.now ≡ said_in (rows_at l.rows) l.line.number l.line.bytes.now
