use Rattle.std.proofs.Common.{◌≡◌, ◌≤◌, drop, length}
use Rattle.mt_rows.specs.Scan.{items, parts_at, scan, read_by}
use Rattle.mt_rows.proofs.scan.read_by.Given as goal

abbrev pub invariant-parts : goal.invariant-parts
invariant-parts l = record {
  short : length l.rest ≤ length l.line;
  leads : scan (length l.line) (items (parts_at (drop l.part-index l.parts))) l.rest l.fields ≡ read_by (parts_at l.parts) l.line;
}
