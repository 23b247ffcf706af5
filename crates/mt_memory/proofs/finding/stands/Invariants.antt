use Rattle.std.proofs.Common.{◌≡◌, drop, true}
use Rattle.mt_rows.specs.Scan.{parts_at}
use Rattle.mt_memory.specs.Finding.{stands_at}
use Rattle.mt_memory.proofs.finding.stands.Given as goal

abbrev pub invariant-loop-i : goal.invariant-loop-i
invariant-loop-i l = stands_at (parts_at l.parts) l.i l.starts (drop l.i l.line) ≡ stands_at (parts_at l.parts) 0 true l.line
