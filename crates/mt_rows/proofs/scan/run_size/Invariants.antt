use Rattle.std.proofs.Common.{◌≡◌, ◌+◌, drop}
use Rattle.mt_rows.specs.Scan.{run_size}
use Rattle.mt_rows.proofs.scan.run_size.Given as goal

abbrev pub invariant-loop-i : goal.invariant-loop-i
invariant-loop-i l = run_size l.kind (drop l.i l.rest) + l.i ≡ run_size l.kind l.rest
