use Rattle.std.specs.Prelude.{length}
use Rattle.mt_private.proofs.attendance.+run_all.Given as goal

abbrev pub decreases-run_all : goal.decreases-run_all
decreases-run_all g l = length l.attendance.now.waiting.items
