use Rattle.std.specs.Prelude.{length}
use Rattle.mt_private.proofs.attendance.+leave_all.Given as goal

abbrev pub decreases-leave_all : goal.decreases-leave_all
decreases-leave_all g l = length l.attendance.now.waiting.items
