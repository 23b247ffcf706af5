use Rattle.std.proofs.Common.{◌+◌, ◌*◌}
use Rattle.mt_mend.specs.Courses.{IsOnWay, course}
use Rattle.mt_mend.proofs.steps.changes.Given as goal

abbrev pub invariant-loop-n : goal.invariant-loop-n
invariant-loop-n l = IsOnWay l.old l.new (course l.file l.list.items) (0x200 + 2 * l.n)

abbrev pub invariant-loop-number : goal.invariant-loop-number
invariant-loop-number l = IsOnWay l.old l.new (course l.file l.list.items) l.number
