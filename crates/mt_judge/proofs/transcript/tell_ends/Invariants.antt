use Rattle.std.proofs.Common.{[]}
use Rattle.mt_judge.specs.Told.{AreToldBehind}
use Rattle.mt_judge.proofs.transcript.tell_ends.Given as goal

abbrev pub invariant-loop-k : goal.invariant-loop-k
invariant-loop-k l = AreToldBehind l.case l.state [] l.fn.told.items l.told.items
