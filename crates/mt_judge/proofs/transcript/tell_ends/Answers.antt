use Rattle.std.proofs.Common.{[]}
use Rattle.mt_judge.proofs.Courses.{all_told}
use Rattle.mt_judge.proofs.transcript.tell_ends.Goals as goal

pub loop-k-preserved : goal.loop-k-preserved
loop-k-preserved c =
    all_told c.args.case.now c.args.state.now [] [] c.args.told.now.items c.loop-k.told.items c.tell_end.new.told.items c.loop-k.invariant c.in_ok-tell_end.ensures
