use Rattle.std.proofs.Common.{◌≡◌, [], length}
use Rattle.mt_replay.specs.Running.{HasErasAt}
use Rattle.mt_replay.proofs.Sums.Lines.{Summed}
use Rattle.mt_replay.proofs.summing.sum_lines.Given as goal

abbrev pub invariant-lines : goal.invariant-lines
invariant-lines g l = record {
  waiting : l.writer ≡ [];
  eras : HasErasAt l.lines.number l.run;
  summed : Summed l.source l.lines l.run l.totals;
}

abbrev pub decreases-lines : goal.decreases-lines
decreases-lines g l = length l.lines.bytes
