use Rattle.std.proofs.Common.{◌≡◌}
use Rattle.mt_output.proofs.Writing.{HasPassed}
use Rattle.mt_proc.specs.Listing.{listing}
use Rattle.mt_proc.proofs.Written.{lines_left}
use Rattle.mt_proc.proofs.running.write_listing.Given as goal

abbrev pub invariant-pairs : goal.invariant-pairs
invariant-pairs g l = record {
  lines : HasPassed (listing l.file) (lines_left l.file l.n) l.initial.writer l.writer (g.K.Sink.taken l.initial.sink) (g.K.Sink.taken l.sink);
  faults : g.K.Sink.faults l.sink ≡ g.K.Sink.faults l.initial.sink;
}
