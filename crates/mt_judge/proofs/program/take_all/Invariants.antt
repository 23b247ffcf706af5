use Rattle.std.proofs.Common.{◌≡◌}
use Rattle.mt_judge.proofs.program.take_all.Given as goal

abbrev pub invariant-pieces : goal.invariant-pieces
invariant-pieces g l = g.S.Source.faults l.source ≡ g.S.Source.faults l.initial.source
