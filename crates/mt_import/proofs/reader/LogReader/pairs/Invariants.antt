use Rattle.std.proofs.Common.{◌≡◌}
use Rattle.mt_import.specs.Outcome.{first_pairs}
use Rattle.mt_import.specs.Reader.{values_in}
use Rattle.mt_import.proofs.reader.LogReader.pairs.Given as goal

abbrev pub invariant-pairs : goal.invariant-pairs
invariant-pairs l = l.pairs.items ≡ first_pairs (values_in l.supplied l.self l.k) l.n
