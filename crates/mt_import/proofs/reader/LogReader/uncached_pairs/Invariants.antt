use Rattle.std.proofs.Common.{◌≡◌}
use Rattle.mt_import.specs.Reader.{slots_of}
use Rattle.mt_import.specs.Values.{uncached_pairs}
use Rattle.mt_import.proofs.reader.LogReader.uncached_pairs.Given as goal

abbrev pub invariant-pairs : goal.invariant-pairs
invariant-pairs l = l.uncached ≡ uncached_pairs (slots_of l.self l.k) l.n
