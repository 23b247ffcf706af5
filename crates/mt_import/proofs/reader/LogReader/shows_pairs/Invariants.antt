use Rattle.std.proofs.Common.{◌≡◌}
use Rattle.mt_import.specs.Reader.{slots_of}
use Rattle.mt_import.specs.Values.{shows_pairs}
use Rattle.mt_import.proofs.reader.LogReader.shows_pairs.Given as goal

abbrev pub invariant-pairs : goal.invariant-pairs
invariant-pairs l = l.shows ≡ shows_pairs (slots_of l.self l.k) l.n
