use Rattle.std.proofs.Common.{◌≡◌}
use Rattle.mt_import.specs.Reader.{slots_of}
use Rattle.mt_import.specs.Values.{masks_in}
use Rattle.mt_import.proofs.reader.LogReader.masks.Given as goal

abbrev pub invariant-pairs : goal.invariant-pairs
invariant-pairs l = l.masks ≡ masks_in l.supplied (slots_of l.self 0) l.n
