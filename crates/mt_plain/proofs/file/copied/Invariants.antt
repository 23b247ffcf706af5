use Rattle.std.proofs.Common.{◌≡◌, map, take}
use Rattle.mt_plain.specs.Plain.{as_pair}
use Rattle.mt_plain.proofs.file.copied.Given as goal

abbrev pub invariant-loop-pair : goal.invariant-loop-pair
invariant-loop-pair l = l.copy.items ≡ map as_pair (take l.pair-index l.pairs)
