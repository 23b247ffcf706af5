use Rattle.std.proofs.Common.{◌≡◌, take}
use Rattle.mt_map.specs.Asked.{escaped}
use Rattle.mt_map.proofs.labels.escaped.Given as goal

abbrev pub invariant-bytes : goal.invariant-bytes
invariant-bytes l = l.text.items ≡ escaped (take l.byte-index l.title)
