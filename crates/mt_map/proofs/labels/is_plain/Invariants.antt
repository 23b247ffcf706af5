use Rattle.std.proofs.Common.{◌≡◌, length}
use Rattle.mt_map.specs.Asked.{is_plain}
use Rattle.mt_map.proofs.labels.is_plain.Given as goal

abbrev pub invariant-bytes : goal.invariant-bytes
invariant-bytes l = is_plain l.rest ≡ is_plain l.text

abbrev pub decreases-bytes : goal.decreases-bytes
decreases-bytes l = length l.rest
