use Rattle.std.proofs.Common.{ap}
use Rattle.mt_dump.specs.Canon.{canon}
use Rattle.mt_dump.proofs.Shows.{canon_apart}
use Rattle.mt_dump.proofs.laws.canonical_texts_are_equal_where_dumps_are.Goals as goal

pub returns : goal.returns
returns c = λ dump other is is_other fits fits_other. (canon_apart dump other is is_other fits fits_other, ap canon)
