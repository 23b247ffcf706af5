use Rattle.std.proofs.Common.{ap}
use Rattle.mt_import.specs.declared.shape.Tables.{Tables}
use Rattle.mt_import.specs.declared.shape.Way.{Way}
use Rattle.mt_import.proofs.tries.Tries.new.Goals as goal

pub returns : goal.returns
returns c = (
  ap (λ (t : Tables). let w : Way = record { format = c.args.format; tables = t } in w) c.none.ensures,
  λ pick supplied. record { current = λ whole same. c.new.ensures supplied; outside = λ whole is later. c.new-2.ensures supplied },
)
