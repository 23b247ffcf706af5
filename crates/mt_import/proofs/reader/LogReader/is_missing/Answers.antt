use Rattle.std.proofs.Common.{◌∙◌, ap, sym, arith}
use Rattle.std.specs.Prelude.{is_some}
use Rattle.mt_import.proofs.Parts.{missing_at, none_when}
use Rattle.mt_import.specs.Reader.{values_in}
use Rattle.mt_import.proofs.reader.LogReader.is_missing.Goals as goal

pub returns-then-is_none : goal.returns-then-is_none
returns-then-is_none c =
    sym (missing_at (values_in c.args.supplied.now c.args.self.now) c.args.self.now.processors c.processors.k c.args.number (omega (arith, c.processors-test.true, c.count-k-end.ensures.count))
    (none_when _ (ap is_some (sym c.value.ensures) ∙ c.if-is_none.ensures)))
