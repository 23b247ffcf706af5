use Rattle.std.proofs.Common.{◌∙◌, ap, sym, arith}
use Rattle.std.specs.Prelude.{is_some}
use Rattle.mt_import.proofs.Parts.{some_when, somewhere_at}
use Rattle.mt_import.specs.Reader.{values_in}
use Rattle.mt_import.proofs.reader.LogReader.is_nowhere.Goals as goal

pub returns-then-is_some : goal.returns-then-is_some
returns-then-is_some c =
    sym (somewhere_at (values_in c.args.supplied.now c.args.self.now) c.args.self.now.processors c.processors.k c.args.number (omega (arith, c.processors-test.true, c.count-k-end.ensures.count))
    (some_when _ (ap is_some (sym c.value.ensures) ∙ sym c.is_some.ensures ∙ c.if-is_some.true)))
