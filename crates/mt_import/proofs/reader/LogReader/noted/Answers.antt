use Rattle.std.proofs.Common.{◌∙◌, ap, sym, arith}
use Rattle.std.specs.Prelude.{is_some}
use Rattle.mt_import.specs.Reader.{firm_in, values_in}
use Rattle.mt_import.proofs.Parts.{none_when, noted_at}
use Rattle.mt_import.proofs.reader.LogReader.noted.Goals as goal

pub returns-in-Some : goal.returns-in-Some
returns-in-Some c =
    sym (noted_at (firm_in c.args.supplied.now c.args.self.now) (values_in c.args.supplied.now c.args.self.now) c.args.self.now.processors c.processors.k c.args.number c.in-Some.value
    (omega (arith, c.processors-test.true, c.count-k-end.ensures.count)) c.processors.invariant (none_when _ (ap is_some (sym c.firm_value.ensures) ∙ c.if-is_none.ensures)) (sym c.value.ensures ∙ c.in-Some.is))
