use Rattle.std.proofs.Common.{◌∙◌, ap}
use Rattle.mt_import.specs.Outcome.{firm_of, values_of}
use Rattle.mt_import.specs.Reader.{slots_of}
use Rattle.mt_import.specs.Values.{assumed_of, assumed_value, firm_value, or_supplied}
use Rattle.mt_import.proofs.reader.LogReader.value.Goals as goal

pub returns : goal.returns
unfolding values_of firm_of
returns c =
    let slots = slots_of c.args.self.now c.args.k in
    c.or_supplied.ensures
    ∙ ap (λ a. or_supplied a c.assumed_value.result) c.firm_value.ensures
    ∙ ap (or_supplied (firm_value c.args.supplied.now slots c.args.number)) (
    c.assumed_value.ensures
    ∙ ap (λ a. assumed_value a slots c.known.result c.args.number) (c.assumed_of-assumed.ensures ∙ ap (assumed_of c.args.k) c.assumed.ensures)
    ∙ ap (λ known. assumed_value (assumed_of c.args.k c.args.supplied.now.assumed) slots known c.args.number) c.known.ensures.known
    )
