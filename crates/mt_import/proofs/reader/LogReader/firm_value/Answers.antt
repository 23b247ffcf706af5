use Rattle.std.proofs.Common.{◌∙◌, ap}
use Rattle.mt_import.specs.Outcome.{firm_of}
use Rattle.mt_import.specs.Reader.{slots_of}
use Rattle.mt_import.specs.Slot.{whole_value}
use Rattle.mt_import.specs.Supplied.{supplied_value}
use Rattle.mt_import.specs.Values.{or_supplied}
use Rattle.mt_import.proofs.reader.LogReader.firm_value.Goals as goal

pub returns : goal.returns
unfolding firm_of
returns c =
    let slots = slots_of c.args.self.now c.args.k in
    c.or_supplied.ensures
    ∙ ap (λ a. or_supplied a c.or_supplied-supplied.result) (c.whole.ensures ∙ ap whole_value c.slot.ensures)
    ∙ ap (or_supplied (whole_value (slots c.args.number))) (
    c.or_supplied-supplied.ensures ∙ ap (λ a. or_supplied a c.disabled_value.result) c.value.ensures
    ∙ ap (or_supplied (supplied_value c.args.supplied.now c.args.number)) c.disabled_value.ensures
    )
