use Rattle.std.proofs.Common.{◌∙◌, ap, Some}
use Rattle.mt_import.specs.declared.shape.Known.{Known}
use Rattle.mt_import.specs.Reader.{slots_of}
use Rattle.mt_import.specs.Supplied.{all_assumed}
use Rattle.mt_import.specs.Values.{assumed_value, or_supplied}
use Rattle.mt_import.proofs.reader.LogReader.hint_by.Goals as goal

pub returns : goal.returns
returns c =
    let slots = slots_of c.args.self.now 0 in
    let known : Known = record { width = c.or_widest.result; format = c.known-known.result.format; given = c.known-known.result.given } in
    c.assumed_value.ensures
    ∙ ap (λ a. assumed_value a slots known c.args.number) c.all.ensures
    ∙ ap (λ w. assumed_value all_assumed slots (record { width = w; format = c.known-known.result.format; given = c.known-known.result.given }) c.args.number) c.or_widest.ensures.width
    ∙ ap (λ (k : Known). assumed_value all_assumed slots (record { width = or_supplied k.width (Some 52); format = k.format; given = k.given }) c.args.number) c.known-known.ensures.known
