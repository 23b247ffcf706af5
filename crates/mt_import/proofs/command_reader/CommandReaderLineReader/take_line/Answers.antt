use Rattle.std.proofs.Common.{◌∙◌, false, ap, sym}
use Rattle.std.specs.Prelude.{Err}
use Rattle.mt_import.proofs.Takes.{long_whole, short_whole, stops_long}
use Rattle.mt_import.proofs.command_reader.CommandReaderLineReader.take_line.Goals as goal

pub returns-then-too_long-clause-takes : goal.returns-then-too_long-clause-takes
returns-then-too_long-clause-takes c = λ course whole led cut lines end.
    let reader = c.args.self.now in
    stops_long false reader.supplied.now reader.tries c.args.line.now.number course whole lines end led (long_whole c.args.line.now.bytes.now whole (c.too_long.ensures.0 c.if-too_long.true) cut)
    ∙ ap Err (sym c.long_line.ensures.value)

pub returns-clause-takes : goal.returns-clause-takes
returns-clause-takes c = λ course whole led cut.
    let parts = short_whole c.args.line.now.bytes.now whole (λ many. let e = c.too_long.ensures.1 many in cc (e, c.if-too_long.false)) cut in
    (parts.2, rw (← parts.0) (c.take_line.ensures false course led))
