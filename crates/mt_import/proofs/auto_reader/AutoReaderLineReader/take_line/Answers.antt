use Rattle.std.proofs.Common.{◌∙◌, ap, sym}
use Rattle.std.specs.Prelude.{Err}
use Rattle.mt_import.specs.Census.{beside, passed_over}
use Rattle.mt_import.specs.Import.{failed}
use Rattle.mt_import.specs.Readers.{tries_in}
use Rattle.mt_text.specs.Text.{past_limit}
use Rattle.mt_import.specs.declared.fault.ImportFault.TheVariants.{BadLine}
use Rattle.mt_import.specs.declared.fault.Reason.TheVariants.{LongLine}
use Rattle.mt_import.specs.declared.shape.Failure.{Failure}
use Rattle.mt_import.specs.Tries.{TriesSeen, failure_or}
use Rattle.mt_import.proofs.Settling.{best_leads, best_stops}
use Rattle.mt_import.proofs.Takes.{long_whole, short_whole}
use Rattle.mt_import.proofs.auto_reader.AutoReaderLineReader.take_line.Goals as goal

pub returns-then-too_long-clause-takes : goal.returns-then-too_long-clause-takes
returns-then-too_long-clause-takes c = λ course whole led cut lines end.
    let reader = c.args.self.now in
    best_stops reader.supplied.now reader.readers.now reader.census c.args.line.now.number course whole lines end led (long_whole c.args.line.now.bytes.now whole (c.too_long.ensures.0 c.if-too_long.true) cut)
    ∙ ap Err (sym (c.failed_in.ensures.told
    ∙ ap (λ (f : Failure). beside (passed_over reader.census) (failed reader.supplied.now.table f)) (c.long_line-failure.ensures.value
    ∙ ap (λ (t : TriesSeen). failure_or t (BadLine LongLine (past_limit c.args.line.now.number))) (c.by.ensures ∙ ap (tries_in reader.readers.now) c.taken.ensures))))

pub returns-clause-takes : goal.returns-clause-takes
returns-clause-takes c = λ course whole led cut.
    let reader = c.args.self.now in
    let parts = short_whole c.args.line.now.bytes.now whole (λ many. let e = c.too_long.ensures.1 many in cc (e, c.if-too_long.false)) cut in
    (parts.2, rw (← parts.0) (best_leads reader.supplied.now reader.readers.now c.take_line.new.self reader.census c.behind-self.result c.args.line.now.number course c.args.line.now.bytes.now led (rw (sym parts.0) at parts.1) c.behind-self.ensures c.take_line.ensures))
