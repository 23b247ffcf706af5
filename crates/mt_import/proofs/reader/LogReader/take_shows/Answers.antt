use Rattle.std.proofs.Common.{◌+◌}
use Rattle.mt_import.proofs.Facts.{stops_at, takes_next}
use Rattle.mt_import.proofs.reader.LogReader.take_shows.Goals as goal

pub returns-in-Err : goal.returns-in-Err
returns-in-Err c =
    let taken = takes_next c.args.processor c.args.table c.args.shows.now c.shows.i c.shown_at.ensures c.shows.invariant c.in-Err.ensures in
    stops_at c.args.processor c.args.table c.args.shows.now (c.shows.i + 1) taken

pub shows-preserved : goal.shows-preserved
shows-preserved c = takes_next c.args.processor c.args.table c.args.shows.now c.shows.i c.shown_at.ensures c.shows.invariant c.in_default.ensures
