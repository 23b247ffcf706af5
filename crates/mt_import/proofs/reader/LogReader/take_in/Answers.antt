use Rattle.mt_import.proofs.Facts.{counts_line}
use Rattle.mt_import.proofs.reader.LogReader.take_in.Goals as goal

pub returns : goal.returns
returns c =
    let taken = counts_line c.count_line.ensures c.take_said.ensures in
    rw (c.is_match.ensures, c.count_line.ensures.context) at taken
