use Rattle.mt_dump.proofs.Fed.{takes_line}
use Rattle.mt_dump.proofs.reader.DumpReaderLineReader.take_line.Goals as goal

pub returns-clause-takes : goal.returns-clause-takes
returns-clause-takes c = takes_line c.args.self.now c.take.new.self c.args.line.now c.take.result c.take.ensures
