use Rattle.mt_import.proofs.Parts.{is_dump}
use Rattle.mt_import.specs.Reader.{values_in}
use Rattle.mt_import.proofs.reader.LogReader.dump.Goals as goal

pub invariant_of-result : goal.invariant_of-result
invariant_of-result c =
    rw (c.version_of-version.ensures, c.count.ensures.count, c.files-files.ensures)
    (is_dump (values_in c.args.supplied.now c.args.self.now) c.args.width c.args.capabilities c.args.self.now.processors (rw c.count.ensures.count at c.count.ensures.some) (rw c.count.ensures.count at c.count.ensures.few) c.requires.wide c.requires.narrow c.requires.pairs)
