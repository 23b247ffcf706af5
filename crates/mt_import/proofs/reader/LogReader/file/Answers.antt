use Rattle.mt_import.proofs.Parts.{is_file}
use Rattle.mt_import.specs.Reader.{values_in}
use Rattle.mt_import.proofs.reader.LogReader.file.Goals as goal

pub invariant_of-result : goal.invariant_of-result
invariant_of-result c =
    rw (c.pairs.ensures, c.pair_count-count.ensures, c.fixed_part-fixed.ensures, c.value_or_zero.ensures, c.value_or_zero-2.ensures)
    (is_file (values_in c.args.supplied.now c.args.self.now) c.args.width c.args.capabilities c.args.k c.requires.wide c.requires.narrow c.requires.pairs)
