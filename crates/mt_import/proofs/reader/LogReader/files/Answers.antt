use Rattle.std.proofs.Common.{length, ap, arith, ◌∙◌}
use Rattle.mt_import.proofs.Parts.{length_files}
use Rattle.mt_import.specs.Reader.{values_in}
use Rattle.mt_import.proofs.reader.LogReader.files.Goals as goal

pub push-requires : goal.push-requires
push-requires c =
    let size = ap length c.files.invariant ∙ length_files (values_in c.args.supplied.now c.args.self.now) c.args.width c.args.capabilities c.files.k in
    (omega arith, omega (arith, size, c.files-test.true, c.count-k-end.ensures.few))
