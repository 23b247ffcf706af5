use Rattle.std.proofs.Common.{length, ap, arith, ◌∙◌}
use Rattle.mt_import.proofs.Parts.{length_pairs}
use Rattle.mt_import.specs.Reader.{values_in}
use Rattle.mt_import.proofs.reader.LogReader.pairs.Goals as goal

pub push-requires : goal.push-requires
push-requires c =
    let size = ap length c.pairs.invariant ∙ length_pairs (values_in c.args.supplied.now c.args.self.now c.args.k) c.pairs.n in
    (omega arith, omega (arith, size, c.pairs-test.true, c.requires.few))
