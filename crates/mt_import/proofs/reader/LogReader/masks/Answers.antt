use Rattle.std.proofs.Common.{◌≡◌, ◌∙◌, ap, arith}
use Rattle.mt_import.specs.Reader.{slots_of}
use Rattle.mt_import.specs.Values.{masks_in}
use Rattle.mt_import.proofs.reader.LogReader.masks.Goals as goal

pub returns : goal.returns
returns c = let end : c.pairs.n ≡ 32 = omega (arith, c.pairs-test.false, c.pairs.auto.n-end) in c.pairs.invariant ∙ ap (masks_in c.args.supplied.now (slots_of c.args.self.now 0)) end
