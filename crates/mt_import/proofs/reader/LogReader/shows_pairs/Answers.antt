use Rattle.std.proofs.Common.{◌≡◌, ◌∙◌, ap, arith}
use Rattle.mt_import.specs.Reader.{slots_of}
use Rattle.mt_import.specs.Values.{shows_pairs}
use Rattle.mt_import.proofs.reader.LogReader.shows_pairs.Goals as goal

pub returns : goal.returns
returns c = let end : c.pairs.n ≡ 32 = omega (arith, c.pairs-test.false, c.pairs.auto.n-end) in c.pairs.invariant ∙ ap (shows_pairs (slots_of c.args.self.now c.args.k)) end
