use Rattle.std.proofs.Common.{◌≡◌, ◌∙◌, ap, arith, ◌+◌, ◌*◌, add-one}
use Rattle.mt_import.specs.Reader.{slots_of}
use Rattle.mt_kinds.specs.Bits.{is_bit_set}
use Rattle.mt_import.specs.Values.{shows_uncached, uncached_pairs, uncached_with}
use Rattle.mt_import.proofs.reader.LogReader.uncached_pairs.Goals as goal

pub pairs-preserved : goal.pairs-preserved
pairs-preserved c =
    let slots = slots_of c.args.self.now c.args.k in
    let n = c.pairs.n in
    rw add-one
    (c.uncached_behind-uncached.ensures ∙ ap (uncached_with (is_bit_set (slots (0x201 + 2 * n)).value 11) (shows_uncached (slots (0x200 + 2 * n)))) c.pairs.invariant)

pub returns : goal.returns
returns c = let end : c.pairs.n ≡ 32 = omega (arith, c.pairs-test.false, c.pairs.auto.n-end) in c.pairs.invariant ∙ ap (uncached_pairs (slots_of c.args.self.now c.args.k)) end
