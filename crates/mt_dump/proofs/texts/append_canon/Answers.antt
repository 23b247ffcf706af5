use Rattle.std.proofs.Common.{◌<◌, take, length, ap, length-append, arith}
use Rattle.std.proofs.lemmas.List.{length-take}
use Rattle.mt_dump.specs.Canon.{canon_lines}
use Rattle.mt_dump.proofs.CanonicalLines.{line_more}
use Rattle.mt_dump.proofs.texts.append_canon.Goals as goal

pub lines-preserved : goal.lines-preserved
lines-preserved c =
    let lines : c.lines.i < length (canon_lines c.args.d.now) = omega (arith, c.lines-test.true, c.line_count-i-end.ensures.count) in
    record {
      text = line_more (canon_lines c.args.d.now) c.lines.i c.write_dump-count.result _ c.args.text.now.items c.lines.text.items c.append_text.new.text.items lines c.write_dump-count.ensures.text c.lines.invariant.text c.append_text.ensures;
      short = omega (arith, c.lines.invariant.short, ap length c.append_text.ensures, length-append c.lines.text.items (take c.write_dump-count.result c.write_dump-count.new.into), length-take c.write_dump-count.result c.write_dump-count.new.into, c.write_dump-count.auto.into);
    }
