use Rattle.mt_text.proofs.Counted.{nothing_left}
use Rattle.mt_text.proofs.reader.read_lines.Goals as goal

pub returns-clause-end : goal.returns-clause-end
returns-clause-end g c bytes is =
    let counted = c.read_from.ensures.bytes in
    nothing_left (g.S.Source.left c.args.source.now) (g.S.Source.left c.read_from.new.source) bytes counted.0 c.read_from.result is counted.1 c.read_from.ensures.end
