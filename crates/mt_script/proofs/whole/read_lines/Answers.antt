use Rattle.std.proofs.Common.{◌+◌, ◌∙◌, ap, sym}
use Rattle.mt_text.specs.Text.{lines_of, end_of}
use Rattle.mt_script.specs.Head.{head_step}
use Rattle.mt_script.specs.Script.{Rest, offence_after, offence_in}
use Rattle.mt_script.proofs.whole.read_lines.Goals as goal

pub lines-preserved : goal.lines-preserved
lines-preserved c =
    let first = c.in-Some.ensures.first in
    let so_far = c.lines.invariant in
    let takes = c.in_ok-take_line.ensures so_far.0 so_far.1 in
    let rest : Rest = offence_in (end_of c.args.source.now) (c.lines.lines.number + 1) (lines_of c.next_line.new.self.bytes) in
    let leads = ap (λ lines. offence_in (end_of c.args.source.now) c.lines.lines.number lines c.lines.head.setup so_far.0) first.lines in
    let step = ap (λ n. offence_after c.lines.head.setup rest (head_step c.lines.head.setup so_far.0 n c.in-Some.line.bytes.now)) (sym first.number) in
    (takes.0, takes.1, rw first.next_number (so_far.2 ∙ leads ∙ step ∙ takes.2 rest))
