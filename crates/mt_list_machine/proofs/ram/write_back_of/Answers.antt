use Rattle.std.proofs.Common.{◌∙◌, ◌+◌, ap, drop}
use Rattle.std.proofs.lemmas.List.{drop_more}
use Rattle.std.specs.List.{filter, fold}
use Rattle.mt_cache.specs.Lines.{has_number}
use Rattle.mt_machine.specs.Memory.{Memory, write_back}
use Rattle.mt_list_machine.specs.Parts.{memory}
use Rattle.mt_list_machine.proofs.Places.{written_here}
use Rattle.mt_list_machine.proofs.ram.write_back_of.Goals as goal

pub loop-line-preserved : goal.loop-line-preserved
loop-line-preserved c =
    ap (λ (m : Memory). fold write_back m (filter (has_number c.args.number) (drop (c.loop-line.line-index + 1) c.args.lines.now))) c.write_back_if.ensures
    ∙ written_here c.args.number (memory c.args.layout.now c.loop-line.words) _ (drop (c.loop-line.line-index + 1) c.args.lines.now) (drop c.loop-line.line-index c.args.lines.now)
    (drop_more c.args.lines.now c.loop-line.line-index _ c.loop-line-test.true)
    ∙ c.loop-line.invariant
