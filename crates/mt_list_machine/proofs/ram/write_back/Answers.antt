use Rattle.std.proofs.Common.{◌∙◌, ◌+◌, ap, sym, drop}
use Rattle.std.specs.List.{fold}
use Rattle.mt_cache.specs.Lines.{eight}
use Rattle.mt_machine.specs.Memory.{Memory, write_back_word}
use Rattle.mt_list_machine.specs.Parts.{memory}
use Rattle.mt_laws.proofs.Places.{eight_more}
use Rattle.mt_list_machine.proofs.Places.{line_stays}
use Rattle.mt_list_machine.proofs.ram.write_back.Goals as goal

pub returns-then-line-ge-PHYSICAL_LINES : goal.returns-then-line-ge-PHYSICAL_LINES
returns-then-line-ge-PHYSICAL_LINES c = line_stays c.args.layout.now c.args.words.now c.args.line.now c.words.ensures.memory c.if-line-ge-PHYSICAL_LINES.true

pub loop-word-preserved : goal.loop-word-preserved
loop-word-preserved c =
    ap (λ (m : Memory). fold (write_back_word c.args.line.now) m (drop (c.loop-word.word + 1) eight)) c.write_back_word.ensures
    ∙ sym (ap (fold (write_back_word c.args.line.now) (memory c.args.layout.now c.loop-word.words)) (eight_more c.loop-word.word c.loop-word-test.true))
    ∙ c.loop-word.invariant
