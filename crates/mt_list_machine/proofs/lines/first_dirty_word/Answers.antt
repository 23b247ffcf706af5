use Rattle.std.proofs.Common.{◌∙◌, sym}
use Rattle.mt_cache.specs.Lines.{is_dirty}
use Rattle.mt_list_machine.proofs.Places.{found_first, missed_first}
use Rattle.mt_list_machine.proofs.lines.first_dirty_word.Goals as goal

pub returns-then-is_bit_set-clause-word : goal.returns-then-is_bit_set-clause-word
returns-then-is_bit_set-clause-word c =
    sym (found_first (is_dirty c.args.line.now) c.loop-word.word c.loop-word-test.true (sym c.is_bit_set.ensures ∙ c.if-is_bit_set.true)) ∙ c.loop-word.invariant

pub loop-word-preserved : goal.loop-word-preserved
loop-word-preserved c =
    sym (missed_first (is_dirty c.args.line.now) c.loop-word.word c.loop-word-test.true (sym c.is_bit_set.ensures ∙ c.if-is_bit_set.false)) ∙ c.loop-word.invariant
