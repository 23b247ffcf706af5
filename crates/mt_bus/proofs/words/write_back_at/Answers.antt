use Rattle.std.proofs.Common.{◌∙◌, ap, sym}
use Rattle.std.specs.List.{fold}
use Rattle.mt_machine.specs.Memory.{write_back_word}
use Rattle.mt_laws.proofs.Places.{eight_more}
use Rattle.mt_bus.proofs.words.write_back_at.Goals as goal

pub loop-word-preserved : goal.loop-word-preserved
loop-word-preserved c = record {
  rest =
      rw c.write_back_word.ensures.memory
      (sym (ap (fold (write_back_word c.args.line.now) c.loop-word.ram) (eight_more c.loop-word.word c.loop-word-test.true)) ∙ c.loop-word.invariant.rest);
  windows = c.write_back_word.ensures.windows ∙ c.loop-word.invariant.windows;
  count = c.write_back_word.ensures.count ∙ c.loop-word.invariant.count;
}
