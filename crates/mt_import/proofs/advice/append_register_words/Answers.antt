use Rattle.std.proofs.Common.{arith, refl, take}
use Rattle.mt_import.proofs.Parts.{grows, texts_more}
use Rattle.mt_import.specs.Outcome.{register_word, register_words}
use Rattle.mt_import.proofs.advice.append_register_words.Goals as goal

pub registers-preserved : goal.registers-preserved
registers-preserved c = record {
  text = grows register_word c.register_at.result c.args.text.now.items (register_words (take c.registers.i c.args.registers.now)) _ _ _ c.append_register_word.ensures.text
      c.registers.invariant.text
      (texts_more register_word register_words refl (λ n ns. refl) c.registers.i c.args.registers.now c.register_at.result c.register_at.ensures.at);
  short = omega (arith, c.append_register_word.ensures.short, c.registers.invariant.short);
}
