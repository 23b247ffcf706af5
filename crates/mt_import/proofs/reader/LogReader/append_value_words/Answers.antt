use Rattle.std.proofs.Common.{arith, refl, take}
use Rattle.mt_import.proofs.Parts.{grows, texts_more}
use Rattle.mt_import.specs.Reader.{value_word_in, value_words_in}
use Rattle.mt_import.proofs.reader.LogReader.append_value_words.Goals as goal

pub registers-preserved : goal.registers-preserved
registers-preserved c =
    let one = value_word_in c.args.supplied.now c.args.self.now in
    let all = value_words_in c.args.supplied.now c.args.self.now in
    record {
      text = grows one c.number_at.result c.args.text.now.items (all (take c.registers.i c.args.numbers.now)) _ _ _ c.append_value_word.ensures.text c.registers.invariant.text
          (texts_more one all refl (λ n ns. refl) c.registers.i c.args.numbers.now c.number_at.result c.number_at.ensures.at);
      short = omega (arith, c.append_value_word.ensures.short, c.registers.invariant.short);
    }
