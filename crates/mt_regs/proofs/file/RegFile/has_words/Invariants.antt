use Rattle.mt_regs.proofs.ByNumber.{HasWordsBelow}
use Rattle.mt_regs.proofs.file.RegFile.has_words.Given as goal

abbrev pub invariant-registers : goal.invariant-registers
invariant-registers l = HasWordsBelow l.self l.i
