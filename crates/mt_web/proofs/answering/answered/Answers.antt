use Rattle.mt_web.specs.Words.{words_in}
use Rattle.mt_web.proofs.Answered.{answers_no_words}
use Rattle.mt_web.proofs.answering.answered.Goals as goal

pub returns-in-Err : goal.returns-in-Err
returns-in-Err c = answers_no_words (words_in c.args.words.now) c.args.input.now _ _ c.no_memory.ensures
