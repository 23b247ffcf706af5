use Rattle.mt_web.specs.Words.{words_in}
use Rattle.mt_web.proofs.Imported.{imports_no_words}
use Rattle.mt_web.proofs.importing.imported.Goals as goal

pub returns-in-Err : goal.returns-in-Err
returns-in-Err c = imports_no_words (words_in c.args.words.now) c.args.input.now _ _ c.no_memory.ensures
