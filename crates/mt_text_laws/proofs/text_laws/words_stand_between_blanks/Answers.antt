use Rattle.mt_text.specs.Text.{content}
use Rattle.mt_text.proofs.Between.{words_between}
use Rattle.mt_text_laws.proofs.text_laws.words_stand_between_blanks.Goals as goal

pub returns : goal.returns
returns c = λ line. words_between 0 (content line)
