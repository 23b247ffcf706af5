use Rattle.std.proofs.Common.{◌∙◌, ap}
use Rattle.mt_text.specs.Words.{FirstWords}
use Rattle.mt_import.specs.Rdmsr.{said_by_words}
use Rattle.mt_import.proofs.rdmsr.rdmsr_said.Goals as goal

pub returns : goal.returns
returns c = c.said_by_words.ensures ∙ ap (λ (w : FirstWords). said_by_words w.number w.words) c.behind.ensures
