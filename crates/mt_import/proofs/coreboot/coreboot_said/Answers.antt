use Rattle.std.proofs.Common.{◌∙◌, ℕ, ap}
use Rattle.mt_text.specs.Text.{words_of}
use Rattle.mt_import.specs.Coreboot.{said_from}
use Rattle.mt_import.proofs.coreboot.coreboot_said.Goals as goal

pub returns : goal.returns
returns c = c.said_from.ensures ∙ ap (λ (n : ℕ). said_from n c.args.line.now.number (words_of c.args.line.now.bytes.now)) c.level_words.ensures.words
