use Rattle.std.proofs.Common.{◌∙◌, ℕ, ap}
use Rattle.mt_import.specs.Linux.{pat_from}
use Rattle.mt_import.proofs.linux.pat_said.Goals as goal

pub returns : goal.returns
returns c = c.pat_from.ensures ∙ ap (λ (at : ℕ). pat_from at c.args.words.now.number c.args.words.now.words) c.pat_word.ensures.word
