use Rattle.std.proofs.Common.{◌∙◌, ap, ℕ, List, ◌++◌}
use Rattle.mt_replay.proofs.texts.append_waits.Goals as goal

pub returns : goal.returns
returns c = λ f. c.append.ensures.text ∙ ap (λ (l : List ℕ). c.args.writer.now ++ l) (c.as_slice.ensures.value ∙ c.waits_line.ensures f)
