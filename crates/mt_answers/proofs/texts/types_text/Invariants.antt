use Rattle.std.proofs.Common.{◌≡◌, flat_map, take}
use Rattle.mt_answers.specs.Lines.{run_line}
use Rattle.mt_answers.proofs.texts.types_text.Given as goal

abbrev pub invariant-runs : goal.invariant-runs
invariant-runs l = l.text.items ≡ flat_map run_line (take l.run-index l.runs)
