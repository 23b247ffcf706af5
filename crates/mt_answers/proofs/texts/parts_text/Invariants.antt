use Rattle.std.proofs.Common.{◌≡◌, flat_map, take}
use Rattle.mt_answers.specs.Lines.{part_line}
use Rattle.mt_answers.proofs.texts.parts_text.Given as goal

abbrev pub invariant-parts : goal.invariant-parts
invariant-parts l = l.text.items ≡ flat_map part_line (take l.part-index l.parts)
