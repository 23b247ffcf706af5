use Rattle.std.proofs.Common.{◌≡◌, drop}
use Rattle.std.specs.List.{find}
use Rattle.mt_cache.specs.Lines.{eight, first_dirty_word, is_dirty}
use Rattle.mt_list_machine.proofs.lines.first_dirty_word.Given as goal

abbrev pub invariant-loop-word : goal.invariant-loop-word
invariant-loop-word l = find (is_dirty l.line) (drop l.word eight) ≡ first_dirty_word l.line
