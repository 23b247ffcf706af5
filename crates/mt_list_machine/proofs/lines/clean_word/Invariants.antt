use Rattle.std.proofs.Common.{◌≡◌, ◌++◌, drop, take}
use Rattle.mt_cache.specs.Lines.{change_line, clean_word}
use Rattle.mt_list_machine.proofs.lines.clean_word.Given as goal

abbrev pub invariant-loop-i : goal.invariant-loop-i
invariant-loop-i l = take l.i l.lines ++ change_line l.number (clean_word l.word) (drop l.i l.lines) ≡ change_line l.number (clean_word l.word) l.fn.lines
