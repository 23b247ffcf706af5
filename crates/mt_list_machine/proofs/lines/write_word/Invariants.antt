use Rattle.std.proofs.Common.{◌≡◌, ◌++◌, drop, take}
use Rattle.mt_cache.specs.Lines.{change_line}
use Rattle.mt_cache.specs.Calls.{write_word}
use Rattle.mt_list_machine.proofs.lines.write_word.Given as goal

abbrev pub invariant-loop-i : goal.invariant-loop-i
invariant-loop-i l = take l.i l.lines ++ change_line l.number (write_word l.word l.v l.dirty) (drop l.i l.lines) ≡ change_line l.number (write_word l.word l.v l.dirty) l.fn.lines
