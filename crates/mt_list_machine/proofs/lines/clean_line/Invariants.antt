use Rattle.std.proofs.Common.{◌≡◌, ◌++◌, drop, take}
use Rattle.mt_cache.specs.Lines.{change_line, clean_line}
use Rattle.mt_list_machine.proofs.lines.clean_line.Given as goal

abbrev pub invariant-loop-i : goal.invariant-loop-i
invariant-loop-i l = take l.i l.lines ++ change_line l.number clean_line (drop l.i l.lines) ≡ change_line l.number clean_line l.fn.lines
