use Rattle.std.proofs.Common.{◌≡◌, ◌++◌, drop, map, take}
use Rattle.mt_cache.specs.Lines.{change_line, clean_line}
use Rattle.mt_machine.specs.Bus.{with_lines}
use Rattle.mt_list_machine.proofs.snoops.clean_all.Given as goal

abbrev pub invariant-loop-i : goal.invariant-loop-i
invariant-loop-i l = take l.i l.cpus ++ map (with_lines (change_line l.number clean_line)) (drop l.i l.cpus) ≡ map (with_lines (change_line l.number clean_line)) l.fn.cpus
