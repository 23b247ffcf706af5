use Rattle.std.proofs.Common.{◌≡◌, ◌++◌, drop, take}
use Rattle.mt_cache.specs.Lines.{without_line}
use Rattle.mt_machine.specs.Bus.{others_from, with_lines}
use Rattle.mt_list_machine.proofs.snoops.drop_others.Given as goal

abbrev pub invariant-loop-i : goal.invariant-loop-i
invariant-loop-i l = take l.i l.cpus ++ others_from l.i l.k (with_lines (without_line l.number)) (drop l.i l.cpus) ≡ others_from 0 l.k (with_lines (without_line l.number)) l.fn.cpus
