use Rattle.std.proofs.Common.{◌≡◌, drop}
use Rattle.std.specs.List.{fold}
use Rattle.mt_machine.specs.Memory.{write_back}
use Rattle.mt_bus.proofs.coming.write_lines.Given as goal

abbrev pub invariant-loop-i : goal.invariant-loop-i
invariant-loop-i l = fold write_back l.ram (drop l.i l.cache) ≡ fold write_back l.fn.ram l.cache
