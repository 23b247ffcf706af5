use Rattle.std.proofs.Common.{◌≡◌, take}
use Rattle.mt_import.proofs.supplied.copied.Given as goal

abbrev pub invariant-loop-register : goal.invariant-loop-register
invariant-loop-register l = l.copy.items ≡ take l.register-index l.registers
