use Rattle.std.proofs.Common.{◌≡◌, drop}
use Rattle.std.specs.List.{find}
use Rattle.mt_regs.specs.Registers.{writable}
use Rattle.mt_regs.specs.Agreement.{differs_in}
use Rattle.mt_regs.proofs.file.RegFile.differing_register.Given as goal

-- what is left leads to what all lead to
abbrev pub invariant-loop-i : goal.invariant-loop-i
invariant-loop-i l = find (differs_in l.self l.other) (writable l.self) ≡ find (differs_in l.self l.other) (drop l.i (writable l.self))
