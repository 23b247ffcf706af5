use Rattle.std.proofs.Common.{◌≡◌, drop}
use Rattle.mt_regs.specs.Agreement.{differing_register, first_difference, first_from}
use Rattle.mt_regs.proofs.agreement.first_difference.Given as goal

-- what is left leads to what all lead to
abbrev pub invariant-loop-k : goal.invariant-loop-k
invariant-loop-k l = first_difference l.files ≡ first_from (differing_register l.first) l.k (drop l.k l.files)
