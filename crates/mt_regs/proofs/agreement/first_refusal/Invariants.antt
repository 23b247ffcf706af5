use Rattle.std.proofs.Common.{◌≡◌, drop}
use Rattle.mt_regs.specs.FirstFault.{first_fault}
use Rattle.mt_regs.specs.Agreement.{first_from, first_refusal}
use Rattle.mt_regs.proofs.agreement.first_refusal.Given as goal

-- what is left leads to what all lead to
abbrev pub invariant-loop-k : goal.invariant-loop-k
invariant-loop-k l = first_refusal l.files ≡ first_from first_fault l.k (drop l.k l.files)
