-- Calls of a port, one after the other.
use Rattle.std.proofs.Common.{◌≡◌, ℕ, Result, subst}
use Rattle.mt_ports.specs.Causes.{HasCause}

-- a call behind others that left the count as it was
pub cause_after : {T E : Type 0} (first before now : ℕ) (result : Result T E) → before ≡ first → HasCause before now result → HasCause first now result
cause_after first before now result same cause = subst (λ (count : ℕ). HasCause count now result) same cause
