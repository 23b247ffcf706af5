-- A file without a fault can be drawn.
use Rattle.std.proofs.Common.{◌≡◌, refl, Option, None, Some}
use Rattle.std.specs.Prelude.{MatchOption}
use Rattle.mt_regs.specs.declared.fault.Fault.{Fault}
use Rattle.mt_regs.specs.RegisterFile.{RegisterFile}
use Rattle.mt_regs.specs.Faults.{IsFirstFault, IsOverlapFault, register_fault}

-- no register is at fault by itself where there is no fault
pub drawable_none : (f : RegisterFile) → IsFirstFault f None → register_fault f ≡ None
drawable_none f is = by (register_fault f) refl is
  where
    by : (found : Option Fault) → register_fault f ≡ found → MatchOption found (IsOverlapFault f None) (λ fault. None ≡ Some fault) → register_fault f ≡ None
    by None at is = at
    by (Some fault) at is = absurd (cc is)
