-- A status with which texts are written isn't that of a source that failed.
use Rattle.std.proofs.Common.{◌≡◌, ◌∙◌, inl, inr, subst, sym}
use Rattle.std.specs.Prelude.{◌⊎◌}
use Rattle.mt_ports.specs.declared.status.Status.{Status}
use Rattle.mt_ports.specs.declared.status.Status.TheVariants.{ReadFault, TooLong, WriteFault}
use Rattle.mt_memory.specs.Outcome.{IsToldStatus}

pub never_read : (status result : Status) → IsToldStatus status → (result ≡ status) ⊎ (result ≡ WriteFault) → result ≡ ReadFault → ⊥
never_read status result shown (inl same) is = subst IsToldStatus (sym same ∙ is) shown
never_read status result shown (inr failed) is = cc (failed, is)

pub never_long : (status result : Status) → IsToldStatus status → (result ≡ status) ⊎ (result ≡ WriteFault) → result ≡ TooLong → ⊥
never_long status result shown (inl same) is = subst IsToldStatus (sym same ∙ is) shown
never_long status result shown (inr failed) is = cc (failed, is)
