use Rattle.std.proofs.Common.{refl, inl, inr}
use Rattle.mt_import_laws.proofs.worked.worked_switch.Goals as goal

pub returns : goal.returns
returns c = record { on = inl refl; off = inr (inl refl) }
