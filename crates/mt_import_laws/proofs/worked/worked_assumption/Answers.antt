use Rattle.std.proofs.Common.{refl, inl, inr, arith}
use Rattle.mt_import_laws.specs.Assumptions.{IsNamedValue, of_capabilities, of_default, of_fixed, of_no_pair, of_pat, of_size}
use Rattle.mt_import.specs.Slot.{blank_slot}
use Rattle.mt_import_laws.proofs.worked.worked_assumption.Goals as goal

no_value : IsNamedValue (λ number. blank_slot) 0x277 0 → ⊥
no_value (of_pat at (inl (inl e))) = omega (arith, e)
no_value (of_pat at (inl (inr e))) = omega (arith, e)
no_value (of_pat at (inr e)) = omega (arith, e)
no_value (of_capabilities at e) = omega (arith, at)
no_value (of_size width pair e) = cc pair
no_value (of_no_pair pair e) = cc pair
no_value (of_fixed fixed e) = cc fixed
no_value (of_default at e) = omega (arith, at)

no_number : IsNamedValue (λ number. blank_slot) 0x10 0 → ⊥
no_number (of_pat at e) = omega (arith, at)
no_number (of_capabilities at e) = omega (arith, at)
no_number (of_size width pair e) = cc pair
no_number (of_no_pair pair e) = cc pair
no_number (of_fixed fixed e) = cc fixed
no_number (of_default at e) = omega (arith, at)

pub returns : goal.returns
returns c = record { meets = refl; value = no_value; number = no_number }
