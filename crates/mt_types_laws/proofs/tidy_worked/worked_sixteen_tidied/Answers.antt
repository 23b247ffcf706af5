use Rattle.std.proofs.Common.{◌∷◌, [], ◌∙◌, refl, sym, arith, subst, ⊎_elim}
use Rattle.mt_kinds.specs.declared.mem_type.MemType.TheVariants.{UC, WB}
use Rattle.mt_tidy.specs.Ranges.{InOrder, IsAllowed}
use Rattle.mt_types_laws.specs.WorkedRanges.{holed, range}
use Rattle.mt_types_laws.proofs.WorkedSmall.{accepted, allowed, in_order, keeps, new_accepted, new_type, own_least_two, own_type}
use Rattle.mt_types_laws.proofs.tidy_worked.worked_sixteen_tidied.Goals as goal

pub returns-clause-tidy : goal.returns-clause-tidy
returns-clause-tidy c = record {
  old_accepted = accepted;
  enabled = refl;
  ranges = holed;
  file = refl;
  in_order = in_order;
  keeps = keeps;
  allowed = allowed;
  count = refl;
  least = own_least_two;
  enough = omega arith;
  accepted = new_accepted;
  same_types = λ page within. sym (new_type page within) ∙ own_type page within;
}

pub returns-clause-not_in_order : goal.returns-clause-not_in_order
returns-clause-not_in_order c = λ h is. one (subst InOrder is h.in_order)
  where
    one : InOrder (range 7 0 UC ∷ range 0 3 WB ∷ []) → ⊥
    one order = ⊎_elim (λ w. omega (arith, w)) (λ x. omega (arith, x.0)) order.0.0

pub returns-clause-not_allowed : goal.returns-clause-not_allowed
returns-clause-not_allowed c = λ h is. omega (arith, (subst (IsAllowed 0) is h.allowed).0.0 (4, refl, refl))
