use Rattle.std.proofs.Common.{◌≡◌, arith, ap, refl, sym}
use mathlib.Core.Option.{some-injective}
use Rattle.mt_rendezvous.specs.declared.view.Added.TheVariants.{Never, Once, Twice}
use Rattle.mt_private.specs.declared.view.Resident.{Resident}
use Rattle.mt_thread_laws.specs.WorkedYard.{first_lodged}
use Rattle.mt_thread_laws.proofs.Lodged.{not_same, yard_lodged}
use Rattle.mt_thread_laws.proofs.job_worked.worked_yards.Goals as goal

pub returns-clause-yard : goal.returns-clause-yard
returns-clause-yard c = yard_lodged

pub returns-clause-no_yard : goal.returns-clause-no_yard
returns-clause-no_yard c h = not_same 0 1 (omega arith) (sym h.first_count)

pub returns-clause-has : goal.returns-clause-has
returns-clause-has c = record { at = refl; has_added = refl }

pub returns-clause-has_elsewhere : goal.returns-clause-has_elsewhere
returns-clause-has_elsewhere c h = not_same 0 1 (omega arith) (sym (ap (λ (y : Resident). y.held.number) (some-injective _ first_lodged h.at)))

pub returns-clause-has_not_added : goal.returns-clause-has_not_added
returns-clause-has_not_added c h = let e : Never ≡ Once = h.has_added in cc

pub returns-clause-has_not_added_again : goal.returns-clause-has_not_added_again
returns-clause-has_not_added_again c h = let e : Never ≡ Twice = h.has_added in cc
