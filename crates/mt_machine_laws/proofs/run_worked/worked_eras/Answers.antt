use Rattle.std.proofs.Common.{◌≡◌, ℕ, arith, rules, ap, refl, Option, None, Some}
use Rattle.mt_machine.specs.Machine.{Order}
use Rattle.mt_machine_laws.specs.MachineWorkedRuns.{idle}
use Rattle.mt_machine_laws.specs.RunWorkedRuns.{pair_order}
use Rattle.mt_machine_laws.proofs.run_worked.worked_eras.Goals as goal

abbrev era_in : Option Order → ℕ
era_in None = 0
era_in (Some o) = o.from_era

pub returns-clause-fit : goal.returns-clause-fit
returns-clause-fit c = record { each = search rules; order = λ o is. let e : 0 ≡ o.from_era = ap era_in is in omega arith }

pub returns-clause-too_late : goal.returns-clause-too_late
returns-clause-too_late c = λ h. omega (arith, h.each 0 idle (omega arith))

pub returns-clause-none_after : goal.returns-clause-none_after
returns-clause-none_after c = λ h. omega (arith, h.order (record pair_order { from_era = 0xffffffffffffffff }) refl)
