use Rattle.std.proofs.Common.{ap, arith, refl, ℕ, List, [], ◌∷◌, length}
use Rattle.mt_machine.specs.Machine.{Machine}
use Rattle.mt_replay_laws.proofs.replay_worked.worked_moving_steps.Goals as goal

abbrev first : List ℕ → ℕ
first [] = 0
first (a ∷ rest) = a

pub returns-clause-newcomer : goal.returns-clause-newcomer
returns-clause-newcomer c = record { number = refl; one_more = refl }

pub returns-clause-only_called : goal.returns-clause-only_called
returns-clause-only_called c = λ h. omega (arith, ap first h.number)

pub returns-clause-full : goal.returns-clause-full
returns-clause-full c = (refl, refl)

pub returns-clause-other_line : goal.returns-clause-other_line
returns-clause-other_line c = λ h. omega (arith, ap first h.0)

pub returns-clause-came : goal.returns-clause-came
returns-clause-came c = λ h. omega (arith, ap (λ (m : Machine). length m.system.processors) h.1)
