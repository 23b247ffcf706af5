use Rattle.std.proofs.Common.{ℕ, List, [], ◌∷◌, length, ap, arith}
use Rattle.std.specs.Prelude.{slice_index}
use Rattle.mt_machine.specs.Memory.{Memory}
use Rattle.mt_laws.specs.Kept.{Holdings}
use Rattle.mt_machine_laws.proofs.run_worked.worked_holdings.Goals as goal

abbrev of_first : (Holdings → ℕ) → List Holdings → ℕ
of_first f [] = 0
of_first f (x ∷ xs) = f x

pub returns-clause-other_file : goal.returns-clause-other_file
returns-clause-other_file c = λ h. omega (arith, ap (of_first (λ x. x.0.default_type)) h.processors)

pub returns-clause-other_lines : goal.returns-clause-other_lines
returns-clause-other_lines c = λ h. omega (arith, ap (of_first (λ x. length x.1)) h.processors)

pub returns-clause-other_buffers : goal.returns-clause-other_buffers
returns-clause-other_buffers c = λ h. omega (arith, ap (of_first (λ x. length x.2)) h.processors)

pub returns-clause-other_entries : goal.returns-clause-other_entries
returns-clause-other_entries c = λ h. omega (arith, ap (of_first (λ x. length x.3)) h.processors)

pub returns-clause-other_word : goal.returns-clause-other_word
returns-clause-other_word c = λ h. omega (arith, ap (λ (m : Memory). slice_index m.words 0) h.memory)
