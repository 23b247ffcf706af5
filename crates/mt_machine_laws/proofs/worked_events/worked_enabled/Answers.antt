use Rattle.std.proofs.Common.{ℕ, Option, None, Some, ap, arith, refl}
use Rattle.mt_regs.specs.RegisterFile.{page_count}
use Rattle.mt_machine.specs.System.{Processor}
use Rattle.mt_machine_laws.specs.MachineWorkedRuns.{painter}
use Rattle.mt_machine_laws.proofs.worked_events.worked_enabled.Goals as goal

abbrev pages : Option Processor → ℕ
pages None = 0
pages (Some p) = page_count p.file

pub returns-clause-last_word : goal.returns-clause-last_word
returns-clause-last_word c = (refl, (refl, omega arith))

pub returns-clause-past_the_last_word : goal.returns-clause-past_the_last_word
returns-clause-past_the_last_word c = λ h. omega (arith, h.1.1)

pub returns-clause-within_a_word : goal.returns-clause-within_a_word
returns-clause-within_a_word c = λ h. omega (arith, h.1.0)

pub returns-clause-largest_value : goal.returns-clause-largest_value
returns-clause-largest_value c = (refl, ((refl, omega arith), omega arith))

pub returns-clause-past_the_largest : goal.returns-clause-past_the_largest
returns-clause-past_the_largest c = λ h. omega (arith, h.1.1)

pub returns-clause-store_within_a_word : goal.returns-clause-store_within_a_word
returns-clause-store_within_a_word c = λ h. omega (arith, h.1.0.0)

pub returns-clause-busy : goal.returns-clause-busy
returns-clause-busy c = λ h. absurd (cc h.0)

pub returns-clause-busy_control : goal.returns-clause-busy_control
returns-clause-busy_control c = λ h. absurd (cc h.0)

pub returns-clause-last_page : goal.returns-clause-last_page
returns-clause-last_page c = (refl, λ p is. (omega arith, omega (arith, ap pages is), omega arith))

pub returns-clause-past_the_last_page : goal.returns-clause-past_the_last_page
returns-clause-past_the_last_page c = λ h. omega (arith, (h.1 painter refl).2)

pub returns-clause-past_the_memory : goal.returns-clause-past_the_memory
returns-clause-past_the_memory c = λ h. omega (arith, (h.1 painter refl).1)

pub returns-clause-past_the_entries : goal.returns-clause-past_the_entries
returns-clause-past_the_entries c = λ h. omega (arith, (h.1 painter refl).0)
