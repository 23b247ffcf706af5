use Rattle.std.proofs.Common.{arith, refl}
use Rattle.mt_machine.specs.System.{IsCoherent}
use Rattle.mt_machine_laws.specs.MachineWorkedRuns.{alone, copier, idle, line_of, whole, with_first_word}
use Rattle.mt_machine_laws.proofs.machine_worked.worked_sound.Goals as goal

clean_word : IsCoherent (with_first_word 9 (alone whole)).system → ⊥
clean_word h = omega (arith, h.clean 0 idle (omega arith) 0 (line_of 0 0) (omega arith) 0 (omega arith) refl)

pub returns-clause-clean_word_differs : goal.returns-clause-clean_word_differs
returns-clause-clean_word_differs c = clean_word

pub returns-clause-copied_by_the_next : goal.returns-clause-copied_by_the_next
returns-clause-copied_by_the_next c = λ h. absurd (cc (h.sole 0 1 whole copier (omega arith) refl refl 0 (line_of 0 0) (omega arith) (omega arith)))

pub returns-clause-line_outside : goal.returns-clause-line_outside
returns-clause-line_outside c = λ h. absurd (cc (h.lines_in_memory 0 idle (omega arith) 0 (line_of 0 0) (omega arith)))

pub returns-clause-buffer_outside : goal.returns-clause-buffer_outside
returns-clause-buffer_outside c = λ h. absurd (cc (h.buffers_in_memory 0 idle (omega arith) 0 (line_of 0 0) (omega arith)))

pub returns-clause-incoherent : goal.returns-clause-incoherent
returns-clause-incoherent c = λ h. clean_word h.coherent

pub returns-clause-second_no_processor : goal.returns-clause-second_no_processor
returns-clause-second_no_processor c = λ h. omega (arith, (h.each 1 idle (omega arith)).in_range 9 refl)
