use Rattle.std.proofs.Common.{arith, refl, false}
use Rattle.mt_machine_laws.specs.MachineWorkedRuns.{entry, line_of, mapping}
use Rattle.mt_machine_laws.proofs.machine_worked.worked_processors.Goals as goal

pub returns-clause-index : goal.returns-clause-index
returns-clause-index c = λ h. omega (arith, h.indexes 0 (mapping 0 0 0) (omega arith))

pub returns-clause-mapped_page : goal.returns-clause-mapped_page
returns-clause-mapped_page c = λ h. omega (arith, h.mapped_pages 0 (mapping 0 0 0) (omega arith))

pub returns-clause-twice_mapped : goal.returns-clause-twice_mapped
returns-clause-twice_mapped c = λ h. h.distinct_mappings 0 2 (mapping 0 0 0) (omega arith) (omega arith) refl

pub returns-clause-global_entry : goal.returns-clause-global_entry
returns-clause-global_entry c = λ h. absurd (cc (h.local_entries refl 0 (entry 0 false) (omega arith)))

pub returns-clause-entry_without_a_mapping : goal.returns-clause-entry_without_a_mapping
returns-clause-entry_without_a_mapping c = λ h. absurd (cc (h.mapped 0 (entry 0 false) (omega arith)))

pub returns-clause-entry_page : goal.returns-clause-entry_page
returns-clause-entry_page c = λ h. omega (arith, h.entry_pages 0 (entry 0 false) (omega arith))

pub returns-clause-two_entries : goal.returns-clause-two_entries
returns-clause-two_entries c = λ h. h.distinct_entries 0 1 (entry 0 false) (omega arith) (omega arith) refl

pub returns-clause-line_twice : goal.returns-clause-line_twice
returns-clause-line_twice c = λ h. h.distinct_lines 0 2 (line_of 0 0) (omega arith) (omega arith) refl

pub returns-clause-line_of_seven : goal.returns-clause-line_of_seven
returns-clause-line_of_seven c = λ h. omega (arith, (h.whole_lines 0 (line_of 0 0) (omega arith)).eight_words)

pub returns-clause-buffer_twice : goal.returns-clause-buffer_twice
returns-clause-buffer_twice c = λ h. h.distinct_buffers 0 1 (line_of 0 0) (omega arith) (omega arith) refl

pub returns-clause-buffer_of_seven : goal.returns-clause-buffer_of_seven
returns-clause-buffer_of_seven c = λ h. omega (arith, (h.whole_buffers 0 (line_of 0 0) (omega arith)).eight_words)
