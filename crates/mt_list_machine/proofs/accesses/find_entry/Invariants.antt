use Rattle.std.proofs.Common.{◌≡◌, drop}
use Rattle.std.specs.List.{find}
use Rattle.mt_tlb.specs.Entries.{has_page}
use Rattle.mt_list_machine.proofs.accesses.find_entry.Given as goal

abbrev pub invariant-loop-entry : goal.invariant-loop-entry
invariant-loop-entry l = find (has_page l.vpage) (drop l.entry-index l.entries) ≡ find (has_page l.vpage) l.entries
