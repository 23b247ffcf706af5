use Rattle.std.proofs.Common.{◌≡◌, drop}
use Rattle.std.specs.List.{find}
use Rattle.mt_tlb.specs.Entries.{maps_page}
use Rattle.mt_list_machine.proofs.accesses.find_mapping.Given as goal

abbrev pub invariant-loop-mapping : goal.invariant-loop-mapping
invariant-loop-mapping l = find (maps_page l.vpage) (drop l.mapping-index l.maps) ≡ find (maps_page l.vpage) l.maps
