use Rattle.mt_lists.proofs.Keys.{place_found, place_missed}
use Rattle.mt_tlb.specs.Entries.{maps_page}
use Rattle.mt_tlb.proofs.maps.Maps.find.Goals as goal

pub returns-clause-mapping : goal.returns-clause-mapping
returns-clause-mapping c = place_found (maps_page c.args.vpage) c.args.self.now _ c.look_up.ensures.value

pub returns-clause-absent : goal.returns-clause-absent
returns-clause-absent c = place_missed (maps_page c.args.vpage) c.args.self.now _ c.look_up.ensures.value
