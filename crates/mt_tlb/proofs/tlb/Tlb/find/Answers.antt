use Rattle.mt_lists.proofs.Keys.{place_found, place_missed}
use Rattle.mt_tlb.specs.Entries.{has_page}
use Rattle.mt_tlb.proofs.tlb.Tlb.find.Goals as goal

pub returns-clause-entry : goal.returns-clause-entry
returns-clause-entry c = place_found (has_page c.args.vpage) c.args.self.now _ c.look_up.ensures.value

pub returns-clause-absent : goal.returns-clause-absent
returns-clause-absent c = place_missed (has_page c.args.vpage) c.args.self.now _ c.look_up.ensures.value
