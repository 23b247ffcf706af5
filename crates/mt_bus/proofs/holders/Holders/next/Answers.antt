use Rattle.mt_bus.proofs.Masks.{lowest_holds, skipped_all, skipped_below}
use Rattle.mt_bus.proofs.holders.Holders.next.Goals as goal

pub returns-then-rest-eq0-clause-skipped : goal.returns-then-rest-eq0-clause-skipped
returns-then-rest-eq0-clause-skipped c = skipped_all c.args.self.now c.args.number c.args.i c.mask.result c.mask.ensures c.if-rest-eq0.true

pub returns-else-rest-eq0-clause-skipped : goal.returns-else-rest-eq0-clause-skipped
returns-else-rest-eq0-clause-skipped c = skipped_below c.args.self.now c.args.number c.args.i c.mask.result c.mask.ensures c.mask.type_inv c.if-rest-eq0.false

pub returns-else-rest-eq0-clause-holder : goal.returns-else-rest-eq0-clause-holder
returns-else-rest-eq0-clause-holder c = lowest_holds c.args.self.now c.args.number c.args.i c.mask.result c.mask.ensures c.mask.type_inv c.if-rest-eq0.false
