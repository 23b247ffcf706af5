use Rattle.mt_laws.proofs.Places.{nowhere_stays}
use Rattle.mt_bus.proofs.Places.{clean_stays}
use Rattle.mt_bus.proofs.words.write_back.Goals as goal

pub returns-then-line-eq0 : goal.returns-then-line-eq0
returns-then-line-eq0 c = clean_stays c.args.ram.now c.args.line.now c.if-line-eq0.true

pub returns-in_default : goal.returns-in_default
returns-in_default c = nowhere_stays c.args.ram.now c.args.line.now c.in_default.ensures.places
