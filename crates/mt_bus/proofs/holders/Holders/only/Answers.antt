use Rattle.std.proofs.Common.{◌∙◌, sym}
use Rattle.std.proofs.lemmas.Bool.{eqb-true}
use Rattle.mt_bus.proofs.Masks.{one_bit}
use Rattle.mt_bus.proofs.holders.Holders.only.Goals as goal

pub returns-else-mask-eq0 : goal.returns-else-mask-eq0
returns-else-mask-eq0 c = λ is. one_bit c.args.self.now c.args.k c.args.number (sym c.mask-mask.ensures ∙ eqb-true _ _ is ∙ c.bit.ensures)
