use Rattle.std.proofs.Common.{◌<◌, ◌≤◌, arith, length, ⊎_elim}
use Rattle.std.proofs.lemmas.Bool.{cases_lt}
use Rattle.std.proofs.lemmas.List.{get_or_past}
use Rattle.mt_bus.proofs.Masks.{one_more_set}
use Rattle.mt_bus.proofs.holders.set_all.Goals as goal

pub loop-i-preserved : goal.loop-i-preserved
loop-i-preserved c = one_more_set c.loop-i.masks c.loop-i.i (omega arith) c.loop-i.invariant

pub returns : goal.returns
returns c r =
    ⊎_elim (λ (low : r < length c.loop-i.masks). c.loop-i.invariant r (omega arith))
    (λ (past : length c.loop-i.masks ≤ r). get_or_past c.loop-i.masks r 0xffff past) (cases_lt r (length c.loop-i.masks))
