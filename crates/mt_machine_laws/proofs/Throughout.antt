-- What the laws say of reached states holds of each state that arises.
use Rattle.std.proofs.Common.{List}
use Rattle.mt_machine.specs.Memory.{Window}
use Rattle.mt_laws.proofs.Barrier.Acting.{none_acts_in}
use Rattle.mt_laws.proofs.Barrier.Claims.{barriers_of, exclusive_in}
use Rattle.mt_laws.proofs.Invariant.Kept.{keeps_now}
use Rattle.mt_laws.proofs.Registers.UnderWay.{holds}
use Rattle.mt_laws.proofs.Steps.StepTotals.{total}
use Rattle.mt_laws.proofs.Words.Sound.{aligned_all}
use Rattle.mt_core.specs.Headline.{BarriersHoldThroughout, NoneActsThroughout, NoneRunsThroughout, OrdersHoldThroughout, StepsCountThroughout, StepsKeepThroughout}
use Rattle.mt_core.proofs.Stepping.{stands}

pub barriers_hold_throughout : BarriersHoldThroughout
barriers_hold_throughout m a = barriers_of m (stands a).1.kept.0

pub none_runs_throughout : NoneRunsThroughout
none_runs_throughout m a = exclusive_in m.system m.order (stands a).1.kept.0

pub none_acts_throughout : NoneActsThroughout
none_acts_throughout m a = none_acts_in m (none_runs_throughout m a)

pub orders_hold_throughout : OrdersHoldThroughout
orders_hold_throughout m o a is = holds m o is m.system.memory.windows (stands a).1

pub steps_keep_throughout : StepsKeepThroughout
steps_keep_throughout m e address a =
    let ws : List Window = m.system.memory.windows in
    let st = stands a in
    keeps_now ws (aligned_all ws st.0.aligned) m e address st.1.agrees

pub steps_count_throughout : StepsCountThroughout
steps_count_throughout m k between a enabled calm =
    let ws : List Window = m.system.memory.windows in
    let st = stands a in
    total ws (aligned_all ws st.0.aligned) k between m.system m.order st.1 enabled calm
