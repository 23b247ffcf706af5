-- The counts at the barriers as the code has them.
use Rattle.std.specs.Prelude.{ℕ}
use Rattle.mt_machine.specs.Machine.{BarrierCount}

abbrev pub barrier_count : ℕ × ℕ → BarrierCount
barrier_count c = record { arrived = c.0; awaited = c.1 }
