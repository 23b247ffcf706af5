use Rattle.std.proofs.Common.{◌≡◌, ◌-◌, length}
use Rattle.mt_machine.specs.Bus.{invalidate_others, write_back_others}
use Rattle.mt_bus.proofs.Skipped.{others_taken, pass_from}
use Rattle.mt_bus.proofs.bus.Bus.take_from_each.Given as goal

abbrev pub invariant-holders : goal.invariant-holders
invariant-holders l = pass_from (others_taken l.k l.number) l.i l.self ≡ invalidate_others l.k l.number (write_back_others l.k l.number l.fn.self)

abbrev pub decreases-holders : goal.decreases-holders
decreases-holders l = length l.self.processors - l.i
