use Rattle.std.proofs.Common.{◌≡◌, ◌-◌, length}
use Rattle.mt_machine.specs.Bus.{bus_read, invalidate_others}
use Rattle.mt_bus.proofs.Skipped.{others_dropped, pass_from}
use Rattle.mt_bus.proofs.bus.Bus.read_and_drop_others.Given as goal

abbrev pub invariant-holders : goal.invariant-holders
invariant-holders l = pass_from (others_dropped l.k l.number) l.i l.self ≡ invalidate_others l.k l.number (bus_read l.number l.fn.self)

abbrev pub decreases-holders : goal.decreases-holders
decreases-holders l = length l.self.processors - l.i
