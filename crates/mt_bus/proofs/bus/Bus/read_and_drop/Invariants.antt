use Rattle.std.proofs.Common.{◌≡◌, ◌-◌, length}
use Rattle.mt_machine.specs.Bus.{bus_read, invalidate}
use Rattle.mt_laws.specs.Parts.{system}
use Rattle.mt_bus.proofs.Skipped.{pass_from}
use Rattle.mt_bus.proofs.bus.Bus.read_and_drop.Given as goal

abbrev pub invariant-holders : goal.invariant-holders
invariant-holders l = pass_from (λ i m ps. invalidate l.number (bus_read l.number (system ps m))) l.i l.self ≡ invalidate l.number (bus_read l.number l.fn.self)

abbrev pub decreases-holders : goal.decreases-holders
decreases-holders l = length l.self.processors - l.i
