use Rattle.mt_machine.specs.Bus.{bus_read, drain_line, fill_line}
use Rattle.mt_list_machine.proofs.Results.{in_turn}
use Rattle.mt_list_machine.proofs.bus.Bus.read_and_fill.Goals as goal

pub returns : goal.returns
returns c =
    in_turn (fill_line c.args.k c.args.number) (bus_read c.args.number) (drain_line c.args.k c.args.number) c.args.self.now c.drain_line.new.self c.bus_read.new.self c.fill_line.new.self
    c.drain_line.ensures c.bus_read.ensures c.in_ok-fill_line.ensures
