use Rattle.std.proofs.Common.{◌∙◌, ap}
use Rattle.mt_machine.specs.Memory.{write_back}
use Rattle.mt_machine.specs.System.{System}
use Rattle.mt_bus.proofs.bus.Bus.empty_buffer.Goals as goal

pub returns : goal.returns
returns c =
    rw c.write_back.ensures
    (ap (λ (s : System). record s { memory = write_back s.memory c.args.buffer.now }) (c.self.view_is ∙ c.read_and_drop.ensures))
