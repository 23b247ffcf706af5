use Rattle.std.proofs.Common.{◌∙◌, ap}
use Rattle.mt_machine.specs.Memory.{write_back}
use Rattle.mt_machine.specs.System.{System}
use Rattle.mt_machine.specs.Bus.{invalidate}
use Rattle.mt_list_machine.proofs.bus.Bus.empty_buffer.Goals as goal

pub returns : goal.returns
returns c =
    c.write_back.ensures
    ∙ ap (λ (s : System). record s { memory = write_back s.memory c.args.buffer.now }) (c.invalidate.ensures ∙ ap (invalidate c.args.buffer.now.number) c.bus_read.ensures)
