use Rattle.std.proofs.Common.{◌≡◌, drop}
use Rattle.std.specs.List.{fold}
use Rattle.mt_machine.specs.Bus.{empty_buffer}
use Rattle.mt_machine.specs.System.{buffers_of}
use Rattle.mt_list_machine.proofs.bus.Bus.drain.Given as goal

abbrev pub invariant-loop-i : goal.invariant-loop-i
invariant-loop-i l = record {
  emptied : fold empty_buffer l.self (drop l.i (buffers_of l.fn.self l.k)) ≡ fold empty_buffer l.fn.self (buffers_of l.fn.self l.k);
  same : buffers_of l.self l.k ≡ buffers_of l.fn.self l.k;
}
