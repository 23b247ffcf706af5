use Rattle.std.proofs.Common.{◌∙◌, ap, drop, sym, ◌+◌, slice_get}
use Rattle.std.specs.List.{fold}
use Rattle.mt_machine.specs.System.{System, buffers_of}
use Rattle.mt_machine.specs.Bus.{empty_buffer}
use Rattle.mt_laws.proofs.Emptying.{kept_buffers}
use Rattle.mt_laws.proofs.Items.{drop_at}
use Rattle.mt_list_machine.proofs.bus.Bus.drain.Goals as goal

pub loop-i-preserved : goal.loop-i-preserved
loop-i-preserved c =
    let buffers = buffers_of c.args.self.now c.args.k in
    let at = ap (λ ls. slice_get ls c.loop-i.i) (sym c.loop-i.invariant.same) ∙ c.buffer_at-buffer.ensures in
    record {
      emptied =
          ap (λ (s : System). fold empty_buffer s (drop (c.loop-i.i + 1) buffers)) c.empty_buffer.ensures
          ∙ sym (ap (fold empty_buffer c.loop-i.self) (drop_at buffers c.loop-i.i c.buffer_at-buffer.result at))
          ∙ c.loop-i.invariant.emptied;
      same = ap (λ (s : System). buffers_of s c.args.k) c.empty_buffer.ensures ∙ kept_buffers c.loop-i.self c.buffer_at-buffer.result c.args.k ∙ c.loop-i.invariant.same;
    }
