use Rattle.std.proofs.Common.{◌∙◌, ◌+◌, ap, drop, slice_get, sym}
use Rattle.std.specs.List.{fold}
use Rattle.mt_machine.specs.System.{System, buffers_of}
use Rattle.mt_machine.specs.Bus.{empty_buffer}
use Rattle.mt_bus.proofs.Counts.{among, empty_count}
use Rattle.mt_laws.proofs.Emptying.{kept_buffers}
use Rattle.mt_laws.proofs.Items.{drop_at}
use Rattle.mt_bus.proofs.Emptying.{no_buffers}
use Rattle.mt_bus.proofs.bus.Bus.drain.Goals as goal

pub returns-then-count-eq0 : goal.returns-then-count-eq0
returns-then-count-eq0 c = no_buffers c.args.self.now.processors c.args.self.now.memory c.args.k c.buffer_count-count.result c.requires c.buffer_count-count.ensures c.if-count-eq0.true

pub loop-i-preserved : goal.loop-i-preserved
loop-i-preserved c = record {
  emptied =
      ap (λ (s : System). fold empty_buffer s (drop (c.loop-i.i + 1) (buffers_of c.args.self.now c.args.k))) c.empty_buffer.ensures
      ∙ sym (ap (fold empty_buffer c.loop-i.self) (drop_at (buffers_of c.args.self.now c.args.k) c.loop-i.i c.buffer_at-buffer.result (ap (λ ls. slice_get ls c.loop-i.i) (sym c.loop-i.invariant.same) ∙ c.buffer_at-buffer.ensures)))
      ∙ c.loop-i.invariant.emptied;
  same = ap (λ (s : System). buffers_of s c.args.k) c.empty_buffer.ensures ∙ kept_buffers c.loop-i.self c.buffer_at-buffer.result c.args.k ∙ c.loop-i.invariant.same;
  among = among c.args.k c.loop-i.self c.empty_buffer.new.self _ c.empty_buffer.ensures (empty_count c.loop-i.self c.buffer_at-buffer.result) c.loop-i.invariant.among;
}
