use Rattle.std.proofs.Common.{◌∙◌, sym}
use Rattle.mt_ram.specs.Windows.{window}
use Rattle.mt_ram.proofs.Windows.{bounded_here, bounded_after, overlap_later}
use Rattle.mt_ram.proofs.ram.is_overlap.Goals as goal

pub shares_byte-requires-clause-own : goal.shares_byte-requires-clause-own
shares_byte-requires-clause-own c = bounded_here c.args.windows.now c.loop-w.w-index _ c.loop-w-test.true c.loop-w.invariant.bounded

pub loop-w-preserved : goal.loop-w-preserved
loop-w-preserved c = record {
  rest = sym (overlap_later c.args.windows.now c.loop-w.w-index _ (window c.args.base c.args.lines) c.loop-w-test.true (sym c.shares_byte.ensures ∙ c.if-shares_byte.false)) ∙ c.loop-w.invariant.rest;
  bounded = bounded_after c.args.windows.now c.loop-w.w-index (record { base = 0; lines = 0 }) c.loop-w-test.true c.loop-w.invariant.bounded;
}
