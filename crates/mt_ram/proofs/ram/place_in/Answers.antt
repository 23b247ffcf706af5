use Rattle.std.proofs.Common.{◌∙◌, sym, arith}
use Rattle.mt_ram.proofs.Windows.{bounded_here, bounded_after, place_later, words_after}
use Rattle.mt_ram.proofs.ram.place_in.Goals as goal

pub covers-requires : goal.covers-requires
covers-requires c = bounded_here c.args.windows.now c.loop-w.w-index _ c.loop-w-test.true c.loop-w.invariant.bounded

pub loop-w-preserved : goal.loop-w-preserved
loop-w-preserved c = record {
  rest = sym (place_later c.args.windows.now c.loop-w.w-index _ c.loop-w.before c.args.address c.loop-w-test.true (sym c.covers.ensures ∙ c.if-covers.false)) ∙ c.loop-w.invariant.rest;
  bounded = bounded_after c.args.windows.now c.loop-w.w-index (record { base = 0; lines = 0 }) c.loop-w-test.true c.loop-w.invariant.bounded;
  few = let e = words_after c.args.windows.now c.loop-w.w-index (record { base = 0; lines = 0 }) c.loop-w-test.true in let h = c.loop-w.invariant.few in omega arith;
}
