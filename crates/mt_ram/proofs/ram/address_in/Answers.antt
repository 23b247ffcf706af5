use Rattle.std.proofs.Common.{◌∙◌, sym, arith}
use Rattle.mt_ram.proofs.Addresses.{address_here, address_later}
use Rattle.mt_ram.proofs.Windows.{bounded_after, bounded_here}
use Rattle.mt_ram.proofs.ram.address_in.Goals as goal

pub loop-w-preserved : goal.loop-w-preserved
loop-w-preserved c = record {
  rest = sym (address_later c.args.windows.now c.loop-w.w-index _ c.loop-w-test.true c.loop-w.left (let h = c.if-left-words.false in omega arith)) ∙ c.loop-w.invariant.rest;
  bounded = bounded_after c.args.windows.now c.loop-w.w-index (record { base = 0; lines = 0 }) c.loop-w-test.true c.loop-w.invariant.bounded;
}

pub returns-then-left-words : goal.returns-then-left-words
returns-then-left-words c = sym (address_here c.args.windows.now c.loop-w.w-index _ c.loop-w-test.true c.loop-w.left c.if-left-words.true) ∙ c.loop-w.invariant.rest

pub overflow_add-result : goal.overflow_add-result
overflow_add-result c =
    let b = bounded_here c.args.windows.now c.loop-w.w-index (record { base = 0; lines = 0 }) c.loop-w-test.true c.loop-w.invariant.bounded in
    let low = c.if-left-words.true in
    omega arith
