use Rattle.std.proofs.Common.{arith}
use Rattle.mt_proc.proofs.Sizes.{HasBlock, has_block}
use Rattle.mt_proc.proofs.applying.range_block.Goals as goal

block : (c : goal.Else-base-limit) → HasBlock c.args.base c.args.size c.in-Some.log c.args.m
block c = has_block c.args.base c.args.size c.in-Some.log c.args.m c.requires.low c.requires.high c.in-Some.ensures.0 c.in-Some.ensures.1 c.if-base-size-ne0.false (omega (arith, c.power-limit.ensures))

pub invariant_of-result-clause-small : goal.invariant_of-result-clause-small
invariant_of-result-clause-small c = (block c).small

pub invariant_of-result-clause-aligned : goal.invariant_of-result-clause-aligned
invariant_of-result-clause-aligned c = (block c).aligned

pub invariant_of-result-clause-within_memory : goal.invariant_of-result-clause-within_memory
invariant_of-result-clause-within_memory c = (block c).memory

pub returns : goal.returns
returns c =
    let b =
    has_block c.args.base c.args.size c.in-Some.log c.args.m c.requires.low c.requires.high c.in-Some.ensures.0 c.in-Some.ensures.1 c.if-base-size-ne0.false (omega (arith, c.power-limit.ensures)) in
    (b.good, b.first, c.in-Some.ensures.1, b.within)
