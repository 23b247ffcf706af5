use Rattle.std.proofs.Common.{◌-◌, Some, ap, sym, ◌∙◌, arith}
use Rattle.mt_regs.specs.declared.registers.Register.TheVariants.{FixedRange}
use Rattle.mt_regs.proofs.Writable.{writable_base, writable_mask, writable_fixed, writable_last, writable_past}
use Rattle.mt_regs.proofs.file.RegFile.register_at.Goals as goal

pub returns-then-i-eq0-clause-at : goal.returns-then-i-eq0-clause-at
returns-then-i-eq0-clause-at c =
    writable_base c.args.self.now c.args.i (omega (arith, c.pair_register_count-pairs.ensures.count)) c.if-i-eq0.true

pub returns-else-i-eq0-clause-at : goal.returns-else-i-eq0-clause-at
returns-else-i-eq0-clause-at c =
    writable_mask c.args.self.now c.args.i (omega (arith, c.pair_register_count-pairs.ensures.count)) c.if-i-eq0.false

pub returns-then-past-fixed-clause-at : goal.returns-then-past-fixed-clause-at
returns-then-past-fixed-clause-at c =
    let pairs = c.pair_register_count-pairs.ensures.count in
    writable_fixed c.args.self.now c.args.i (omega arith) (omega (arith, c.fixed_count-fixed.ensures.count))
    ∙ ap (λ n. Some (FixedRange (c.args.i - n))) (sym pairs)

pub returns-then-past-fixed-2-clause-at : goal.returns-then-past-fixed-2-clause-at
returns-then-past-fixed-2-clause-at c =
    writable_last c.args.self.now c.args.i 0 (omega (arith, c.pair_register_count-pairs.ensures.count, c.fixed_count-fixed.ensures.count))

pub returns-then-past-fixed-3-clause-at : goal.returns-then-past-fixed-3-clause-at
returns-then-past-fixed-3-clause-at c =
    writable_last c.args.self.now c.args.i 1 (omega (arith, c.pair_register_count-pairs.ensures.count, c.fixed_count-fixed.ensures.count))

pub returns-else-past-fixed-3-clause-at : goal.returns-else-past-fixed-3-clause-at
returns-else-past-fixed-3-clause-at c =
    writable_past c.args.self.now c.args.i (omega (arith, c.pair_register_count-pairs.ensures.count, c.fixed_count-fixed.ensures.count))
