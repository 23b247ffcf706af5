use Rattle.std.proofs.Common.{◌≡◌, ◌∙◌, ◌^◌, ap, sym, arith}
use Rattle.mt_ranges.proofs.Powers.{pow_below}
use Rattle.mt_proc.proofs.Sizes.{between_powers, in_pages, no_power_no_size, page_reaches, power_is_size}
use Rattle.mt_proc.proofs.applying.size_log.Goals as goal

pub returns-then-size-lt-PAGE_BYTES : goal.returns-then-size-lt-PAGE_BYTES
returns-then-size-lt-PAGE_BYTES c = no_power_no_size c.args.size (λ k above below is. let step = pow_below 12 k above in omega (arith, step, is))

pub overflow_sub-result : goal.overflow_sub-result
overflow_sub-result c = page_reaches c.args.size c.ilog2-log.result (omega arith) c.ilog2-log.ensures.next_power_gt

pub returns-then-size-power : goal.returns-then-size-power
returns-then-size-power c =
    let above = page_reaches c.args.size c.ilog2-log.result (omega arith) c.ilog2-log.ensures.next_power_gt in
    let is : c.args.size ≡ 2 ^ c.ilog2-log.result = c.if-size-power.true ∙ c.power.ensures in
    (power_is_size c.args.size c.ilog2-log.result above c.ilog2-log.ensures.bound is, is ∙ in_pages c.ilog2-log.result above, omega (arith, c.ilog2-log.ensures.bound))

pub returns-else-size-power : goal.returns-else-size-power
returns-else-size-power c = no_power_no_size c.args.size (λ k above below is.
    let same = between_powers c.args.size c.ilog2-log.result k c.ilog2-log.ensures.power_le c.ilog2-log.ensures.next_power_gt is in
    c.if-size-power.false (is ∙ ap (λ j. 2 ^ j) same ∙ sym c.power.ensures))
