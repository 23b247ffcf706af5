use Rattle.std.proofs.Common.{◌∙◌, ap, arith, ◌-◌, bit_and, slice_index_or}
use Rattle.mt_bus.proofs.Masks.{covers_cleared, covers_on, same_within}
use Rattle.mt_bus.proofs.holders.clear_bit.Goals as goal

pub loop-i-preserved : goal.loop-i-preserved
loop-i-preserved c =
    covers_on c.args.k _ c.loop-i.masks c.args.masks.now
    (covers_cleared c.loop-i.masks c.args.k c.loop-i.i (bit_and (slice_index_or c.loop-i.masks c.loop-i.i 0) (65535 - c.bit-others.result)) c.requires
    (ap (λ x. bit_and x (65535 - c.bit-others.result)) (same_within c.loop-i.masks c.loop-i.i 0 0xffff (omega arith))
    ∙ ap (λ b. bit_and (slice_index_or c.loop-i.masks c.loop-i.i 0xffff) (65535 - b)) c.bit-others.ensures))
    c.loop-i.invariant
