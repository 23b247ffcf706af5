use Rattle.std.proofs.Common.{◌≡◌, ◌∙◌, ap, sym, subst, ◌%◌, ◌^◌, bit_and, List, ℕ, w16}
use Rattle.std.specs.Prelude.{slice_set}
use Rattle.std.specs.Int.{bit_not}
use Rattle.mt_bus.specs.Holders.{CoversBut, mask_of}
use Rattle.mt_bus.proofs.Masks.{bit_cleared}
use Rattle.mt_bus.proofs.holders.Holders.remove.Goals as goal

pub returns-then-k-lt-BITS : goal.returns-then-k-lt-BITS
returns-then-k-lt-BITS c =
    let is : c.set.new.self ≡ slice_set c.args.self.now (c.args.number % 4096) (bit_and (mask_of c.args.self.now c.args.number) (bit_not w16 (2 ^ c.args.k))) =
    c.set.ensures ∙ ap (slice_set c.args.self.now (c.args.number % 4096)) (λ i. bit_and (c.mask-mask.ensures i) (bit_not w16 (c.bit.ensures i))) in
    subst (λ (hs : List ℕ). CoversBut c.args.k c.args.number hs c.args.self.now) (sym is) (bit_cleared c.args.self.now c.args.k c.args.number c.if-k-lt-BITS.true)
