use Rattle.std.proofs.Common.{◌≡◌, ◌∙◌, ap, sym, subst, ◌%◌, ◌^◌, bit_or, List, ℕ}
use Rattle.std.specs.Prelude.{slice_set}
use Rattle.mt_bus.specs.Holders.{Covers, mask_of, may_hold}
use Rattle.mt_bus.proofs.Masks.{bit_added, bit_covers}
use Rattle.mt_bus.proofs.holders.Holders.add.Goals as goal

-- the mask that is put in
is : (old new : List ℕ) (n mask one k : ℕ) → new ≡ slice_set old (n % 4096) (bit_or mask one) → mask ≡ mask_of old n → one ≡ 2 ^ k → new ≡ slice_set old (n % 4096) (bit_or (mask_of old n) (2 ^ k))
is old new n mask one k set of bit = set ∙ ap (slice_set old (n % 4096)) (λ i. bit_or (of i) (bit i))

pub returns-then-k-lt-BITS-clause-added : goal.returns-then-k-lt-BITS-clause-added
returns-then-k-lt-BITS-clause-added c =
    ap (λ (hs : List ℕ). may_hold hs c.args.k c.args.number) (is c.args.self.now c.set.new.self c.args.number c.mask-mask.result c.bit.result c.args.k c.set.ensures c.mask-mask.ensures c.bit.ensures)
    ∙ bit_added c.args.self.now c.args.k c.args.number c.if-k-lt-BITS.true

pub returns-then-k-lt-BITS-clause-kept : goal.returns-then-k-lt-BITS-clause-kept
returns-then-k-lt-BITS-clause-kept c =
    subst (λ (hs : List ℕ). Covers hs c.args.self.now)
    (sym (is c.args.self.now c.set.new.self c.args.number c.mask-mask.result c.bit.result c.args.k c.set.ensures c.mask-mask.ensures c.bit.ensures))
    (bit_covers c.args.self.now c.args.k c.args.number)
