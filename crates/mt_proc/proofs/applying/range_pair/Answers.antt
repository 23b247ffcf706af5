use Rattle.std.proofs.Common.{◌≡◌, ◌∙◌, ◌+◌, ap, arith, ℕ, Some}
use Rattle.mt_proc.proofs.Sizes.{block_pair}
use Rattle.mt_proc.proofs.applying.range_pair.Goals as goal

pair_is : (p : ℕ × ℕ) (a b : ℕ) → p.0 ≡ a → p.1 ≡ b → p ≡ (a, b)
pair_is p a b first second = λ i. (first i, second i)

pub returns-in-Some : goal.returns-in-Some
returns-in-Some c =
    let (good, is, power, within) = c.in-Some.ensures in
    let values = block_pair c.args.base c.args.size c.in-Some.block.first c.in-Some.block.log c.args.m c.byte.result (omega (arith, c.requires.low)) is power within in
    rw good (ap Some (pair_is c.pair_of.result _ _ (c.pair_of.ensures.base ∙ values.0 ∙ ap (λ b. c.args.base + b) c.byte.ensures) (c.pair_of.ensures.mask ∙ values.1)))
