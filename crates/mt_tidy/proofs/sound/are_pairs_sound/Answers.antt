use Rattle.std.proofs.Common.{◌∙◌, ap, subst, below_more}
use Rattle.mt_regs.specs.RegisterFile.{pair_at}
use Rattle.mt_tidy.specs.Sound.{IsPairValue}
use Rattle.mt_tidy.proofs.sound.are_pairs_sound.Goals as goal

pub loop-pair-preserved : goal.loop-pair-preserved
loop-pair-preserved c =
    below_more _ _ c.loop-pair.invariant
    (subst (λ ps. IsPairValue c.args.f.now (pair_at ps c.loop-pair.pair-index)) (c.as_slice-pair-items.ensures.value ∙ ap (λ g. g.pairs) c.f.view_is)
    (c.is_pair_sound.ensures c.if-not-is_pair_sound.false))
