use Rattle.std.proofs.Common.{◌≡◌, ◌∙◌, sym, true, false}
use Rattle.mt_tidy.proofs.NoFault.{none_at_fault}
use Rattle.mt_tidy.proofs.sound.is_sound.Goals as goal

pub returns-then-not-has_fixed : goal.returns-then-not-has_fixed
returns-then-not-has_fixed c = λ _.
    none_at_fault c.args.f.now (c.are_pairs_sound.ensures c.if-not-are_pairs_sound.false)
    (λ has. let none : false ≡ true = sym c.if-not-has_fixed.true ∙ c.has_fixed.ensures ∙ has in absurd (cc none))
    (c.is_pat_sound.ensures c.if-not-is_pat_sound.false) (c.is_default_sound.ensures c.if-not-is_default_sound.false)

pub returns-else-not-has_fixed : goal.returns-else-not-has_fixed
returns-else-not-has_fixed c = λ passed.
    none_at_fault c.args.f.now (c.are_pairs_sound.ensures c.if-not-are_pairs_sound.false)
    (λ _. c.are_fixed_sound.ensures passed)
    (c.is_pat_sound.ensures c.if-not-is_pat_sound.false) (c.is_default_sound.ensures c.if-not-is_default_sound.false)
