use Rattle.std.proofs.Common.{◌∙◌, ap, sym, below_more, Option, ℕ}
use Rattle.std.specs.Prelude.{is_some}
use Rattle.std.specs.List.{position}
use Rattle.mt_cache.specs.Calls.{has_dirty_word}
use Rattle.mt_cache.proofs.Ordered.{found_here, found_nowhere}
use Rattle.mt_cache.proofs.slots.Slots.first_with_dirty.Goals as goal

pub returns-then-is_some : goal.returns-then-is_some
returns-then-is_some c =
    let i = c.self.invariant in
    found_here has_dirty_word _ _ _ c.loop-i.i i.0 i.2 c.loop-i-test.true c.loop-i.invariant
    (ap (λ (o : Option ℕ). is_some o) (sym c.first_word.ensures) ∙ sym c.is_some.ensures ∙ c.if-is_some.true)
    ∙ ap (position has_dirty_word) c.self.view_is

pub loop-i-preserved : goal.loop-i-preserved
loop-i-preserved c =
    below_more _ _ c.loop-i.invariant
    (ap (λ (o : Option ℕ). is_some o) (sym c.first_word.ensures) ∙ sym c.is_some.ensures ∙ c.if-is_some.false)

pub returns : goal.returns
returns c =
    let i = c.self.invariant in
    found_nowhere has_dirty_word _ _ c.loop-i.i _ i.0 i.2 c.loop-i-test.false c.loop-i.invariant
    ∙ ap (position has_dirty_word) c.self.view_is
