use Rattle.std.proofs.Common.{◌∙◌, ap}
use Rattle.std.proofs.lemmas.Bool.{eq-eqb}
use Rattle.std.specs.List.{position}
use Rattle.mt_cache.specs.Lines.{has_number}
use Rattle.mt_cache.proofs.Ordered.{found_here, found_nowhere}
use Rattle.mt_cache.proofs.slots.Slots.place_of.Goals as goal

pub returns-then-self-i : goal.returns-then-self-i
returns-then-self-i c =
    let i = c.self.invariant in
    found_here (has_number c.args.number) _ _ _ c.loop-i.i i.0 i.2 c.loop-i-test.true c.loop-i.invariant (eq-eqb _ _ c.if-self-i.true)
    ∙ ap (position (has_number c.args.number)) c.self.view_is

pub returns : goal.returns
returns c =
    let i = c.self.invariant in
    found_nowhere (has_number c.args.number) _ _ c.loop-i.i _ i.0 i.2 c.loop-i-test.false c.loop-i.invariant
    ∙ ap (position (has_number c.args.number)) c.self.view_is
