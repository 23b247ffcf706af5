use Rattle.std.proofs.Common.{◌≡◌, ◌∙◌, sym, ap, None}
use Rattle.std.specs.List.{position}
use Rattle.mt_cache.specs.Lines.{has_number}
use Rattle.mt_lists.proofs.Keys.{no_position, place_found, place_missed}
use Rattle.mt_cache.proofs.Counted.{not_counted}
use Rattle.mt_cache.proofs.cache.Cache.find.Goals as goal
use Rattle.mt_cache.proofs.cache.Cache.find.Goals.{Else-may_have}

pub returns-then-may_have-clause-line : goal.returns-then-may_have-clause-line
returns-then-may_have-clause-line c = place_found (has_number c.args.number) c.args.self.now _ (c.place_near.ensures ∙ ap (position (has_number c.args.number)) c.self.view_is)

pub returns-then-may_have-clause-absent : goal.returns-then-may_have-clause-absent
returns-then-may_have-clause-absent c = place_missed (has_number c.args.number) c.args.self.now _ (c.place_near.ensures ∙ ap (position (has_number c.args.number)) c.self.view_is)

absent : (c : Else-may_have) → position (has_number c.args.number) c.args.self.now ≡ None
absent c =
    sym (ap (position (has_number c.args.number)) c.self.view_is)
    ∙ not_counted c.args.number _ _ c.self.invariant.1 (sym c.may_have.ensures ∙ c.if-may_have.false)

pub returns-else-may_have-clause-value : goal.returns-else-may_have-clause-value
returns-else-may_have-clause-value c = sym (absent c)

pub returns-else-may_have-clause-absent : goal.returns-else-may_have-clause-absent
returns-else-may_have-clause-absent c = no_position (has_number c.args.number) c.args.self.now (absent c)
