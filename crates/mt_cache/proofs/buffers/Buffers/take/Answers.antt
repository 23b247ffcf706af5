use Rattle.std.proofs.Common.{◌≡◌, ◌∙◌, sym, ap, Some, slice_get, List}
use Rattle.std.specs.List.{position}
use Rattle.mt_cache.specs.declared.line.CacheLine.{CacheLine}
use Rattle.mt_cache.specs.Lines.{has_number, without_line}
use Rattle.mt_lists.proofs.Keys.{at_position, found_key}
use Rattle.mt_cache.proofs.Lists.{number_of, absent_line, without_absent}
use Rattle.mt_cache.proofs.buffers.Buffers.take.Goals as goal

pub returns-in_default-clause-out : goal.returns-in_default-clause-out
returns-in_default-clause-out c =
    sym (absent_line c.args.number c.args.self.now _ (c.place_of.ensures ∙ ap (position (has_number c.args.number)) (c.as_slice.ensures.value ∙ c.self.view_is)) c.in_default.not-Some)

pub returns-in_default-clause-lines : goal.returns-in_default-clause-lines
returns-in_default-clause-lines c =
    sym (without_absent c.args.number c.args.self.now (sym (returns-in_default-clause-out c)))

pub returns-clause-out : goal.returns-clause-out
returns-clause-out c =
    let at : position (has_number c.args.number) c.args.self.now ≡ Some c.in-Some.i =
    sym (c.place_of.ensures ∙ ap (position (has_number c.args.number)) (c.as_slice.ensures.value ∙ c.self.view_is)) ∙ c.in-Some.is in
    sym c.take_at.ensures.line ∙ ap (λ (ls : List CacheLine). slice_get ls c.in-Some.i) c.self.view_is ∙ at_position (has_number c.args.number) c.args.self.now c.in-Some.i at

pub returns-clause-lines : goal.returns-clause-lines
returns-clause-lines c =
    c.take_at.ensures.lines
    ∙ ap (without_line c.take_at.result.number) c.self.view_is
    ∙ ap (λ n. without_line n c.args.self.now) (found_key number_of c.args.number c.args.self.now c.take_at.result (sym (returns-clause-out c)))
