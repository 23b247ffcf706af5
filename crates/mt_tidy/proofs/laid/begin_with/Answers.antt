use Rattle.std.proofs.Common.{◌++◌, ◌∙◌, ap, length, subst, sym}
use Rattle.std.proofs.lemmas.List.{append-nil, length_push}
use Rattle.mt_tidy.specs.Fits.{Chosen, context_with, ranges_on}
use Rattle.mt_tidy.proofs.Rooms.{room_behind_one, room_for_one, room_is}
use Rattle.mt_tidy.proofs.laid.begin_with.Goals as goal

pub returns-in-None-clause-context : goal.returns-in-None-clause-context
returns-in-None-clause-context c = ap (context_with c.args.x) (sym c.in-None.is ∙ c.range_at.ensures)

pub returns-in-None-clause-ranges : goal.returns-in-None-clause-ranges
returns-in-None-clause-ranges c =
    let range = sym c.in-None.is ∙ c.range_at.ensures in
    sym (append-nil c.args.out.now.items) ∙ ap (λ r. c.args.out.now.items ++ ranges_on c.args.b.now.first c.args.b.now.log r) range

pub returns-in-None-clause-room : goal.returns-in-None-clause-room
returns-in-None-clause-room c = λ k h is room.
    room_is _ _ c.args.out.now.items (subst (Chosen k c.args.b.now.log h c.args.x) (sym c.range_at.ensures ∙ c.in-None.is) (is c.args.x)) room

pub push_range-requires : goal.push_range-requires
push_range-requires c =
    let k = c.requires.room.0 in
    let h = c.requires.room.1 in
    let chosen = subst (Chosen k c.args.b.now.log h c.args.x) (sym c.range_at.ensures ∙ c.in-Some.is) (c.requires.room.2 c.args.x) in
    room_for_one _ c.args.out.now.items (room_is _ _ c.args.out.now.items chosen.2 c.requires.room.3)

pub returns-in-Some-clause-context : goal.returns-in-Some-clause-context
returns-in-Some-clause-context c = c.with_type.ensures ∙ ap (context_with c.args.x) (sym c.in-Some.is ∙ c.range_at.ensures)

pub returns-in-Some-clause-ranges : goal.returns-in-Some-clause-ranges
returns-in-Some-clause-ranges c =
    let range = sym c.in-Some.is ∙ c.range_at.ensures in
    c.push_range.ensures ∙ ap (λ r. c.args.out.now.items ++ ranges_on c.args.b.now.first c.args.b.now.log r) range

pub returns-in-Some-clause-room : goal.returns-in-Some-clause-room
returns-in-Some-clause-room c = λ k h is room.
    let chosen = subst (Chosen k c.args.b.now.log h c.args.x) (sym c.range_at.ensures ∙ c.in-Some.is) (is c.args.x) in
    rw c.with_type.ensures
    (room_behind_one _ c.args.out.now.items _ (room_is _ _ c.args.out.now.items chosen.2 room)
    (ap length c.push_range.ensures ∙ length_push c.args.out.now.items (record { first = c.args.b.now.first; log = c.args.b.now.log; kind = c.in-Some.t })))
