use Rattle.std.proofs.Common.{◌≡◌, ◌∙◌, ap, sym, subst, None, Some}
use Rattle.std.specs.List.{position}
use Rattle.std.proofs.lemmas.Bool.{eqb-true, eqb-false}
use Rattle.mt_tlb.specs.Entries.{set_mapping, is_full_for}
use Rattle.mt_lists.proofs.Keys.{no_position, none_of}
use Rattle.mt_tlb.specs.Entries.{maps_page, find_mapping, AreMappingsApart}
use Rattle.mt_tlb.proofs.Mappings.{full_for, room_for, added, added_apart, never_full, replaced, set_apart}
use Rattle.mt_tlb.proofs.maps.Maps.set.Goals as goal

pub returns-then-is_full-clause-full : goal.returns-then-is_full-clause-full
returns-then-is_full-clause-full c =
    let absent : find_mapping c.args.x.vpage c.self.inside.list.items ≡ None =
    no_position (maps_page c.args.x.vpage) c.self.inside.list.items (sym (c.place_of.ensures ∙ ap (position (maps_page c.args.x.vpage)) c.as_slice.ensures.value) ∙ none_of _ c.in_default.not-Some) in
    full_for c.args.x c.self.inside.list.items absent (eqb-true _ _ (sym c.is_full.ensures.value ∙ c.if-is_full.true)) ∙ ap (is_full_for c.args.x) c.self.view_is

pub invariant_of-self : goal.invariant_of-self
invariant_of-self c =
    let absent : find_mapping c.args.x.vpage c.self.inside.list.items ≡ None =
    no_position (maps_page c.args.x.vpage) c.self.inside.list.items (sym (c.place_of.ensures ∙ ap (position (maps_page c.args.x.vpage)) c.as_slice.ensures.value) ∙ none_of _ c.in_default.not-Some) in
    subst AreMappingsApart (sym c.push.ensures.items) (added_apart c.args.x c.self.inside.list.items absent c.self.invariant)

pub returns-in_default-clause-full : goal.returns-in_default-clause-full
returns-in_default-clause-full c =
    let absent : find_mapping c.args.x.vpage c.self.inside.list.items ≡ None =
    no_position (maps_page c.args.x.vpage) c.self.inside.list.items (sym (c.place_of.ensures ∙ ap (position (maps_page c.args.x.vpage)) c.as_slice.ensures.value) ∙ none_of _ c.in_default.not-Some) in
    room_for c.args.x c.self.inside.list.items absent (eqb-false _ _ (sym c.is_full.ensures.value ∙ c.if-is_full.false)) ∙ ap (is_full_for c.args.x) c.self.view_is

pub returns-in_default-clause-done : goal.returns-in_default-clause-done
returns-in_default-clause-done c =
    let absent : find_mapping c.args.x.vpage c.self.inside.list.items ≡ None =
    no_position (maps_page c.args.x.vpage) c.self.inside.list.items (sym (c.place_of.ensures ∙ ap (position (maps_page c.args.x.vpage)) c.as_slice.ensures.value) ∙ none_of _ c.in_default.not-Some) in
    c.push.ensures.items ∙ added c.args.x c.self.inside.list.items absent ∙ ap (set_mapping c.args.x) c.self.view_is

pub invariant_of-self-2 : goal.invariant_of-self-2
invariant_of-self-2 c =
    let at : position (maps_page c.args.x.vpage) c.self.inside.list.items ≡ Some c.in-Some.i =
    sym (c.place_of.ensures ∙ ap (position (maps_page c.args.x.vpage)) c.as_slice.ensures.value) ∙ c.in-Some.is in
    subst AreMappingsApart (sym (replaced c.args.x c.self.inside.list.items _ c.in-Some.i c.as_mut_slice.ensures.value at c.self.invariant)) (set_apart c.args.x c.self.inside.list.items c.in-Some.i at c.self.invariant)

pub returns-clause-full : goal.returns-clause-full
returns-clause-full c =
    let at : position (maps_page c.args.x.vpage) c.self.inside.list.items ≡ Some c.in-Some.i =
    sym (c.place_of.ensures ∙ ap (position (maps_page c.args.x.vpage)) c.as_slice.ensures.value) ∙ c.in-Some.is in
    never_full c.args.x c.self.inside.list.items c.in-Some.i at ∙ ap (is_full_for c.args.x) c.self.view_is

pub returns-clause-done : goal.returns-clause-done
returns-clause-done c =
    let at : position (maps_page c.args.x.vpage) c.self.inside.list.items ≡ Some c.in-Some.i =
    sym (c.place_of.ensures ∙ ap (position (maps_page c.args.x.vpage)) c.as_slice.ensures.value) ∙ c.in-Some.is in
    replaced c.args.x c.self.inside.list.items _ c.in-Some.i c.as_mut_slice.ensures.value at c.self.invariant ∙ ap (set_mapping c.args.x) c.self.view_is
