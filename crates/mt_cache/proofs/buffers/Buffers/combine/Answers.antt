use Rattle.std.proofs.Common.{◌≡◌, ◌∙◌, ◌++◌, ◌∷◌, [], sym, ap, Some, None, true, List, arith}
use Rattle.std.specs.List.{position}
use Rattle.mt_cache.specs.declared.line.CacheLine.{CacheLine}
use Rattle.mt_cache.specs.Lines.{has_number, find_line}
use Rattle.mt_cache.specs.Lines.{oldest_of_full}
use Rattle.mt_cache.specs.Calls.{with_room, change_at, write_word}
use Rattle.mt_cache.proofs.Lists.{absent_line}
use Rattle.mt_cache.proofs.Combined.{absent_out, absent_left, full_out, full_left, part_out, part_left}
use Rattle.mt_cache.proofs.buffers.Buffers.combine.Goals as goal

pub add-requires : goal.add-requires
add-requires c =
    let absent : find_line c.args.number c.self.inside.lines.items ≡ None =
    absent_line c.args.number c.self.inside.lines.items _ (c.place_of.ensures ∙ ap (position (has_number c.args.number)) c.as_slice.ensures.value) c.in_default.not-Some in
    (omega arith, (omega arith, (c.self.invariant, (ap (λ (l : CacheLine). find_line l.number c.self.inside.lines.items) c.first_written.ensures.line ∙ absent, c.first_written.ensures.whole))))

pub returns-in_default-clause-out : goal.returns-in_default-clause-out
returns-in_default-clause-out c =
    let absent : find_line c.args.number c.args.self.now ≡ None =
    absent_line c.args.number c.args.self.now _ (c.place_of.ensures ∙ ap (position (has_number c.args.number)) (c.as_slice.ensures.value ∙ c.self.view_is)) c.in_default.not-Some in
    c.add.ensures.out ∙ ap (oldest_of_full 4) c.self.view_is ∙ absent_out c.args.number c.args.word c.args.v c.args.era c.args.self.now absent

pub returns-in_default-clause-lines : goal.returns-in_default-clause-lines
returns-in_default-clause-lines c =
    let absent : find_line c.args.number c.args.self.now ≡ None =
    absent_line c.args.number c.args.self.now _ (c.place_of.ensures ∙ ap (position (has_number c.args.number)) (c.as_slice.ensures.value ∙ c.self.view_is)) c.in_default.not-Some in
    c.add.ensures.lines
    ∙ ap (λ (ls : List CacheLine). with_room 4 ls ++ c.first_written.result ∷ []) c.self.view_is
    ∙ ap (λ (l : CacheLine). with_room 4 c.args.self.now ++ l ∷ []) c.first_written.ensures.line
    ∙ absent_left c.args.number c.args.word c.args.v c.args.era c.args.self.now c.requires absent

pub returns-then-has_all_words-clause-out : goal.returns-then-has_all_words-clause-out
returns-then-has_all_words-clause-out c =
    let at : position (has_number c.args.number) c.args.self.now ≡ Some c.in-Some.i =
    sym (c.place_of.ensures ∙ ap (position (has_number c.args.number)) (c.as_slice.ensures.value ∙ c.self.view_is)) ∙ c.in-Some.is in
    full_out c.args.number c.args.word c.args.v c.args.era c.in-Some.i c.args.self.now c.put_at.new.lines.items c.as_slice-2.result.now _ c.take_at.result at
    (c.put_at.ensures.lines ∙ ap (change_at c.in-Some.i (write_word c.args.word c.args.v true)) c.self.view_is)
    c.as_slice-2.ensures.value (sym c.has_all_words.ensures ∙ c.if-has_all_words.true) c.take_at.ensures.line

pub returns-then-has_all_words-clause-lines : goal.returns-then-has_all_words-clause-lines
returns-then-has_all_words-clause-lines c =
    let at : position (has_number c.args.number) c.args.self.now ≡ Some c.in-Some.i =
    sym (c.place_of.ensures ∙ ap (position (has_number c.args.number)) (c.as_slice.ensures.value ∙ c.self.view_is)) ∙ c.in-Some.is in
    c.take_at.ensures.lines ∙ full_left c.args.number c.args.word c.args.v c.args.era c.in-Some.i c.args.self.now c.put_at.new.lines.items c.as_slice-2.result.now _ c.take_at.result at
    (c.put_at.ensures.lines ∙ ap (change_at c.in-Some.i (write_word c.args.word c.args.v true)) c.self.view_is)
    c.as_slice-2.ensures.value (sym c.has_all_words.ensures ∙ c.if-has_all_words.true) c.take_at.ensures.line

pub returns-else-has_all_words-clause-out : goal.returns-else-has_all_words-clause-out
returns-else-has_all_words-clause-out c =
    let at : position (has_number c.args.number) c.args.self.now ≡ Some c.in-Some.i =
    sym (c.place_of.ensures ∙ ap (position (has_number c.args.number)) (c.as_slice.ensures.value ∙ c.self.view_is)) ∙ c.in-Some.is in
    part_out c.args.number c.args.word c.args.v c.args.era c.in-Some.i c.args.self.now c.put_at.new.lines.items c.as_slice-2.result.now _ at
    (c.put_at.ensures.lines ∙ ap (change_at c.in-Some.i (write_word c.args.word c.args.v true)) c.self.view_is)
    c.as_slice-2.ensures.value (sym c.has_all_words.ensures ∙ c.if-has_all_words.false)

pub returns-else-has_all_words-clause-lines : goal.returns-else-has_all_words-clause-lines
returns-else-has_all_words-clause-lines c =
    let at : position (has_number c.args.number) c.args.self.now ≡ Some c.in-Some.i =
    sym (c.place_of.ensures ∙ ap (position (has_number c.args.number)) (c.as_slice.ensures.value ∙ c.self.view_is)) ∙ c.in-Some.is in
    part_left c.args.number c.args.word c.args.v c.args.era c.in-Some.i c.args.self.now c.put_at.new.lines.items c.as_slice-2.result.now _ at
    (c.put_at.ensures.lines ∙ ap (change_at c.in-Some.i (write_word c.args.word c.args.v true)) c.self.view_is)
    c.as_slice-2.ensures.value (sym c.has_all_words.ensures ∙ c.if-has_all_words.false)
