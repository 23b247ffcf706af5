use Rattle.std.proofs.Common.{◌≡◌, ◌∙◌, ◌+◌, sym, ap, drop, take, length, arith}
use Rattle.std.proofs.Math.Seq.{drop-length, take-length}
use Rattle.std.proofs.lemmas.List.{drop-drop}
use Rattle.mt_text.proofs.LineSteps.{ended_line, last_line}
use Rattle.mt_text.proofs.Order.{front_is, stand_in_source}
use Rattle.mt_text.proofs.line.next_line.Goals as goal

pub returns-in-Some-clause-lines : goal.returns-in-Some-clause-lines
returns-in-Some-clause-lines c =
    let first = ended_line c.split_at.result.1.now c.in-Some.at (sym c.line_end.ensures ∙ c.in-Some.is) in
    let sum : c.args.from + (c.in-Some.at + 1) ≡ c.args.from + c.in-Some.at + 1 = omega arith in
    let after : drop (c.in-Some.at + 1) c.split_at.result.1.now ≡ drop (c.args.from + c.in-Some.at + 1) c.args.source.now =
    ap (drop (c.in-Some.at + 1)) c.split_at.ensures.back ∙ drop-drop (c.in-Some.at + 1) c.args.from c.args.source.now ∙ ap (λ n. drop n c.args.source.now) sum in
    rw (c.split_at-in-Some.ensures.front, ← after, ← c.split_at.ensures.back) first

pub returns-in-None-clause-lines : goal.returns-in-None-clause-lines
returns-in-None-clause-lines c =
    let last = last_line c.split_at.result.1.now (sym c.line_end.ensures ∙ c.in-None.is) (sym c.is_empty.ensures ∙ c.if-is_empty.false) in
    rw (drop-length c.args.source.now, ← c.split_at.ensures.back) last

pub returns-in-Some-clause-words : goal.returns-in-Some-clause-words
returns-in-Some-clause-words c =
    let text = c.split_at.result.1.now in
    let line = c.split_at-in-Some.result.0.now in
    let part = front_is text line c.in-Some.at c.split_at-in-Some.ensures.front in
    stand_in_source c.args.source.now line c.args.from c.requires (part ∙ ap (λ t. take (length line) t) c.split_at.ensures.back)

pub returns-in-None-clause-words : goal.returns-in-None-clause-words
returns-in-None-clause-words c =
    let text = c.split_at.result.1.now in
    stand_in_source c.args.source.now text c.args.from c.requires (sym (take-length text) ∙ ap (λ t. take (length text) t) c.split_at.ensures.back)
