use Rattle.std.proofs.Common.{◌+◌, map, drop, ap, sym, arith, ◌∙◌, Some, None}
use Rattle.std.specs.Prelude.{string_bytes}
use Rattle.mt_import.specs.Supplied.{given_of, with_words}
use Rattle.mt_import.proofs.Words.{next_supplied, next_word}
use Rattle.mt_import.proofs.supplied.with_words.Goals as goal

pub returns-in_default : goal.returns-in_default
returns-in_default c =
    let next = next_word string_bytes c.args.words.now c.words.i c.index-words-i.result c.words-test.true c.index-words-i.is in
    let given = ap given_of (sym c.as_bytes.ensures.value) ∙ sym c.given_of.ensures.given ∙ c.in_default.is in
    sym (next_supplied c.words.supplied _ _ _ None next given) ∙ c.words.invariant.rest

pub returns-then-not-add : goal.returns-then-not-add
returns-then-not-add c =
    let next = next_word string_bytes c.args.words.now c.words.i c.index-words-i.result c.words-test.true c.index-words-i.is in
    let given = ap given_of (sym c.as_bytes.ensures.value) ∙ sym c.given_of.ensures.given ∙ c.in-Some.is in
    let rest = drop (c.words.i + 1) (map string_bytes c.args.words.now) in
    sym (next_supplied c.words.supplied _ _ _ (Some c.in-Some.given) next given ∙ ap (λ o. with_words o rest) (c.add.ensures.twice c.if-not-add.true)) ∙ c.words.invariant.rest

pub words-preserved : goal.words-preserved
words-preserved c =
    let next = next_word string_bytes c.args.words.now c.words.i c.index-words-i.result c.words-test.true c.index-words-i.is in
    let given = ap given_of (sym c.as_bytes.ensures.value) ∙ sym c.given_of.ensures.given ∙ c.in-Some.is in
    let rest = drop (c.words.i + 1) (map string_bytes c.args.words.now) in
    record {
      within = omega (arith, c.words-test.true);
      rest = sym (next_supplied c.words.supplied _ _ _ (Some c.in-Some.given) next given ∙ ap (λ o. with_words o rest) (c.add.ensures.added c.if-not-add.false)) ∙ c.words.invariant.rest;
      size = omega (arith, c.add.ensures.size, c.words.invariant.size);
    }
