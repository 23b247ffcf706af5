use Rattle.std.proofs.Common.{◌∙◌, ap, arith, List, [], ◌∷◌, ◌++◌, length, Option, None, rules}
use Rattle.std.proofs.lemmas.List.{length-replicate}
use Rattle.mt_machine.specs.System.{System}
use Rattle.mt_private.proofs.Lists.{replicate_more}
use Rattle.mt_private.proofs.gather.places_for.Goals as goal

pub loop-i-preserved : goal.loop-i-preserved
loop-i-preserved c = record {
  items = c.push_reserved.ensures.items ∙ ap (λ (l : List (Option System)). l ++ None ∷ []) c.loop-i.invariant.items ∙ replicate_more c.loop-i.i None;
  room = search rules;
}

pub push_reserved-requires : goal.push_reserved-requires
push_reserved-requires c =
    let n = ap (λ (l : List (Option System)). length l) c.loop-i.invariant.items ∙ length-replicate c.loop-i.i None in
    let room = c.loop-i.invariant.room in
    let test = c.loop-i-test.true in
    omega arith
