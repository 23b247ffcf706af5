use Rattle.std.proofs.Common.{◌<◌, ◌∷◌, ◌++◌, ◌∙◌, [], ap, arith, length, sym, take}
use Rattle.std.proofs.lemmas.List.{length-set, take_more, take_more_set}
use Rattle.mt_gran.proofs.run_list.unpacked.Goals as goal

pub loop-i-preserved : goal.loop-i-preserved
loop-i-preserved g c =
    let inner : c.loop-i.i < length c.args.runs.now = omega (arith, c.loop-i-test.true, c.count-i-end.ensures) in
    let room : c.loop-i.i < length c.loop-i.places = omega (arith, inner, c.loop-i.invariant.1, c.requires) in (
      take_more_set c.loop-i.places c.loop-i.i c.run_at.result room
          ∙ ap (λ xs. xs ++ c.run_at.result ∷ []) c.loop-i.invariant.0
          ∙ ap (λ r. take c.loop-i.i c.args.runs.now ++ r ∷ []) (c.run_at.ensures c.run_at.result)
          ∙ sym (take_more c.args.runs.now c.loop-i.i c.run_at.result inner),
      length-set c.loop-i.places c.loop-i.i c.run_at.result ∙ c.loop-i.invariant.1,
    )
