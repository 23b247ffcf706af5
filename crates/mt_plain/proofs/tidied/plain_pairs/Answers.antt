use Rattle.std.proofs.Common.{◌≡◌, ◌∙◌, ◌+◌, ◌<◌, ◌∷◌, ◌++◌, [], ap, sym, suc, arith, drop, drop-cons, get_or, length, map, take, true, ℕ}
use Rattle.std.specs.List.{list_all}
use Rattle.std.proofs.lemmas.Bool.{and_parts}
use Rattle.std.proofs.lemmas.List.{drop-set-lt, length-set, map_push, take_more, take_more_set}
use Rattle.mt_plain.specs.Plain.{as_pair, is_zero_pair}
use Rattle.mt_plain.specs.declared.plain.PlainPair.{PlainPair}
use Rattle.mt_plain.proofs.tidied.plain_pairs.Goals as goal

abbrev zeros : PlainPair
zeros = record { base = 0; mask = 0 }

pub loop-i-preserved : goal.loop-i-preserved
loop-i-preserved c =
    let inner : c.loop-i.i < length c.args.pairs.now = omega (arith, c.loop-i-test.true) in
    let room : c.loop-i.i < length c.loop-i.plain = omega (arith, inner, c.requires, c.loop-i.invariant.long) in
    let next : suc c.loop-i.i ≡ c.loop-i.i + 1 = omega arith in
    let rest : drop c.loop-i.i c.loop-i.plain ≡ get_or c.loop-i.plain c.loop-i.i zeros ∷ drop (c.loop-i.i + 1) c.loop-i.plain =
    drop-cons c.loop-i.plain c.loop-i.i zeros room ∙ ap (λ (n : ℕ). get_or c.loop-i.plain c.loop-i.i zeros ∷ drop n c.loop-i.plain) next in
    let later : list_all is_zero_pair (get_or c.loop-i.plain c.loop-i.i zeros ∷ drop (c.loop-i.i + 1) c.loop-i.plain) ≡ true =
    sym (ap (list_all is_zero_pair) rest) ∙ c.loop-i.invariant.others in
    record {
      pairs =
          ap (map as_pair) (take_more_set c.loop-i.plain c.loop-i.i c.pair_from.result room)
          ∙ map_push as_pair (take c.loop-i.i c.loop-i.plain) c.pair_from.result
          ∙ ap (λ xs. xs ++ as_pair c.pair_from.result ∷ []) c.loop-i.invariant.pairs
          ∙ ap (λ q. take c.loop-i.i c.args.pairs.now ++ q ∷ []) c.pair_from.ensures
          ∙ sym (take_more c.args.pairs.now c.loop-i.i _ inner);
      others =
          ap (list_all is_zero_pair) (drop-set-lt (c.loop-i.i + 1) c.loop-i.plain c.loop-i.i c.pair_from.result (omega arith))
          ∙ (and_parts (is_zero_pair (get_or c.loop-i.plain c.loop-i.i zeros)) (list_all is_zero_pair (drop (c.loop-i.i + 1) c.loop-i.plain)) later).1;
      long = length-set c.loop-i.plain c.loop-i.i c.pair_from.result ∙ c.loop-i.invariant.long;
    }
