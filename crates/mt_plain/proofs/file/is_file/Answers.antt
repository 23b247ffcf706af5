use Rattle.std.proofs.Common.{rules, ◌≡◌, ◌∙◌, ap, sym, arith, replicate, take, length}
use Rattle.std.proofs.lemmas.List.{length-take-le, length-map}
use Rattle.mt_regs.specs.RegisterFile.{low_byte}
use Rattle.mt_plain.specs.Plain.{as_pair}
use Rattle.mt_plain.proofs.Zeros.{all_zeros}
use Rattle.mt_plain.proofs.file.is_file.Goals as goal

pub returns-else-is_bit_set-clause-meets : goal.returns-else-is_bit_set-clause-meets
returns-else-is_bit_set-clause-meets c = λ all. record {
  wide = search rules;
  narrow = search rules;
  few_pairs = omega (arith, c.if-count-gt32.false, c.pair_count-count.ensures.count);
  all_pairs =
      length-map (take (low_byte c.args.r.now.capabilities) c.args.r.now.pairs) as_pair
      ∙ length-take-le (low_byte c.args.r.now.capabilities) c.args.r.now.pairs (search rules);
  all_fixed = search rules;
  no_fixed = λ none.
      let len : length c.args.r.now.fixed ≡ 11 = search rules in
      all_zeros c.args.r.now.fixed (sym c.are_zero.ensures ∙ all) ∙ ap (λ n. replicate n 0) len;
}
