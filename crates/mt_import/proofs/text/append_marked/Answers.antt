use Rattle.std.proofs.Common.{◌≤◌, ◌<◌, ◌∙◌, length, length-append, ap, arith}
use Rattle.std.specs.Prelude.{decimal}
use Rattle.std.proofs.lemmas.Fmt.{length-decimal-le}
use Rattle.mt_import.proofs.text.append_marked.Goals as goal

pub returns-clause-short : goal.returns-clause-short
returns-clause-short c =
    let few : c.args.k < 100 = omega (arith, c.requires.few) in
    let digits : length (decimal c.args.k) ≤ 2 = length-decimal-le 2 c.args.k (omega arith) few (omega (arith, c.requires.few)) in
    let one = ap length c.append.ensures ∙ length-append c.args.text.now.items c.args.mark.now in
    let all = ap length c.append_decimal.ensures.text ∙ length-append c.append.new.line.items (decimal c.args.k) in
    omega (arith, digits, one, all, c.requires.one)
