use Rattle.std.proofs.Common.{◌∙◌, ap, sym, arith, ◌+◌, drop, ℕ}
use Rattle.std.specs.List.{fold}
use Rattle.std.proofs.lemmas.List.{drop_more}
use Rattle.mt_cli.specs.Measured.{plus}
use Rattle.mt_cli.proofs.measured.words_sum.Goals as goal

pub loop-i-preserved : goal.loop-i-preserved
loop-i-preserved c =
    let words = c.args.ram.now.words in
    let i = c.loop-i.i in
    ap (λ (s : ℕ). fold plus s (drop (i + 1) words)) (ap (plus c.loop-i.sum) c.word-sum.ensures)
    ∙ sym (ap (fold plus c.loop-i.sum) (drop_more words i 0 (omega arith))) ∙ c.loop-i.invariant
