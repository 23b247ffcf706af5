use Rattle.std.proofs.Common.{◌≡◌, drop}
use Rattle.std.specs.List.{fold}
use Rattle.mt_cli.specs.Measured.{plus, words_sum}
use Rattle.mt_cli.proofs.measured.words_sum.Given as goal

abbrev pub invariant-loop-i : goal.invariant-loop-i
invariant-loop-i l = fold plus l.sum (drop l.i l.ram.words) ≡ words_sum l.ram.words
