use Rattle.std.proofs.Common.{◌≡◌, ◌%◌, ◌^◌, take}
use Rattle.std.specs.Prelude.{sum}
use Rattle.mt_replay.proofs.summing.word_sum.Given as goal

abbrev pub invariant-words : goal.invariant-words
invariant-words l = l.total ≡ sum (take l.i l.ram.words) % 2 ^ 64
