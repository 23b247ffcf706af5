use Rattle.std.proofs.Common.{◌≡◌, drop, false}
use Rattle.mt_memory.specs.Finding.{word_behind}
use Rattle.mt_memory.proofs.finding.next_word.Given as goal

abbrev pub invariant-loop-i : goal.invariant-loop-i
invariant-loop-i l = word_behind l.left (drop l.i l.line) ≡ word_behind false l.line
