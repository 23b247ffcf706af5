use Rattle.std.proofs.Common.{◌≡◌, drop}
use Rattle.std.specs.List.{fold}
use Rattle.mt_cache.specs.Lines.{eight}
use Rattle.mt_machine.specs.Memory.{write_back, write_back_word}
use Rattle.mt_list_machine.specs.Parts.{memory}
use Rattle.mt_list_machine.proofs.ram.write_back.Given as goal

abbrev pub invariant-loop-word : goal.invariant-loop-word
invariant-loop-word l = fold (write_back_word l.line) (memory l.layout l.words) (drop l.word eight) ≡ write_back (memory l.layout l.fn.words) l.line
