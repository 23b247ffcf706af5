use Rattle.std.proofs.Common.{◌≡◌, drop, length}
use Rattle.std.specs.List.{fold}
use Rattle.mt_cache.specs.Lines.{eight}
use Rattle.mt_machine.specs.Memory.{write_back, write_back_word}
use Rattle.mt_bus.proofs.words.write_back_at.Given as goal

abbrev pub invariant-loop-word : goal.invariant-loop-word
invariant-loop-word l = record {
  rest : fold (write_back_word l.line) l.ram (drop l.word eight) ≡ write_back l.fn.ram l.line;
  windows : l.ram.windows ≡ l.fn.ram.windows;
  count : length l.ram.words ≡ length l.fn.ram.words;
}
