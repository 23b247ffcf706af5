use Rattle.std.proofs.Common.{◌≡◌, length, take}
use Rattle.mt_private.specs.Own.{own_memory, pages_of}
use Rattle.mt_private.proofs.rooms.copy_words.Given as goal

abbrev pub invariant-loop-i : goal.invariant-loop-i
invariant-loop-i l = record {
  windows : l.own.windows ≡ l.ram.windows;
  len : length l.own.words ≡ length l.ram.words;
  done : take l.i l.own.words ≡ take l.i (own_memory (pages_of l.cpu) l.ram).words;
  asked : l.asked.is_named ≡ pages_of l.cpu l.asked.page;
}
