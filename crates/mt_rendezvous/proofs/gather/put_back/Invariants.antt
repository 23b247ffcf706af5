use Rattle.std.proofs.Common.{◌≡◌, drop, length, take}
use Rattle.std.specs.Mem.Slots.{slots_items}
use Rattle.mt_rendezvous.proofs.gather.put_back.Given as goal

abbrev pub invariant-loop-i : goal.invariant-loop-i
invariant-loop-i l = record {
  len : length l.words ≡ length l.initial.words;
  done : take l.i l.words ≡ take l.i (drop l.first (slots_items l.closed.words));
}
