use Rattle.std.proofs.Common.{◌≡◌, ◌≤◌, ◌*◌, take}
use Rattle.mt_machine.specs.Update.{dirty_count}
use Rattle.mt_replay.proofs.texts.dirty_count.Given as goal

abbrev pub invariant-lines : goal.invariant-lines
invariant-lines l = record {
  value : l.count ≡ dirty_count (take l.i l.cache);
  few : l.count ≤ 8 * l.i;
}
