use Rattle.std.proofs.Common.{◌≡◌, true, drop, length, map, take}
use Rattle.std.specs.List.{list_all}
use Rattle.mt_plain.specs.Plain.{as_pair, is_zero_pair}
use Rattle.mt_plain.proofs.tidied.plain_pairs.Given as goal

abbrev pub invariant-loop-i : goal.invariant-loop-i
invariant-loop-i l = record {
  pairs : map as_pair (take l.i l.plain) ≡ take l.i l.pairs;
  others : list_all is_zero_pair (drop l.i l.plain) ≡ true;
  long : length l.plain ≡ 32;
}
