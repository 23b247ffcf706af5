use Rattle.std.proofs.Common.{◌≡◌, map, take}
use Rattle.mt_plain.specs.Maps.{overwritten, plain_run}
use Rattle.mt_plain.proofs.rounded.put_runs.Given as goal

abbrev pub invariant-loop-i : goal.invariant-loop-i
invariant-loop-i l = l.to ≡ overwritten (map plain_run (take l.i l.from)) l.fn.to
