use Rattle.std.proofs.Common.{◌≡◌, ◌≤◌, take}
use Rattle.std.specs.List.{count_by}
use Rattle.mt_judge.specs.Told.{has_arrived_first, has_arrived_second}
use Rattle.mt_judge.proofs.transcript.count_arrived.Given as goal

abbrev pub invariant-loop-cpu : goal.invariant-loop-cpu
invariant-loop-cpu l = record {
  first : l.first ≡ count_by has_arrived_first (take l.cpu-index l.cpus);
  second : l.second ≡ count_by has_arrived_second (take l.cpu-index l.cpus);
  few : l.first ≤ l.cpu-index;
  few_again : l.second ≤ l.cpu-index;
}
