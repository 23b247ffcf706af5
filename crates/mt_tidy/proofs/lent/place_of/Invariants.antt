use Rattle.std.proofs.Common.{◌-◌, ◌<◌, ◌≤◌, length}
use Rattle.std.specs.List.{slice_index_or}
use Rattle.mt_types.specs.declared.run.Run.{Run}
use Rattle.mt_tidy.proofs.lent.place_of.Given as goal

abbrev pub invariant-loop-place : goal.invariant-loop-place
invariant-loop-place l = record {
  within : l.place < length l.list;
  low : (d : Run) → (slice_index_or l.list l.place d).first ≤ l.page;
}

abbrev pub decreases-loop-place : goal.decreases-loop-place
decreases-loop-place l = length l.list - l.place
