use Rattle.std.proofs.Common.{◌≡◌, ◌*◌, ◌≤◌, drop, length}
use Rattle.mt_gran.specs.Granules.{pages_of}
use Rattle.mt_gran.specs.Listed.{runs_in}
use Rattle.mt_gran.specs.Marks.{rounded_mark}
use Rattle.mt_gran.proofs.Rest.{Goes}
use Rattle.mt_gran.proofs.lists.rounded_runs.Given as goal

abbrev pub invariant-loop-i : goal.invariant-loop-i
invariant-loop-i l = Goes l.f (rounded_mark (pages_of l.f) l.g) (drop l.i l.own) (runs_in l.count l.list) × (l.count ≤ 4 * l.i) × (length l.list ≡ length l.fn.list)
