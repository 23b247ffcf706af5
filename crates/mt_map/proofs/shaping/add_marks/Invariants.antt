use Rattle.std.proofs.Common.{◌≡◌, ◌++◌, take}
use Rattle.std.specs.List.{filter_map}
use Rattle.mt_map.specs.Shapes.{mark_in}
use Rattle.mt_map.proofs.shaping.add_marks.Given as goal

abbrev pub invariant-rows : goal.invariant-rows
invariant-rows l = l.shapes.items ≡ l.fn.shapes.items ++ filter_map mark_in (take l.row-index l.rows)
