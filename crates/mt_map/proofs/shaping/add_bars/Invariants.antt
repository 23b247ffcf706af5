use Rattle.std.proofs.Common.{◌≡◌, ◌++◌, map, take}
use Rattle.mt_map.specs.Shapes.{bar_shape}
use Rattle.mt_map.proofs.shaping.add_bars.Given as goal

abbrev pub invariant-bars : goal.invariant-bars
invariant-bars l = l.shapes.items ≡ l.fn.shapes.items ++ map (bar_shape l.side) (take l.bar-index l.bars)
