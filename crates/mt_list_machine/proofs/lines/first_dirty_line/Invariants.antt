use Rattle.std.proofs.Common.{◌≡◌, drop}
use Rattle.mt_cache.specs.Lines.{first_dirty_line}
use Rattle.mt_list_machine.proofs.lines.first_dirty_line.Given as goal

abbrev pub invariant-loop-line : goal.invariant-loop-line
invariant-loop-line l = first_dirty_line (drop l.line-index l.lines) ≡ first_dirty_line l.lines
