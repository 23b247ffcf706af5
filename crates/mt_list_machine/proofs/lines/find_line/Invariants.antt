use Rattle.std.proofs.Common.{◌≡◌, drop}
use Rattle.std.specs.List.{find}
use Rattle.mt_cache.specs.Lines.{has_number}
use Rattle.mt_list_machine.proofs.lines.find_line.Given as goal

abbrev pub invariant-loop-line : goal.invariant-loop-line
invariant-loop-line l = find (has_number l.number) (drop l.line-index l.lines) ≡ find (has_number l.number) l.lines
