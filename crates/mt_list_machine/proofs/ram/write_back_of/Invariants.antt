use Rattle.std.proofs.Common.{◌≡◌, drop}
use Rattle.std.specs.List.{filter, fold}
use Rattle.mt_cache.specs.Lines.{has_number}
use Rattle.mt_machine.specs.Memory.{write_back, write_back_of}
use Rattle.mt_list_machine.specs.Parts.{memory}
use Rattle.mt_list_machine.proofs.ram.write_back_of.Given as goal

abbrev pub invariant-loop-line : goal.invariant-loop-line
invariant-loop-line l = fold write_back (memory l.layout l.words) (filter (has_number l.number) (drop l.line-index l.lines)) ≡ write_back_of l.number (memory l.layout l.fn.words) l.lines
