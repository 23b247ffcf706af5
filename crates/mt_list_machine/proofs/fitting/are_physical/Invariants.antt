use Rattle.std.proofs.Common.{◌≡◌, ◌^◌, nat_lt, take, true}
use Rattle.std.specs.List.{list_all}
use Rattle.mt_cache.specs.declared.line.CacheLine.{CacheLine}
use Rattle.mt_list_machine.proofs.fitting.are_physical.Given as goal

abbrev pub invariant-loop-line : goal.invariant-loop-line
invariant-loop-line l = list_all (λ (x : CacheLine). nat_lt x.number (2 ^ 46)) (take l.line-index l.lines) ≡ true
