use Rattle.std.proofs.Common.{◌≡◌, map}
use Rattle.std.specs.Prelude.{◌==◌, slice_index}
use Rattle.mt_explain.specs.Clashes.{numbers}
use Rattle.mt_explain.specs.Groups.{members}
use Rattle.mt_explain.specs.Pairs.{numbers_below}
use Rattle.mt_explain.proofs.groups.groups_of.Given as goal

abbrev pub invariant-loop-k : goal.invariant-loop-k
invariant-loop-k l = l.groups.items ≡ map (λ k. numbers (members l.firsts k)) (numbers_below (λ k. slice_index l.firsts k == k) l.k)
