use Rattle.std.proofs.Common.{◌≡◌, ◌≤◌, None, replicate}
use Rattle.std.specs.Prelude.{vec_capacity}
use Rattle.mt_private.proofs.gather.places_for.Given as goal

abbrev pub invariant-loop-i : goal.invariant-loop-i
invariant-loop-i l = record { items : l.owns.items ≡ replicate l.i None; room : l.count ≤ vec_capacity l.owns }
