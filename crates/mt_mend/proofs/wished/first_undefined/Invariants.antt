use Rattle.std.proofs.Common.{◌≡◌, true}
use Rattle.std.specs.List.{AllWithin}
use Rattle.mt_mend.specs.Wishes.{can_give}
use Rattle.mt_mend.proofs.wished.first_undefined.Given as goal

abbrev pub invariant-loop-i : goal.invariant-loop-i
invariant-loop-i l = AllWithin (λ r. can_give l.f r.kind ≡ true) l.runs 0 l.i
