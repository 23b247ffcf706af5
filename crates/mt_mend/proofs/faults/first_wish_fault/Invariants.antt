use Rattle.std.specs.List.{AllWithin}
use Rattle.mt_mend.specs.Wishes.{IsWish}
use Rattle.mt_mend.proofs.faults.first_wish_fault.Given as goal

abbrev pub invariant-loop-n : goal.invariant-loop-n
invariant-loop-n l = AllWithin (IsWish l.f) l.wishes 0 l.n
