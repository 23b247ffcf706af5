use Rattle.std.proofs.Common.{sym, subst}
use Rattle.std.proofs.lemmas.List.{get_or_default}
use Rattle.std.proofs.lemmas.List.Elements.{AllWithin-more}
use Rattle.mt_mend.specs.Wishes.{IsWish}
use Rattle.mt_mend.proofs.faults.first_wish_fault.Goals as goal

pub loop-n-preserved : goal.loop-n-preserved
loop-n-preserved c =
    AllWithin-more (IsWish c.args.f.now) c.args.wishes.now 0 c.loop-n.n c.loop-n.invariant
    (λ d. subst (IsWish c.args.f.now) (get_or_default c.args.wishes.now c.loop-n.n _ d c.loop-n-test.true) (sym c.in_default.ensures))
