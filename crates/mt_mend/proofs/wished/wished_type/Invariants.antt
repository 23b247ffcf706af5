use Rattle.std.proofs.Common.{◌≡◌, take}
use Rattle.mt_regs.specs.PageTypes.{page_type}
use Rattle.mt_mend.specs.Wishes.{over}
use Rattle.mt_mend.proofs.wished.wished_type.Given as goal

abbrev pub invariant-loop-wish : goal.invariant-loop-wish
invariant-loop-wish l = l.kind ≡ over (page_type l.f l.page) (take l.wish-index l.wishes) l.page
