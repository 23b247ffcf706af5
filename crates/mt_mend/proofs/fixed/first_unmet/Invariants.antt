use Rattle.std.proofs.Common.{◌≡◌, ◌<◌, ℕ}
use Rattle.mt_regs.specs.PageTypes.{page_type}
use Rattle.mt_mend.specs.Wishes.{wished_type}
use Rattle.mt_mend.proofs.fixed.first_unmet.Given as goal

abbrev pub invariant-loop-page : goal.invariant-loop-page
invariant-loop-page l = (other : ℕ) → other < l.page → page_type l.file other ≡ wished_type l.f l.wishes other
