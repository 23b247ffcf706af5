use Rattle.std.proofs.Common.{ap, subst, sym, ◌∙◌}
use Rattle.mt_memory.specs.Laying.{joined, ranges_of}
use Rattle.mt_memory.specs.Log.{Settled}
use Rattle.mt_memory_kinds.specs.Ranges.{AreAscending}
use Rattle.mt_memory.proofs.Paged.{pages_ascend}
use Rattle.mt_memory.proofs.pages.pages_of.Goals as goal

pub returns-in-None-clause-order : goal.returns-in-None-clause-order
returns-in-None-clause-order c =
    subst (AreAscending 0) (sym (c.ranges-in-None.ensures ∙ ap (λ (s : Settled). joined (ranges_of s.pieces)) c.settled_kinds-settled.ensures)) (pages_ascend c.as_slice.result.now)
