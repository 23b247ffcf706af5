use Rattle.std.proofs.Common.{◌≡◌, ℕ, ◌<◌, ◌≤◌, take}
use Rattle.std.specs.List.{sum_by}
use Rattle.mt_regs.specs.declared.page_type.PageType.{PageType}
use Rattle.mt_mend.specs.Wishes.{edges_of, over}
use Rattle.mt_mend.proofs.edges.wishes_edge.Given as goal

abbrev pub invariant-loop-wish : goal.invariant-loop-wish
invariant-loop-wish l = record {
  above : l.page < l.next;
  bound : l.next ≤ l.end;
  same : (own : PageType) (other : ℕ) → l.page ≤ other → other < l.next → over own (take l.wish-index l.wishes) other ≡ over own (take l.wish-index l.wishes) l.page;
  fewer : l.next < l.end → sum_by (edges_of l.next) (take l.wish-index l.wishes) < sum_by (edges_of l.page) (take l.wish-index l.wishes);
}
