-- What the pages of a block want, run by run (own).
use Rattle.std.specs.Prelude.{ℕ, ◌^◌, ◌≤◌, nat_lt, max, min, Bool, if◌then◌else◌, List, fold}
use Rattle.mt_regs.specs.declared.page_type.PageType.{PageType}
use Rattle.mt_regs.specs.declared.page_type.PageType.TheVariants.{Kind, Undefined}
use Rattle.mt_types.specs.declared.run.Run.{Run}
use Rattle.mt_types.specs.Runs.{run_end}
use Rattle.mt_trie.specs.declared.wish.Wish.{Wish}
use Rattle.mt_trie.specs.declared.wish.Wish.TheVariants.{Any, Only}
use Rattle.mt_trie.specs.Wishes.{both, is_free_page}

abbrev pub EndsInTime : Run → Type 0
EndsInTime r = run_end r ≤ 2 ^ 40

abbrev pub wish_of_kind : PageType → Wish
wish_of_kind (Kind t) = Only t
wish_of_kind Undefined = Any

-- the first page of a block that may not be free
abbrev pub first_page : Bool → ℕ → ℕ
first_page fixed first = if is_free_page fixed first then 256 else first

-- what the pages of a run want that lie from one page up to another
abbrev pub wish_in : ℕ → ℕ → Run → Wish
wish_in start end r = if nat_lt (max r.first start) (min (run_end r) end) then wish_of_kind r.kind else Any

abbrev pub wish_over : ℕ → ℕ → List Run → Wish
wish_over start end runs = fold (λ w r. both w (wish_in start end r)) Any runs
