-- The wishes of blocks over two runs.
use Rattle.std.proofs.Common.{◌≡◌, ℕ, ◌+◌, ◌^◌, ◌<◌, ◌≤◌, true, refl, sym, ◌∙◌, inl, inr, arith}
use Rattle.std.specs.Prelude.{nat_le, nat_lt, None, Some}
use Rattle.std.proofs.lemmas.Bool.{and_from, and_parts, cases_lt, le-leb, le-ltb, lt-ltb, ltb-true}
use Rattle.mt_kinds.specs.declared.mem_type.MemType.{MemType}
use Rattle.mt_kinds.specs.declared.mem_type.MemType.TheVariants.{WB}
use Rattle.mt_ranges.specs.declared.block.Block.{Block}
use Rattle.mt_ranges.specs.Blocks.{block_end}
use Rattle.mt_trie.specs.declared.wish.Wish.TheVariants.{Only}
use Rattle.mt_trie.specs.Wishes.{InBlock, IsWish, wanted_type}
use Rattle.mt_types_laws.specs.TrieWorkedRuns.{two_runs}

page_end : (b : Block) (log : ℕ) → b.log ≡ log → (page : ℕ) → InBlock b page → page < b.first + 2 ^ log
page_end b log size page q = rw size at (ltb-true page (block_end b) (and_parts (nat_le b.first page) (nat_lt page (block_end b)) q).1)

is_in : (b : Block) (first log page : ℕ) → b.first ≡ first → b.log ≡ log → first ≤ page → page < first + 2 ^ log → InBlock b page
is_in b first log page start size above below =
    rw (start, size) (and_from (nat_le first page) (nat_lt page (first + 2 ^ log)) (le-leb first page above) (lt-ltb page (first + 2 ^ log) below))

free_below : (page : ℕ) → page < 256 → wanted_type true two_runs page ≡ None
free_below page below = rw (lt-ltb page 256 below) refl

wb_above : (page : ℕ) → 256 ≤ page → page < 512 → wanted_type true two_runs page ≡ Some WB
wb_above page above below = rw (le-ltb page 256 above, lt-ltb page 512 below) refl

pub across : (b : Block) → b.first ≡ 0 → b.log ≡ 9 → IsWish (wanted_type true two_runs) (InBlock b) (Only WB)
across b start size = (
  λ page q u e. elim (cases_lt page 256) [
    | inl below ↦ let h : None ≡ Some u = sym (free_below page below) ∙ e in absurd (cc h)
    | inr above ↦ same u (sym (wb_above page above (omega (arith, start, page_end b 9 size page q))) ∙ e)
  ],
  record { page = 256; within = is_in b 0 9 256 start size (omega arith) (omega arith); wants = refl },
)
  where
    same : (u : MemType) → Some WB ≡ Some u → u ≡ WB
    same u e = cc
