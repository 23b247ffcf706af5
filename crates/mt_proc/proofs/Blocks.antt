-- The range of a pair whose mask has no gap, by its block.
use Rattle.std.proofs.Common.{◌≡◌, ap, refl, arith, ℕ, ◌*◌, ◌^◌, ◌<◌, length, Option, None, Some}
use Rattle.std.specs.Prelude.{MatchOption}
use Rattle.mt_regs.specs.declared.fault.Fault.{Fault}
use Rattle.mt_regs.specs.RegisterFile.{RegisterFile, IsRegisterFile, pair_at}
use Rattle.mt_regs.specs.Faults.{IsAccepted, IsOverlapFault, register_fault}
use Rattle.mt_regs.specs.Alike.{IsWhole}
use Rattle.mt_regs.proofs.Whole.{whole_masks}
use Rattle.mt_ranges.specs.declared.block.Block.{Block}
use Rattle.mt_ranges.specs.Blocks.{block_end}
use Rattle.mt_ranges.specs.Match.{range_end, range_first}
use Rattle.mt_proc.specs.Listing.{base_of, size_of}

pub block_range : (b : Block) (m : ℕ) (pair : ℕ × ℕ) → b.first ≡ range_first m pair → block_end b ≡ range_end m pair → (4096 * b.first ≡ base_of m pair) × (4096 * 2 ^ b.log ≡ size_of m pair)
block_range b m pair first end = (ap (λ n. 4096 * n) first, omega (arith, first, end))

-- no pair of an accepted file has a mask with a gap
pub accepted_masks : (f : RegisterFile) → IsRegisterFile f → IsAccepted f → (n : ℕ) → n < length f.pairs → IsWhole f.width (pair_at f.pairs n)
accepted_masks f is accepted = by (register_fault f) refl accepted
  where
    by : (fault : Option Fault) → register_fault f ≡ fault → MatchOption fault (IsOverlapFault f None) (λ fault. None ≡ Some fault) → (n : ℕ) → n < length f.pairs → IsWhole f.width (pair_at f.pairs n)
    by None good h = whole_masks f is.all_pairs good
    by (Some fault) bad h = cc h
