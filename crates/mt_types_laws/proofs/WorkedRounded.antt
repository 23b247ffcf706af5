-- Files with a least number of ranges that give the rounded types.
use Rattle.std.proofs.Common.{◌≡◌, ℕ, suc, zero, ◌+◌, ◌<◌, [], refl, arith}
use Rattle.std.specs.Prelude.{◌/◌, ◌^◌, slice_index_or}
use Rattle.mt_kinds.specs.declared.mem_type.MemType.TheVariants.{UC, WB}
use Rattle.mt_regs.specs.declared.page_type.PageType.TheVariants.{Kind}
use Rattle.mt_types.specs.declared.run.Run.{Run}
use Rattle.mt_tidy.specs.Tidied.{tidying}
use Rattle.mt_types_laws.specs.WorkedRanges.{all_of, uncached, written_back}
use Rattle.mt_types_laws.proofs.WorkedFew.{accepted, kind, whole_by_one}
use Rattle.mt_gran.specs.Grained.{IsLeastRounded, NeedsMore}
use Rattle.mt_gran.specs.Granules.{AreRounded, pages_of, rounded_kind}
use Rattle.mt_gran.proofs.RoundedFit.{one_least}
use Rattle.mt_gran.proofs.Whole.{whole_from}
use Rattle.mt_types_laws.proofs.WorkedFile.{by_default, map_of}

pub least : IsLeastRounded uncached 4 0 0
least = record {
  wanted = all_of UC;
  rounded = map_of 4;
  least = record { some = ([], by_default, tt, refl); none_shorter = λ ranges g a. omega arith };
}

pub not_one : IsLeastRounded uncached 4 0 1 → ⊥
not_one h = omega (arith, one_least uncached 4 0 0 1 least h)

rounds : (page : ℕ) → page < 0x1000000 → rounded_kind (pages_of written_back) 4 page ≡ Kind WB
rounds page within = rw (whole_from (pages_of written_back) 4 (page / 2 ^ 4) WB (λ p below of free. kind p below)) (kind page within)

map_of_one : AreRounded (pages_of written_back) 4 (all_of WB)
map_of_one = record {
  map = record { chain = (refl, omega arith, tt); some = omega arith; bound = omega arith; differ = tt };
  whole = refl;
  kinds = λ k d within page has. of_run k d within page has.1;
} where
  of_run : (k : ℕ) (d : Run) → k < 1 → (page : ℕ) → page < (slice_index_or (all_of WB) k d).first + (slice_index_or (all_of WB) k d).count
      → rounded_kind (pages_of written_back) 4 page ≡ (slice_index_or (all_of WB) k d).kind
  of_run zero d within page below = rounds page below
  of_run (suc k) d within page below = absurd (omega (arith, within))

pub needs_more : NeedsMore (tidying written_back 0 8) 4 1 0
needs_more = record { accepted = accepted; enabled = refl; wanted = all_of WB; rounded = map_of_one; few = whole_by_one }
