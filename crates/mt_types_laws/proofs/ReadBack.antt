-- What the pairs of a file say where ranges stand in them.
use Rattle.std.proofs.Common.{◌≡◌, ℕ, zero, suc, ◌-◌, ◌+◌, ◌^◌, ◌<◌, ◌≤◌, List, [], ◌∷◌, ◌++◌, length, map, refl, sym, ap, ◌∙◌, arith, subst}
use Rattle.std.specs.Prelude.{replicate, slice_index_or}
use Rattle.std.specs.List.{All, filter}
use Rattle.mt_regs.specs.RegisterFile.{RegisterFile, pair_at, pair_count}
use Rattle.mt_types.specs.declared.run.Run.{Run}
use Rattle.mt_tidy.specs.declared.range.Range.{Range}
use Rattle.mt_tidy.specs.Kept.{IsTidy}
use Rattle.mt_tidy.specs.Wanted.{IsRangeOf}
use Rattle.mt_ranges.specs.Match.{is_valid}
use Rattle.mt_tidy.specs.Tidied.{IsTidied, StandsFor, Tidying, pair_for, valid_count, with_ranges}
use Rattle.mt_tidy.specs.declared.fits.Tidied.{Tidied}
use Rattle.mt_tidy.proofs.Fitted.{matches_is, type_is, valid_bit}

abbrev none : ℕ × ℕ
none = (0, 0)

abbrev zeros : ℕ → List (ℕ × ℕ)
zeros count = replicate count none

pair_is : (pair : Range → ℕ × ℕ) (ranges : List Range) (rest : List (ℕ × ℕ)) (n : ℕ) (d : Range) → n < length ranges
    → slice_index_or (map pair ranges ++ rest) n none ≡ pair (slice_index_or ranges n d)
pair_is pair [] rest n d within = absurd (omega (arith, within))
pair_is pair (r ∷ rs) rest zero d within = refl
pair_is pair (r ∷ rs) rest (suc n) d within = pair_is pair rs rest n d (omega (arith, within))

zeros_at : (count n : ℕ) → slice_index_or (zeros count) n none ≡ none
zeros_at zero n = refl
zeros_at (suc count) zero = refl
zeros_at (suc count) (suc n) = zeros_at count n

zeros_behind : (pair : Range → ℕ × ℕ) (ranges : List Range) (count n : ℕ) → length ranges ≤ n
    → slice_index_or (map pair ranges ++ zeros count) n none ≡ none
zeros_behind pair [] count n behind = zeros_at count n
zeros_behind pair (r ∷ rs) count zero behind = absurd (omega (arith, behind))
zeros_behind pair (r ∷ rs) count (suc n) behind = zeros_behind pair rs count n (omega (arith, behind))

zeros_length : (count : ℕ) → length (zeros count) ≡ count
zeros_length zero = refl
zeros_length (suc count) = ap suc (zeros_length count)

both_lengths : (pair : Range → ℕ × ℕ) (ranges : List Range) (count : ℕ) → length (map pair ranges ++ zeros count) ≡ length ranges + count
both_lengths pair [] count = omega (arith, zeros_length count)
both_lengths pair (r ∷ rs) count = omega (arith, both_lengths pair rs count)

none_valid : (count : ℕ) → length (filter is_valid (zeros count)) ≡ 0
none_valid zero = refl
none_valid (suc count) = none_valid count

valid_pairs : (width : ℕ) (ranges : List Range) (count : ℕ) → length (filter is_valid (map (pair_for width) ranges ++ zeros count)) ≡ length ranges
valid_pairs width [] count = none_valid count
valid_pairs width (r ∷ rs) count = rw (valid_bit (2 ^ (width - 12) - 2 ^ r.log)) (ap suc (valid_pairs width rs count))

stands : (f : RegisterFile) → f.width ≤ 52 → (r : Range) → IsRangeOf f r → StandsFor f.width r (pair_for f.width r)
stands f narrow r is = record {
  valid = valid_bit (2 ^ (f.width - 12) - 2 ^ r.log);
  pages = matches_is f.width narrow r is.block;
  kind = type_is f.width r;
}

pub pair_stands : (f : RegisterFile) (ranges : List Range) → f.width ≤ 52 → All (IsRangeOf f) ranges → (n : ℕ) (d : Range) → n < length ranges
    → StandsFor f.width (slice_index_or ranges n d) (pair_at (with_ranges f ranges).pairs n)
pair_stands f ranges narrow of n d within =
    subst (StandsFor f.width (slice_index_or ranges n d)) (sym (pair_is (pair_for f.width) ranges _ n d within))
    (stands f narrow (slice_index_or ranges n d) (of n d within))

pub others_are_zeros : (f : RegisterFile) (ranges : List Range) (n : ℕ) → length ranges ≤ n → pair_at (with_ranges f ranges).pairs n ≡ (0, 0)
others_are_zeros f ranges n behind = zeros_behind (pair_for f.width) ranges (pair_count f - length ranges) n behind

pub pairs_number : (f : RegisterFile) (ranges : List Range) → length ranges ≤ pair_count f → length (with_ranges f ranges).pairs ≡ pair_count f
pairs_number f ranges few =
    both_lengths (pair_for f.width) ranges (pair_count f - length ranges) ∙ omega (arith, few)

pub valid_number : (f : RegisterFile) (ranges : List Range) → valid_count (with_ranges f ranges) ≡ length ranges
valid_number f ranges = valid_pairs f.width ranges (pair_count f - length ranges)

pub used_by_fit : (t : Tidying) (wanted : List Run) (new : Tidied) → IsTidied t wanted new → valid_count new.file ≡ new.used
used_by_fit t wanted new tidied = ap valid_count tidied.file ∙ valid_number t.file tidied.ranges ∙ sym tidied.count

pub used_by_tidy : (t : Tidying) (new : Tidied) → IsTidy t new → valid_count new.file ≡ new.used
used_by_tidy t new tidy = ap valid_count tidy.file ∙ valid_number t.file tidy.ranges ∙ sym tidy.count
