-- How many pairs a file's types need (own).
--     AreLeast file least        the least numbers of pairs for the same types, by chunk size
--     IsRounding file g r        what types rounded to granules of 2^g pages need and lose
use Rattle.std.specs.Prelude.{◌≡◌, ℕ, ◌+◌, ◌^◌, ◌<◌, ◌≤◌, true, false, List, slice_index, Some, MatchOption}
use Rattle.mt_regs.specs.RegisterFile.{RegisterFile, is_enabled, pair_count}
use Rattle.mt_regs.specs.Faults.{IsAccepted, IsFirstFault}
use Rattle.mt_tidy.specs.Keeps.{IsLeast}
use Rattle.mt_gran.specs.Grained.{IsLeastRounded}
use Rattle.mt_gran.specs.Granules.{lost_pages, pages_of}
use Rattle.mt_explain.specs.declared.rounding.Rounding.{Rounding}
use Rattle.mt_explain.specs.declared.unfit.Unfit.{Unfit}
use Rattle.mt_explain.specs.declared.unfit.Unfit.TheVariants.{Refused, Disabled}

-- the least number of pairs for the types of a file that has some
pub record IsNeeded (f : RegisterFile) (chunk count : ℕ) : Type 0 where
  pub accepted : IsAccepted f
  pub enabled : is_enabled f ≡ true
  pub least : IsLeast f chunk count

-- place n has the number for chunks of 2 ^ (12 + n) bytes
abbrev pub AreLeast : RegisterFile → List ℕ → Type 0
AreLeast f least = (n : ℕ) → n < 41 → IsNeeded f (2 ^ (12 + n)) (slice_index least n)

abbrev pub IsUnfit : RegisterFile → Unfit → Type 0
IsUnfit f (Refused fault) = IsFirstFault f (Some fault)
IsUnfit f Disabled = IsAccepted f × (is_enabled f ≡ false)

-- the least number of pairs, whatever ranges overlap, and what is lost if the file has so many
pub record IsRounding (f : RegisterFile) (g : ℕ) (r : Rounding) : Type 0 where
  pub accepted : IsAccepted f
  pub enabled : is_enabled f ≡ true
  pub least : IsLeastRounded f g (2 ^ 52) r.pairs
  pub lost : MatchOption r.lost (pair_count f < r.pairs) (λ lost. (r.pairs ≤ pair_count f) × (lost ≡ lost_pages (pages_of f) g))
