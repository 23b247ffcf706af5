-- The numbers of the pairs that match a page (own).
--     matching_pairs file page      in ascending order
use Rattle.std.specs.Prelude.{ℕ, zero, suc, Bool, List, [], ◌∷◌, ◌++◌, length, if◌then◌else◌}
use Rattle.mt_ranges.specs.Match.{matches_pair}
use Rattle.mt_regs.specs.RegisterFile.{RegisterFile, pair_at}

-- the numbers below another one that pass a test, in ascending order
abbrev pub numbers_below : (ℕ → Bool) → ℕ → List ℕ
numbers_below test zero = []
numbers_below test (suc n) = numbers_below test n ++ (if test n then n ∷ [] else [])

abbrev pub pairs_in : ℕ → List (ℕ × ℕ) → ℕ → List ℕ
pairs_in width pairs page = numbers_below (λ n. matches_pair width (pair_at pairs n) page) (length pairs)

abbrev pub matching_pairs : RegisterFile → ℕ → List ℕ
matching_pairs f page = pairs_in f.width f.pairs page
