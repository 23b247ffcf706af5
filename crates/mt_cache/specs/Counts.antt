-- How many lines of a cache have a number with each residue modulo 4,096.
use Rattle.std.specs.Prelude.{◌≡◌, ℕ, ◌+◌, ◌-◌, ◌%◌, ◌<◌, ◌==◌, Bool, List, length, slice_index_or, slice_set}
use Rattle.std.specs.List.{count_by}
use Rattle.mt_cache.specs.declared.line.CacheLine.{CacheLine}

abbrev pub modulus : ℕ
modulus = 4096

abbrev pub has_residue : ℕ → CacheLine → Bool
has_residue r l = l.number % modulus == r

-- the count at each residue is that of the lines
pub record AreCounted (ls : List CacheLine) (counts : List ℕ) : Type 0 where
  pub long : length counts ≡ modulus
  pub each : (r : ℕ) → r < modulus → slice_index_or counts r 0 ≡ count_by (has_residue r) ls

-- the counts with a line of this number, and without one
abbrev pub raised : ℕ → List ℕ → List ℕ
raised n counts = slice_set counts (n % modulus) (slice_index_or counts (n % modulus) 0 + 1)

abbrev pub lowered : ℕ → List ℕ → List ℕ
lowered n counts = slice_set counts (n % modulus) (slice_index_or counts (n % modulus) 0 - 1)
