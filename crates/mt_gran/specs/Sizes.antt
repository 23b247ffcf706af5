-- Sizes of granules in bytes (own).
use Rattle.std.specs.Prelude.{◌≡◌, ℕ, zero, suc, ◌+◌, ◌^◌, ◌≤◌, ◌==◌, Option, None, Some, if◌then◌else◌}

-- granules of 2 ^ log pages have so many bytes
abbrev pub IsGranuleSize : ℕ → ℕ → Type 0
IsGranuleSize size log = (log ≤ 28) × (size ≡ 2 ^ (12 + log))

-- the log of the pages of a granule of so many bytes, where some logs are looked at from one on
unfoldable pub log_among : ℕ → ℕ → ℕ → Option ℕ
log_among size log zero = None
log_among size log (suc more) = if size == 2 ^ (12 + log) then Some log else log_among size (log + 1) more
