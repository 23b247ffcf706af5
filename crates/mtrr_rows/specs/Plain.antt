-- Bytes that stand for themselves in a row's texts.
use Rattle.std.specs.Prelude.{ℕ, ◌≢◌}

-- not a backslash
abbrev pub IsPlain : ℕ → Type 0
IsPlain byte = byte ≢ 92
