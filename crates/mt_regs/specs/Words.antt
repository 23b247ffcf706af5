-- Values of 64 bits.
use Rattle.std.specs.Prelude.{◌≡◌, ◌<◌, ◌^◌, ℕ, Some}
use Rattle.mt_regs.specs.RegisterFile.{RegisterFile}
use Rattle.mt_regs.specs.Registers.{value_at}

-- each register's value is one of 64 bits
abbrev pub HasWords : RegisterFile → Type 0
HasWords f = (number value : ℕ) → value_at f number ≡ Some value → value < 2 ^ 64
