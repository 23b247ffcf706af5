-- Places depend on the windows alone.
use Rattle.std.proofs.Common.{◌≡◌, ℕ, ◌%◌, List, None, ap}
use Rattle.std.specs.Prelude.{◌==◌, if◌then◌else◌}
use Rattle.mt_machine.specs.Memory.{Memory, Window, place, place_in}

pub place_same : (m n : Memory) (a : ℕ) → m.windows ≡ n.windows → place m a ≡ place n a
place_same m n a same = ap (λ (ws : List Window). if a % 8 == 0 then place_in ws 0 a else None) same
