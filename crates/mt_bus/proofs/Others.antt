-- Memory once the dirty words of a line in the caches of all processors but one are written back.
use Rattle.std.proofs.Common.{◌≡◌, ◌∙◌, ap, refl, arith, ℕ, zero, suc, ◌<◌, ◌+◌, ◌==◌, if◌then◌else◌, List, [], ◌∷◌, length, ne_eqb}
use Rattle.std.proofs.lemmas.Bool.{eq-eqb}
use Rattle.std.specs.List.{remove}
use Rattle.mt_machine.specs.Memory.{Memory, write_back_of}
use Rattle.mt_machine.specs.System.{Processor}
use Rattle.mt_laws.specs.Parts.{written_back}

-- where the list begins with number i
abbrev pub others_back : ℕ → ℕ → ℕ → Memory → List Processor → Memory
others_back i k n m [] = m
others_back i k n m (p ∷ ps) = others_back (i + 1) k n (if i == k then m else write_back_of n m p.lines) ps

past_own : (i k n : ℕ) (m : Memory) (ps : List Processor) → k < i → others_back i k n m ps ≡ written_back n m ps
past_own i k n m [] past = refl
past_own i k n m (p ∷ ps) past =
    ap (λ b. others_back (i + 1) k n (if b then m else write_back_of n m p.lines) ps) (ne_eqb i k (λ e. omega (arith, e, past)))
    ∙ past_own (i + 1) k n (write_back_of n m p.lines) ps (omega arith)

from : (i j k n : ℕ) (m : Memory) (ps : List Processor) → k ≡ i + j → j < length ps → others_back i k n m ps ≡ written_back n m (remove ps j)
from i j k n m [] is within = absurd (omega arith)
from i zero k n m (p ∷ ps) is within =
    ap (λ b. others_back (i + 1) k n (if b then m else write_back_of n m p.lines) ps) (eq-eqb i k (omega arith))
    ∙ past_own (i + 1) k n m ps (omega arith)
from i (suc j) k n m (p ∷ ps) is within =
    ap (λ b. others_back (i + 1) k n (if b then m else write_back_of n m p.lines) ps) (ne_eqb i k (λ e. omega (arith, e, is)))
    ∙ from (i + 1) j k n (write_back_of n m p.lines) ps (omega arith) (omega arith)

pub others_written : (k n : ℕ) (m : Memory) (ps : List Processor) → k < length ps → others_back 0 k n m ps ≡ written_back n m (remove ps k)
others_written k n m ps within = from 0 k k n m ps (omega arith) within
