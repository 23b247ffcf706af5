-- The types in effect for a page, by each entry of the PAT.
use Rattle.std.specs.Prelude.{ℕ, List, [], ◌∷◌, map}
use Rattle.mt_kinds.specs.declared.mem_type.MemType.{MemType}
use Rattle.mt_kinds.specs.EffectiveType.{effective_type}
use Rattle.mt_kinds.specs.Pat.{pat_entry}

-- entry 0 first
abbrev pub effective_types : MemType → ℕ → List MemType
effective_types kind pat = map (λ index. effective_type kind (pat_entry pat index)) (0 ∷ 1 ∷ 2 ∷ 3 ∷ 4 ∷ 5 ∷ 6 ∷ 7 ∷ [])
