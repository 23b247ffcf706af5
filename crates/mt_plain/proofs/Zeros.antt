-- A list of which each number is zero.
use Rattle.std.proofs.Common.{◌≡◌, ap, refl, ℕ, ◌==◌, ◌∙◌, true, List, [], ◌∷◌, length, replicate}
use Rattle.std.proofs.lemmas.Bool.{and_parts, eqb-true}
use Rattle.std.specs.List.{list_all}

pub all_zeros : (xs : List ℕ) → list_all (λ v. v == 0) xs ≡ true → xs ≡ replicate (length xs) 0
all_zeros [] all = refl
all_zeros (x ∷ xs) all =
    let parts = and_parts (x == 0) (list_all (λ v. v == 0) xs) all in
    ap (λ y. y ∷ xs) (eqb-true x 0 parts.0) ∙ ap (λ ys. 0 ∷ ys) (all_zeros xs parts.1)
