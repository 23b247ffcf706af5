use Rattle.std.proofs.Common.{◌≡◌, ◌∙◌, ◌++◌, ◌∷◌, ℕ, List, [], ap, append_assoc, decimal}
use Rattle.std.specs.Prelude.{codes}
use Rattle.mt_memory.proofs.outcome.append_overlap.Goals as goal

grouped : (l a d b e c n : List ℕ) → ((((l ++ a) ++ d) ++ b) ++ e) ++ (c ++ n) ≡ l ++ (a ++ d ++ b ++ e ++ c ++ n)
grouped l a d b e c n = simp append_assoc

pub returns-in-Some : goal.returns-in-Some
returns-in-Some c =
    let first = decimal c.in-Some.overlap.line in
    let second = decimal c.in-Some.overlap.earlier in
    let at = c.append.ensures in
    let named = c.append_decimal.ensures.text ∙ ap (λ (l : List ℕ). l ++ first) at in
    let shown = c.append-in-Some.ensures ∙ ap (λ (l : List ℕ). l ++ codes ": it shows bytes of line ") named in
    let both = c.append_decimal-in-Some.ensures.text ∙ ap (λ (l : List ℕ). l ++ second) shown in
    rw c.in-Some.is (
    c.append-in-Some-2.ensures ∙ ap (λ (l : List ℕ). l ++ (codes " too, and counts for them" ++ 10 ∷ [])) both
    ∙ grouped c.args.line.now.items (codes "warning: line ") first (codes ": it shows bytes of line ") second (codes " too, and counts for them") (10 ∷ [])
    )
