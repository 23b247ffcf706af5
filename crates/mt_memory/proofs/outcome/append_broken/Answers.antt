use Rattle.std.proofs.Common.{◌≡◌, ◌∙◌, ◌++◌, ◌∷◌, ◌==◌, ℕ, false, List, [], ap, append_assoc, arith, decimal}
use Rattle.std.proofs.lemmas.Bool.Decides.{nat_tests}
use Rattle.std.specs.Prelude.{codes}
use Rattle.mt_memory.proofs.outcome.append_broken.Goals as goal

grouped : (l a d b n : List ℕ) → ((l ++ a) ++ d) ++ (b ++ n) ≡ l ++ (a ++ d ++ b ++ n)
grouped l a d b n = simp append_assoc

some : (n : ℕ) → (n ≡ 0 → ⊥) → (n == 0) ≡ false
some n more = grind (arith, nat_tests, more)

pub returns-clause-text : goal.returns-clause-text
returns-clause-text c =
    let number = decimal c.args.broken in
    let named = c.append_decimal.ensures.text ∙ ap (λ (l : List ℕ). l ++ number) c.append.ensures in
    rw (some c.args.broken c.if-broken-eq0.false) (
    c.append-2.ensures ∙ ap (λ (l : List ℕ). l ++ (codes ": it breaks off, and its range is missing" ++ 10 ∷ [])) named
    ∙ grouped c.args.line.now.items (codes "warning: line ") number (codes ": it breaks off, and its range is missing") (10 ∷ [])
    )
