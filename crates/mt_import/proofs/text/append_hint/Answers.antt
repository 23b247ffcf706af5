use Rattle.std.proofs.Common.{◌∙◌, ◌++◌, List, ℕ, ap, append_assoc}
use Rattle.std.specs.Prelude.{codes}
use Rattle.mt_import.proofs.text.append_hint.Goals as goal

pub returns-in-Some-clause-text : goal.returns-in-Some-clause-text
returns-in-Some-clause-text c =
    rw c.in-Some.is (
    c.append-in-Some.ensures ∙ ap (λ (l : List ℕ). l ++ c.assumption_text.result.now) c.append.ensures ∙ append_assoc c.args.line.now.items (codes " or ") c.assumption_text.result.now
    ∙ ap (λ (t : List ℕ). c.args.line.now.items ++ (codes " or " ++ t)) c.assumption_text.ensures.text
    )
