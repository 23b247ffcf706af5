use Rattle.std.proofs.Common.{◌∙◌, ◌++◌, List, ℕ, ap, append_assoc, codes}
use Rattle.mt_answers.specs.Lines.{run_line}
use Rattle.mt_answers.proofs.texts.append_part.Goals as goal

pub returns : goal.returns
returns c =
    c.in_ok-extend_from_slice-2.ensures.items
    ∙ ap (λ (l : List ℕ). c.extend_from_slice.new.self.items ++ l) (c.as_slice.ensures.value ∙ c.run_line.ensures)
    ∙ ap (λ (l : List ℕ). l ++ run_line c.args.part.now) c.in_ok-extend_from_slice.ensures.items
    ∙ append_assoc c.args.text.now.items (codes "# part ") (run_line c.args.part.now)
