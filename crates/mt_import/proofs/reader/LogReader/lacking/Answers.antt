use Rattle.std.proofs.Common.{◌++◌, ◌∙◌, ℕ, List, ap}
use Rattle.mt_import.specs.declared.shape.Tally.{Tally}
use Rattle.mt_import.specs.Outcome.{refusal}
use Rattle.mt_import.proofs.reader.LogReader.lacking.Goals as goal

pub returns-clause-told : goal.returns-clause-told
returns-clause-told c =
    let first = c.append_text.ensures ∙ ap (λ (l : List ℕ). l ++ c.args.missing.now) c.new-text.ensures in
    let all =
    c.as_slice-2.ensures.value ∙ c.append_text-2.ensures ∙ ap (λ (l : List ℕ). l ++ c.as_slice.result.now) first
    ∙ ap (λ (l : List ℕ). c.args.missing.now ++ l) (c.as_slice.ensures.value ∙ c.advice.ensures.text) in
    c.refusal.ensures.told ∙ ap (λ (t : Tally). refusal t c.as_slice-2.result.now) c.tally.ensures ∙ ap (refusal c.args.self.now.tally) all
