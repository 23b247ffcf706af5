use Rattle.std.proofs.Common.{◌∙◌, ◌++◌, ℕ, List, ap, sym}
use Rattle.mt_import.specs.Outcome.{dump_outcome, is_empty, refusal}
use Rattle.mt_import.specs.Reader.{summary_in}
use Rattle.mt_import.proofs.Ends.{ends_missing, ends_whole}
use Rattle.mt_import.proofs.reader.LogReader.finish.Goals as goal

pub returns-then-is_empty-clause-told : goal.returns-then-is_empty-clause-told
returns-then-is_empty-clause-told c =
    let told = summary_in c.args.is_auto c.args.supplied.now c.args.self.now in
    let is = c.as_slice-text.ensures.value ∙ c.missing-missing.ensures.text in
    c.dump_outcome.ensures.told
    ∙ ap (λ m. dump_outcome (refusal c.args.self.now.tally m) told told.width (told.values 0 0xfe)) is
    ∙ sym (ends_whole told (ap is_empty (sym is) ∙ sym c.is_empty.ensures ∙ c.if-is_empty.true))

pub returns-else-is_empty-clause-told : goal.returns-else-is_empty-clause-told
returns-else-is_empty-clause-told c =
    let told = summary_in c.args.is_auto c.args.supplied.now c.args.self.now in
    let is = c.as_slice-text.ensures.value ∙ c.missing-missing.ensures.text in
    c.lacking.ensures.told ∙ ap (λ (m : List ℕ). refusal c.args.self.now.tally (m ++ told.advice)) is
    ∙ sym (ends_missing told (ap is_empty (sym is) ∙ sym c.is_empty.ensures ∙ c.if-is_empty.false))
