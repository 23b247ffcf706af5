use Rattle.std.proofs.Common.{◌∙◌, ap, sym}
use Rattle.mt_dump.specs.Canon.{canon}
use Rattle.mt_import.specs.Outcome.{refusal, remarks}
use Rattle.mt_import.specs.Reader.{summary_in}
use Rattle.mt_import.proofs.Ends.{told_whole}
use Rattle.mt_import.proofs.reader.LogReader.dump_outcome.Goals as goal

pub returns-clause-told : goal.returns-clause-told
returns-clause-told c =
    told_whole (refusal c.args.self.now.tally c.args.missing.now) (summary_in c.args.is_auto c.args.supplied.now c.args.self.now) c.in-Some.width c.in-Some-capabilities.capabilities
    c.notes.ensures (c.canonical_text.ensures ∙ ap canon c.dump.ensures) (c.remarks.ensures.text ∙ ap (remarks c.args.is_auto) c.tally-tally.ensures) (sym c.width.ensures.width ∙ c.in-Some.is) (sym c.capabilities.ensures.value ∙ c.in-Some-capabilities.is)
