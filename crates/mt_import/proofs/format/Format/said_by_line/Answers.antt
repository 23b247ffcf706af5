use Rattle.std.proofs.Common.{◌∙◌, ap, sym}
use Rattle.mt_import.specs.declared.format.Format.{Format}
use Rattle.mt_import.specs.Shown.{said_by_line}
use Rattle.mt_import.proofs.format.Format.said_by_line.Goals as goal

pub returns-in-Plain : goal.returns-in-Plain
returns-in-Plain c = c.plain_said.ensures ∙ ap (λ (f : Format). said_by_line f c.args.line.now.number c.args.line.now.bytes.now) (sym c.in-Plain.is)
