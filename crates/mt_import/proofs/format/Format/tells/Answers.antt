use Rattle.std.proofs.Common.{◌∙◌, ap, refl}
use Rattle.mt_import.specs.Shown.{is_telling, said_by_line, tells, unmarked}
use Rattle.mt_import.proofs.format.Format.tells.Goals as goal

pub returns : goal.returns
unfolding tells
returns c = c.is_telling.ensures ∙ ap is_telling {y = said_by_line c.args.self c.args.line.now.number (unmarked c.args.line.now.bytes.now)} (c.said_by_line.ensures ∙ rw (c.unmarked.ensures.number, c.unmarked.ensures.bytes) refl)
