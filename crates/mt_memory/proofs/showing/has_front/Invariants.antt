use Rattle.std.proofs.Common.{◌≡◌, drop}
use Rattle.mt_memory.specs.Finding.{forms_at}
use Rattle.mt_memory.specs.Showing.{has_front}
use Rattle.mt_memory.proofs.showing.has_front.Given as goal

abbrev pub invariant-forms : goal.invariant-forms
invariant-forms l = has_front (forms_at (drop l.form-index l.forms)) l.line ≡ has_front (forms_at l.forms) l.line
