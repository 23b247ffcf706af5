use Rattle.std.proofs.Common.{◌≡◌, drop}
use Rattle.mt_memory.specs.Finding.{forms_at, names_at}
use Rattle.mt_memory.specs.Showing.{seen_by}
use Rattle.mt_memory.proofs.showing.seen_by.Given as goal

abbrev pub invariant-forms : goal.invariant-forms
invariant-forms l = seen_by (forms_at (drop l.form-index l.forms)) (names_at l.names) l.line ≡ seen_by (forms_at l.forms) (names_at l.names) l.line
