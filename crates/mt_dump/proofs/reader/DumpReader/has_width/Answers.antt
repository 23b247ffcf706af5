use Rattle.std.proofs.Common.{sym, subst}
use Rattle.mt_dump.specs.Reader.{HasRead}
use Rattle.mt_dump.proofs.reader.DumpReader.has_width.Goals as goal

pub returns : goal.returns
returns c = λ before read. (subst (λ s. HasRead s before) (sym c.self.view_is) read).width_given_is
