use Rattle.std.proofs.Common.{sym, subst}
use Rattle.mt_dump.specs.Reader.{HasRead}
use Rattle.mt_dump.specs.Seen.{state_of}
use Rattle.mt_dump.proofs.Gives.{section_is}
use Rattle.mt_dump.proofs.reader.DumpReader.section.Goals as goal

pub returns : goal.returns
returns c = λ before read. section_is (state_of c.self.inside) before (subst (λ s. HasRead s before) (sym c.self.view_is) read)
