use Rattle.std.proofs.Common.{sym, subst}
use Rattle.mt_dump.specs.Reader.{HasRead}
use Rattle.mt_dump.specs.Seen.{state_of}
use Rattle.mt_dump.proofs.Held.{holds_version}
use Rattle.mt_dump.proofs.reader.DumpReader.take_version.Goals as goal

pub invariant_of-self : goal.invariant_of-self
invariant_of-self c = (_, holds_version (state_of c.self.inside) c.self.invariant.0 c.args.version c.args.place c.self.invariant.1 c.if-self.false c.requires.0 c.requires.1)

pub returns : goal.returns
returns c = λ before read.
    let held = subst (λ s. HasRead s before) (sym c.self.view_is) read in
    holds_version (state_of c.self.inside) before c.args.version c.args.place held c.if-self.false c.requires.0 c.requires.1
