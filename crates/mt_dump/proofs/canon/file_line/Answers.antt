use Rattle.std.proofs.Common.{arith}
use Rattle.mt_dump.proofs.Canonical.{later_line}
use Rattle.mt_dump.proofs.canon.file_line.Goals as goal

pub returns-in-Some : goal.returns-in-Some
returns-in-Some c = rw (later_line c.args.f.now c.args.line (omega arith), c.in-Some.ensures.at, ← c.value_of.ensures, ← c.number.ensures) c.register_line-in-Some.ensures

pub returns-in-None : goal.returns-in-None
returns-in-None c = rw (later_line c.args.f.now c.args.line (omega arith), c.in-None.ensures.at) c.new.ensures
