use Rattle.std.proofs.Common.{◌≤◌, ◌<◌, length, take, sym, arith, rules}
use Rattle.mt_text.proofs.Windows.{grown, kept}
use Rattle.mt_text.proofs.buffer.Buffer.read.Goals as goal

pub returns-in-Ok-clause-bytes : goal.returns-in-Ok-clause-bytes
returns-in-Ok-clause-bytes g c =
    let b = c.args.self.now in
    let within : b.end ≤ length b.bytes = omega arith in
    let n = c.in-Ok.count in
    let bound = c.in-Ok.ensures.bound in
    let bytes = c.in-Ok.ensures.bytes in
    let room : 0 < length c.take.new.into = search rules in
    (take n c.take.new.into, sym bound.1, grown b.bytes c.take.new.into b.start b.end _ n b.ordered within bound.0, bytes.0, λ none. bytes.1 none room)

pub returns-in-Err-clause-bytes : goal.returns-in-Err-clause-bytes
returns-in-Err-clause-bytes g c =
    let b = c.args.self.now in
    let within : b.end ≤ length b.bytes = omega arith in
    (kept b.bytes c.take.new.into b.start b.end _ b.ordered within, c.in-Err.ensures.bytes)
