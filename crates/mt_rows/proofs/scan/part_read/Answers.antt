use Rattle.std.proofs.Common.{◌∙◌, sym}
use Rattle.mt_rows.proofs.Scans.{part_some}
use Rattle.mt_rows.proofs.scan.part_read.Goals as goal

pub returns-in-Some-clause-read : goal.returns-in-Some-clause-read
returns-in-Some-clause-read c =
    part_some c.args.size c.args.part.now.0.now c.args.part.now.1 c.args.rest.now c.args.fields c.in-Some.taken c.in-Some.more c.behind.result.now
    (sym c.starts_with.ensures.value ∙ c.if-not-starts_with.false) c.behind.ensures c.in-Some.ensures.read
