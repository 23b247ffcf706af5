use Rattle.std.proofs.Common.{◌∙◌, sym, length, Some, None, arith, length-drop}
use Rattle.mt_rows.proofs.Scans.{scan_at}
use Rattle.mt_rows.proofs.scan.read_by.Goals as goal

pub returns-in_default : goal.returns-in_default
returns-in_default c =
    sym (scan_at (length c.args.line.now) c.args.parts.now c.parts.part-index _ c.parts.rest.now c.parts.fields c.parts-test.true None c.in_default.ensures.read) ∙ c.parts.invariant.leads

pub parts-preserved : goal.parts-preserved
parts-preserved c =
    let size = length-drop c.in-Some.taken c.parts.rest.now in
    record {
      short = rw c.behind-rest.ensures (omega (arith, size, c.parts.invariant.short));
      leads = rw c.behind-rest.ensures
          (sym (scan_at (length c.args.line.now) c.args.parts.now c.parts.part-index _ c.parts.rest.now c.parts.fields c.parts-test.true (Some (c.in-Some.taken, c.in-Some.more)) c.in-Some.ensures.read)
          ∙ c.parts.invariant.leads);
    }
