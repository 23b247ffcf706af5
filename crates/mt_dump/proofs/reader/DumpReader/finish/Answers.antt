use Rattle.std.proofs.Common.{◌∙◌, sym, subst, ap, arith}
use Rattle.mt_dump.specs.Reader.{HasRead}
use Rattle.mt_dump.specs.Seen.{state_of}
use Rattle.mt_dump.specs.Reader.{with_width}
use Rattle.mt_dump.proofs.Held.{no_file_at_end, read_at_end, dump_at_end, few_files, width_bounds}
use Rattle.mt_dump.proofs.reader.DumpReader.finish.Goals as goal

pub returns-in_default : goal.returns-in_default
returns-in_default c = λ before read. rw c.fault.ensures (no_file_at_end (state_of c.self.inside) before c.args.at (subst (λ s. HasRead s before) (sym c.self.view_is) read) c.in_default.is)

pub push-requires : goal.push-requires
push-requires c =
    let few = few_files (state_of c.self.inside) c.self.invariant.0 c.in-Some.file c.self.invariant.1 c.in-Some.is in
    (omega arith, omega (arith, few))

pub invariant_of-result : goal.invariant_of-result
invariant_of-result c = rw (c.push.ensures.items, c.in-Ok.ensures.ok ∙ ap (λ f. with_width f c.self.inside.width) c.in-Some.file-is) (dump_at_end (state_of c.self.inside) c.self.invariant.0 c.in-Some.file c.self.invariant.1 c.in-Some.is)

pub unreachable-requires : goal.unreachable-requires
unreachable-requires c =
    let bounds = width_bounds (state_of c.self.inside) c.self.invariant.0 c.self.invariant.1 in
    let ok = c.in-Err.ensures.width.1 bounds in
    cc ok

pub returns : goal.returns
returns c = λ before read.
    rw (c.push.ensures.items, c.in-Ok.ensures.ok ∙ ap (λ f. with_width f c.self.inside.width) c.in-Some.file-is) (read_at_end (state_of c.self.inside) before c.args.at c.in-Some.file (subst (λ s. HasRead s before) (sym c.self.view_is) read) c.in-Some.is)
