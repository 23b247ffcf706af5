use Rattle.std.proofs.Common.{◌≡◌, ◌∙◌, [], ap, sym, subst}
use Rattle.std.specs.Prelude.{Ok}
use Rattle.mt_dump.specs.Reader.{HasRead, read_from}
use Rattle.mt_script.specs.Head.{end_step}
use Rattle.mt_script.proofs.Ends.{miscounted}
use Rattle.mt_script.proofs.head.end_dump.Goals as goal

pub returns-in-Ok-2-clause-step : goal.returns-in-Ok-2-clause-step
returns-in-Ok-2-clause-step c = λ before read.
    let was : HasRead c.replace.result before = subst (λ state. HasRead state before) (sym c.replace.ensures.value) read in
    let same : c.in-Ok-2.field-0 ≡ c.in-Ok.d = cc (c.in-Ok-2.is, c.in-Ok.is) in
    let answer : read_from c.args.at before [] ≡ Ok c.in-Ok-2.field-0 = sym (c.finish.ensures before was) ∙ c.in-Ok-2.is in
    ap (end_step c.args.cpus c.args.at) answer ∙ rw c.fault.ensures (miscounted c.args.cpus c.args.at c.in-Ok-2.field-0 (rw same (sym c.has_each.ensures ∙ c.if-has_each.false)))
