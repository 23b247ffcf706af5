use Rattle.std.proofs.Common.{◌∙◌, ◌++◌, ℕ, ap, sym, arith}
use Rattle.mt_explain.specs.FieldFaults.{faults_at, field_faults}
use Rattle.mt_explain.proofs.Appended.{registers_end, registers_next}
use Rattle.mt_explain.proofs.Lawful.{lawful_file}
use Rattle.mt_explain.proofs.faults.field_faults.Goals as goal

pub loop-i-preserved : goal.loop-i-preserved
loop-i-preserved c =
    let f = c.args.f.now in
    let before = c.loop-i.list.items in
    registers_next f c.loop-i.i c.in-Some.register before c.add_faults.new.list.items (field_faults f) c.in-Some.ensures.at
    (c.in_ok-add_faults.ensures ∙ ap (λ (v : ℕ). c.loop-i.list.items ++ faults_at c.args.f.now c.in-Some.register v) c.value_of.ensures) c.loop-i.invariant

pub returns-clause-lawful : goal.returns-clause-lawful
returns-clause-lawful c =
    let is = registers_end c.args.f.now c.loop-i.i c.loop-i.list.items (field_faults c.args.f.now) (omega (arith, c.count-i-end.ensures.count)) c.loop-i.invariant in
    (λ empty. (lawful_file c.args.f.now).0 (sym is ∙ empty), λ good. is ∙ (lawful_file c.args.f.now).1 good)
