use Rattle.std.proofs.Common.{◌≡◌, ◌∙◌, ap, sym, subst, arith, rules, ◌+◌, ◌-◌, ◌++◌, ◌∷◌, [], get_or, ℕ, List}
use Rattle.mt_machine.specs.declared.op.Op.{Op}
use Rattle.mt_machine.specs.Machine.{FitsOp}
use Rattle.mt_answers.specs.Generator.{stepped}
use Rattle.mt_cli.specs.Measured.{behind_op, behind_ops, drawn_ops}
use Rattle.mt_cli.proofs.Drawing.{behind_end, behind_on, each_push, ops_end, ops_on}
use Rattle.mt_cli.proofs.measured.drawn_ops.Goals as goal

pub loop-i-preserved : goal.loop-i-preserved
loop-i-preserved c =
    let count = c.args.count in
    let i = c.loop-i.i in
    let x = c.loop-i.x in
    let ops = c.loop-i.ops.items in
    let rest = count - (i + 1) in
    let next = c.stepped-x.ensures ∙ ap stepped c.stepped.ensures in
    record {
      ops =
          (λ j. c.push_reserved.ensures.items j ++ drawn_ops rest (next j))
          ∙ ap (λ (op : Op). (ops ++ op ∷ []) ++ drawn_ops rest (behind_op x)) c.drawn_op.ensures.value
          ∙ ops_on count i x ops (drawn_ops count c.args.first) c.loop-i-test.true c.loop-i.invariant.ops;
      behind = ap (behind_ops rest) next ∙ behind_on count i x (behind_ops count c.args.first) c.loop-i-test.true c.loop-i.invariant.behind;
      fits = λ k low d. subst (λ (l : List Op). FitsOp (get_or l k d)) (sym c.push_reserved.ensures.items) (each_push FitsOp ops i c.drawn_op.result c.loop-i.invariant.size c.drawn_op.ensures.fits c.loop-i.invariant.fits k low d);
      size = search rules;
      room = search rules;
    }

pub returns-clause-ops : goal.returns-clause-ops
returns-clause-ops c =
    let none : c.args.count - c.loop-i.i ≡ 0 = omega arith in
    ops_end c.loop-i.x c.loop-i.ops.items (drawn_ops c.args.count c.args.first) (subst (λ (n : ℕ). c.loop-i.ops.items ++ drawn_ops n c.loop-i.x ≡ drawn_ops c.args.count c.args.first) none c.loop-i.invariant.ops)

pub returns-clause-behind : goal.returns-clause-behind
returns-clause-behind c =
    let none : c.args.count - c.loop-i.i ≡ 0 = omega arith in
    behind_end c.loop-i.x (behind_ops c.args.count c.args.first) (subst (λ (n : ℕ). behind_ops n c.loop-i.x ≡ behind_ops c.args.count c.args.first) none c.loop-i.invariant.behind)

pub returns-clause-fits : goal.returns-clause-fits
returns-clause-fits c k d within = let size = c.loop-i.invariant.size in c.loop-i.invariant.fits k (omega arith) d
