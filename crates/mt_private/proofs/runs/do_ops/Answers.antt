use Rattle.std.proofs.Common.{◌∙◌, ap, sym, append_assoc, rules, ◌+◌, ◌++◌, ◌∷◌, [], drop, length}
use Rattle.mt_machine.specs.declared.done.Done.{Done}
use Rattle.mt_machine.specs.Access.{access}
use Rattle.mt_machine.specs.Machine.{Machine}
use Rattle.mt_private.specs.OneByOne.{Ran, ran}
use Rattle.mt_private.proofs.Accessed.{length_access, ran_more}
use Rattle.mt_private.proofs.runs.do_ops.Goals as goal

pub loop-i-preserved : goal.loop-i-preserved
loop-i-preserved c =
    let k = c.args.k in
    let ops = c.args.ops.now in
    let rest = drop (c.loop-i.i + 1) ops in
    let before = c.loop-i.core.system in
    let op = c.op_at.result in
    let more = ran_more k ops c.loop-i.i op before c.op_at.ensures.at in
    record {
      after =
          ap (λ (m : Machine). (ran k rest m.system).after) c.access.ensures.after
          ∙ sym (ap (λ (r : Ran). r.after) more) ∙ c.loop-i.invariant.after;
      order = ap (λ (m : Machine). m.order) c.access.ensures.after ∙ c.loop-i.invariant.order;
      answers =
          (λ i. c.push_reserved.ensures.items i ++ (ran k rest (c.access.ensures.after i).system).answers)
          ∙ ap (λ (d : Done). (c.loop-i.told.items ++ d ∷ []) ++ (ran k rest (access before k op).after).answers) c.access.ensures.answer
          ∙ append_assoc c.loop-i.told.items ((access before k op).answer ∷ []) (ran k rest (access before k op).after).answers
          ∙ sym (ap (λ (r : Ran). c.loop-i.told.items ++ r.answers) more) ∙ c.loop-i.invariant.answers;
      count = ap (λ (m : Machine). length m.system.processors) c.access.ensures.after ∙ length_access before k op ∙ c.loop-i.invariant.count;
      done = search rules;
      room = search rules;
    }
