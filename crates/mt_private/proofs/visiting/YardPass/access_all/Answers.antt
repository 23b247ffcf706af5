use Rattle.std.proofs.Common.{◌∙◌, ap, sym, refl, append_assoc, rules, ◌+◌, ◌++◌, ◌∷◌, [], List, drop, length, inl, inr, ⊎_elim}
use Rattle.mt_machine.specs.declared.done.Done.{Done}
use Rattle.mt_machine.specs.declared.op.Op.{Op}
use Rattle.mt_machine.specs.Access.{access}
use Rattle.mt_machine.specs.Machine.{Machine}
use Rattle.mt_private.specs.InYard.{HasNotTaken, IsReleased}
use Rattle.mt_private.specs.OneByOne.{Ran, ran}
use Rattle.mt_private.specs.YardCalls.{done_in}
use Rattle.mt_private.proofs.Accessed.{ran_more}
use Rattle.mt_private.proofs.Lists.{drop_at}
use Rattle.mt_private.proofs.visiting.YardPass.access_all.Goals as goal

pub loop-i-init : goal.loop-i-init
loop-i-init c = record {
  not_taken = λ h. h;
  released = λ h. h;
  done = refl;
  number = refl;
  after = refl;
  order = refl;
  answers = ap (λ (ds : List Done). ds ++ (ran 0 c.args.ops.now c.args.core.now.system).answers) c.requires.empty;
  count = ap (λ (ds : List Done). length ds) c.requires.empty;
  room = c.requires.room;
}

pub access-requires-clause-outside : goal.access-requires-clause-outside
access-requires-clause-outside c =
    let inv = c.loop-i.invariant in
    ⊎_elim
    (λ (h : HasNotTaken c.args.yard.now c.args.self.now c.args.core.now). inl (inv.not_taken h))
    (λ (h : IsReleased c.args.yard.now c.args.self.now c.args.core.now). inr (inv.released h))
    c.requires.outside

pub loop-i-preserved : goal.loop-i-preserved
loop-i-preserved c =
    let ops = c.args.ops.now in
    let rest = drop (c.loop-i.i + 1) ops in
    let before = c.loop-i.core.system in
    let op = c.op_at.result in
    let more = ran_more 0 ops c.loop-i.i op before c.op_at.ensures.at in
    record {
      not_taken = λ h. c.access.ensures.not_taken (c.loop-i.invariant.not_taken h);
      released = λ h. c.access.ensures.released (c.loop-i.invariant.released h);
      done =
          ap (λ (xs : List Op). xs ++ rest) c.access.ensures.done ∙ append_assoc (done_in c.loop-i.self.seat.me) (op ∷ []) rest
          ∙ sym (ap (λ (xs : List Op). done_in c.loop-i.self.seat.me ++ xs) (drop_at ops c.loop-i.i op c.op_at.ensures.at)) ∙ c.loop-i.invariant.done;
      number = c.access.ensures.number ∙ c.loop-i.invariant.number;
      after =
          ap (λ (m : Machine). (ran 0 rest m.system).after) c.access.ensures.after
          ∙ sym (ap (λ (r : Ran). r.after) more) ∙ c.loop-i.invariant.after;
      order = ap (λ (m : Machine). m.order) c.access.ensures.after ∙ c.loop-i.invariant.order;
      answers =
          (λ i. c.push_reserved.ensures.items i ++ (ran 0 rest (c.access.ensures.after i).system).answers)
          ∙ ap (λ (d : Done). (c.loop-i.told.items ++ d ∷ []) ++ (ran 0 rest (access before 0 op).after).answers) c.access.ensures.answer
          ∙ append_assoc c.loop-i.told.items ((access before 0 op).answer ∷ []) (ran 0 rest (access before 0 op).after).answers
          ∙ sym (ap (λ (r : Ran). c.loop-i.told.items ++ r.answers) more) ∙ c.loop-i.invariant.answers;
      count = search rules;
      room = search rules;
    }
