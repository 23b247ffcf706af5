use Rattle.std.proofs.Common.{◌∙◌, ◌||◌, Bool, ap, sym}
use Rattle.mt_judge.proofs.Courses.{idle_below, told_below}
use Rattle.mt_judge.proofs.one_run.JudgedRun.round.Goals as goal

pub loop-k-preserved : goal.loop-k-preserved
loop-k-preserved c = record {
  told = told_below c.args.case.now c.loop-k.k c.args.self.now c.loop-k.self c.turn.new.self c.loop-k.invariant.told c.in_ok-turn.ensures.told;
  idle = λ e.
      idle_below c.args.case.now c.loop-k.k c.args.self.now c.loop-k.self c.loop-k.goes_on c.loop-k.invariant.told c.loop-k.invariant.idle
      (ap (λ (b : Bool). b || c.loop-k.goes_on) (sym c.in_ok-turn.ensures.goes) ∙ sym c.or-goes_on.ensures ∙ e);
}
