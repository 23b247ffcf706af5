use Rattle.std.proofs.Common.{◌≡◌, ◌≤◌, arith, false, rules}
use Rattle.mt_judge.proofs.Courses.{told_no_round, told_to_the_end, told_rounds}
use Rattle.mt_judge.proofs.one_run.JudgedRun.all_rounds.Goals as goal

pub loop-count-init : goal.loop-count-init
loop-count-init c = record { told = told_no_round c.args.case.now c.args.self.now; few = omega arith }

pub returns-then-not-branch : goal.returns-then-not-branch
returns-then-not-branch c =
    let off : c.in_ok-round.field-0 ≡ false = search rules in
    let few : c.loop-count.count ≤ 1099511627776 = c.loop-count.invariant.few in
    told_to_the_end c.args.case.now c.loop-count.count 1099511627776 c.args.self.now c.loop-count.self c.round.new.self few c.loop-count.invariant.told c.in_ok-round.ensures.told
    (c.in_ok-round.ensures.idle off)

pub loop-count-preserved : goal.loop-count-preserved
loop-count-preserved c = record {
  told = told_rounds c.args.case.now c.loop-count.count c.args.self.now c.loop-count.self c.round.new.self c.loop-count.invariant.told c.in_ok-round.ensures.told;
  few = omega (arith, c.loop-count-test.true);
}
