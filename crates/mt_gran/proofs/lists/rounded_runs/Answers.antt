use Rattle.std.proofs.Common.{◌∙◌, ◌-◌, arith, refl, subst, sym}
use Rattle.std.proofs.lemmas.Nat.{pow_pos}
use Rattle.mt_types.specs.Runs.{run_end}
use Rattle.mt_gran.specs.Granules.{pages_of}
use Rattle.mt_gran.specs.Listed.{runs_in}
use Rattle.mt_gran.specs.Marks.{AreRunsOf, IsWholeRun, rounded_mark}
use Rattle.mt_gran.proofs.Rest.{goes_end, goes_on, goes_start, runs_before, whole_run}
use Rattle.mt_gran.proofs.Maps.{rounded_map}
use Rattle.mt_gran.proofs.lists.rounded_runs.Goals as goal

pub loop-i-init : goal.loop-i-init
loop-i-init c = (goes_start c.args.f.now (rounded_mark (pages_of c.args.f.now) c.args.g) c.requires.accepted c.args.own.now c.requires.own, omega arith, refl)

pub add_rounded-count-requires-clause-run : goal.add_rounded-count-requires-clause-run
add_rounded-count-requires-clause-run c =
    subst (IsWholeRun c.args.f.now) (sym (c.run_at.ensures c.run_at.result))
    (whole_run c.args.f.now (rounded_mark (pages_of c.args.f.now) c.args.g) c.args.own.now c.args.own.now (runs_in c.loop-i.count c.loop-i.list) c.loop-i.i refl c.loop-i.invariant.0
    c.run_at.result (omega (arith, c.loop-i-test.true, c.count-i-end.ensures)))

pub add_rounded-count-requires-clause-runs : goal.add_rounded-count-requires-clause-runs
add_rounded-count-requires-clause-runs c =
    subst (λ r. AreRunsOf (rounded_mark (pages_of c.args.f.now) c.args.g) 0 r.first (runs_in c.loop-i.count c.loop-i.list)) (sym (c.run_at.ensures c.run_at.result))
    (runs_before c.args.f.now (rounded_mark (pages_of c.args.f.now) c.args.g) c.args.own.now c.args.own.now (runs_in c.loop-i.count c.loop-i.list) c.loop-i.i refl c.loop-i.invariant.0
    c.run_at.result (omega (arith, c.loop-i-test.true, c.count-i-end.ensures)))

pub loop-i-preserved : goal.loop-i-preserved
loop-i-preserved c = (
  goes_on c.args.f.now (rounded_mark (pages_of c.args.f.now) c.args.g) c.args.own.now c.args.own.now (runs_in c.loop-i.count c.loop-i.list) c.loop-i.i refl c.loop-i.invariant.0
      c.run_at.result (runs_in c.add_rounded-count.result c.add_rounded-count.new.list) (omega (arith, c.loop-i-test.true, c.count-i-end.ensures))
      (subst (λ r. AreRunsOf (rounded_mark (pages_of c.args.f.now) c.args.g) 0 (run_end r) (runs_in c.add_rounded-count.result c.add_rounded-count.new.list)) (c.run_at.ensures c.run_at.result)
      c.add_rounded-count.ensures.runs),
  omega (arith, c.loop-i.invariant.1, c.add_rounded-count.ensures.few),
  c.add_rounded-count.ensures.places ∙ c.loop-i.invariant.2,
)

pub returns-clause-runs : goal.returns-clause-runs
returns-clause-runs c =
    let own = c.requires.own in
    let are = goes_end c.args.f.now (rounded_mark (pages_of c.args.f.now) c.args.g) c.args.own.now c.args.own.now (runs_in c.loop-i.count c.loop-i.list) c.loop-i.i refl c.loop-i.invariant.0 (omega (arith, c.loop-i-test.false, c.count-i-end.ensures)) in
    rounded_map (pages_of c.args.f.now) c.args.g (runs_in c.loop-i.count c.loop-i.list) (pow_pos (c.args.f.now.width - 12)) (omega (arith, own.map.bound, own.whole)) are
