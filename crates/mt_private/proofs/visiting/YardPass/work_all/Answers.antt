use Rattle.std.proofs.Common.{◌≡◌, ◌∙◌, ap, sym, refl, true}
use Rattle.mt_cpu.specs.Steps.{is_local}
use Rattle.mt_private.proofs.Alone.{its_phase}
use Rattle.mt_private.proofs.Nearer.{less_left}
use Rattle.mt_private.proofs.visiting.YardPass.work_all.Goals as goal

pub loop-core-init : goal.loop-core-init
loop-core-init c = record { between = λ first h. h; phase = c.requires.between.1.phase; number = refl; done = refl }

pub work-requires-clause-between : goal.work-requires-clause-between
work-requires-clause-between c = let b = c.requires.between in (b.0, c.loop-core.invariant.between b.0 b.1)

pub loop-core-preserved : goal.loop-core-preserved
loop-core-preserved c =
    let b = c.requires.between in
    let on = c.work.ensures in
    record {
      between = λ first h. on.between first (c.loop-core.invariant.between first h);
      phase = (on.between b.0 (c.loop-core.invariant.between b.0 b.1)).phase;
      number = on.number ∙ c.loop-core.invariant.number;
      done = on.done ∙ c.loop-core.invariant.done;
    }

pub loop-core-smaller : goal.loop-core-smaller
loop-core-smaller c =
    let b = c.requires.between in
    let v = (c.loop-core.invariant.between b.0 b.1).visits in
    let r = v.lodges in
    let here : is_local r.cpu.phase ≡ true = ap is_local (its_phase c.phase_of.result c.loop-core.core.system r.cpu r.alone c.phase_of.ensures) ∙ sym c.is_local.ensures ∙ c.loop-core-test.true in
    less_left v c.work.new.core c.a_core_arises.ensures.arises here c.work.ensures.after

pub returns-clause-between : goal.returns-clause-between
returns-clause-between c = c.loop-core.invariant.between
