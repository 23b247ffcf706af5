use Rattle.std.proofs.Common.{◌+◌, ◌∙◌, ap, arith, subst, sym, ℕ, drop}
use Rattle.mt_regs.proofs.Powers.{few_pages}
use Rattle.mt_gran.specs.Granules.{pages_of}
use Rattle.mt_gran.specs.Marks.{part_loss}
use Rattle.mt_gran.proofs.Counts.{Counted, all_lost, counted_start, default_run, few_lost, more_lost}
use Rattle.mt_gran.proofs.lists.lost_of.Goals as goal

pub loop-i-init : goal.loop-i-init
loop-i-init c = counted_start (pages_of c.args.f.now) c.args.g c.args.parts.now c.requires

pub overflow_add-lost : goal.overflow_add-lost
overflow_add-lost c =
    let few = few_lost (pages_of c.args.f.now) c.args.g c.args.parts.now c.loop-i.i c.loop-i.lost c.loop-i.invariant default_run (omega (arith, c.loop-i-test.true, c.count-i-end.ensures)) in
    let pages = few_pages c.args.f.now.width c.is_register_file.ensures.narrow in
    omega (arith, few, pages, c.part_loss-lost.ensures, ap part_loss (c.run_at.ensures default_run))

pub loop-i-preserved : goal.loop-i-preserved
loop-i-preserved c =
    subst (λ (n : ℕ). Counted (pages_of c.args.f.now) c.args.g (drop (c.loop-i.i + 1) c.args.parts.now) (c.loop-i.lost + n)) (sym (c.part_loss-lost.ensures ∙ ap part_loss (c.run_at.ensures c.run_at.result)))
    (more_lost (pages_of c.args.f.now) c.args.g c.args.parts.now c.loop-i.i c.loop-i.lost c.loop-i.invariant c.run_at.result (omega (arith, c.loop-i-test.true, c.count-i-end.ensures)))

pub returns : goal.returns
returns c = all_lost (pages_of c.args.f.now) c.args.g c.args.parts.now c.loop-i.i c.loop-i.lost c.loop-i.invariant (omega (arith, c.loop-i-test.false, c.count-i-end.ensures))
