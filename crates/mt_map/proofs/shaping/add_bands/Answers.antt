use Rattle.std.proofs.Common.{◌∙◌, Option, None, ap, sym}
use Rattle.std.specs.Option.{option_map}
use Rattle.mt_kinds.specs.declared.mem_type.MemType.TheVariants.{UC}
use Rattle.mt_regs.specs.declared.page_type.PageType.TheVariants.{Kind}
use Rattle.mt_types.specs.declared.run.Run.{Run}
use Rattle.mt_map.specs.declared.shape.Shape.TheVariants.{Band as BandShape}
use Rattle.mt_map.specs.Shapes.{band_in}
use Rattle.mt_map.proofs.Adding.{none_more, some_more}
use Rattle.mt_map.proofs.shaping.add_bands.Goals as goal
use Rattle.mt_map.proofs.shaping.add_bands.Goals.{in-Some+in_ok-push-in-Some, in-None}

pub rows-preserved : goal.rows-preserved
rows-preserved c =
    elim c.match-run_in.branch [
      | in-Some+in_ok-push-in-Some w ↦ rw w.shapes-is
          (some_more (band_in c.args.side) c.args.rows.now c.rows.row-index (record { first = 0; count = 0; top = 0; kind = Kind UC; other = None }) c.rows-test.true
          (BandShape c.args.side w.in-Some.run') c.args.shapes.now.items c.rows.shapes.items _
          (ap (λ (found : Option Run). option_map (BandShape c.args.side) found) (sym c.run_in.ensures ∙ w.in-Some.is)) w.in_ok-push-in-Some.ensures.items c.rows.invariant)
      | in-None w ↦ rw w.shapes-is
          (none_more (band_in c.args.side) c.args.rows.now c.rows.row-index (record { first = 0; count = 0; top = 0; kind = Kind UC; other = None }) c.rows-test.true
          c.args.shapes.now.items c.rows.shapes.items (ap (λ (found : Option Run). option_map (BandShape c.args.side) found) (sym c.run_in.ensures ∙ w.in-None.is)) c.rows.invariant)
    ]
