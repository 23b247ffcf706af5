use Rattle.std.proofs.Common.{◌≡◌, ◌∙◌, Some, None, get_or, refl, sym, true, false}
use Rattle.mt_kinds.specs.declared.mem_type.MemType.TheVariants.{UC}
use Rattle.mt_regs.specs.declared.page_type.PageType.TheVariants.{Kind}
use Rattle.mt_map.specs.declared.band.Band.{Band}
use Rattle.mt_map.specs.declared.shape.Shape.TheVariants.{Mark}
use Rattle.mt_map.specs.Bands.{is_different}
use Rattle.mt_map.specs.Shapes.{mark_in}
use Rattle.mt_map.proofs.Adding.{none_more, some_more}
use Rattle.mt_map.proofs.shaping.add_marks.Goals.{then-is_different+in_ok-push, else-is_different}
use Rattle.mt_map.proofs.shaping.add_marks.Goals as goal

marked : (row : Band) → is_different row ≡ true → mark_in row ≡ Some (Mark (record { first = row.first; count = row.count }))
marked row on = rw on refl

not_marked : (row : Band) → is_different row ≡ false → mark_in row ≡ None
not_marked row off = rw off refl

pub rows-preserved : goal.rows-preserved
rows-preserved c =
    let row : Band = get_or c.args.rows.now c.rows.row-index (record { first = 0; count = 0; top = 0; kind = Kind UC; other = None }) in
    elim c.if-is_different.branch [
      | then-is_different+in_ok-push w ↦ rw w.shapes-is
          (some_more mark_in c.args.rows.now c.rows.row-index (record { first = 0; count = 0; top = 0; kind = Kind UC; other = None }) c.rows-test.true
          (Mark (record { first = row.first; count = row.count })) c.args.shapes.now.items c.rows.shapes.items _ (marked row (sym c.is_different.ensures ∙ w.if-is_different.true))
          w.in_ok-push.ensures.items c.rows.invariant)
      | else-is_different w ↦ rw w.shapes-is
          (none_more mark_in c.args.rows.now c.rows.row-index (record { first = 0; count = 0; top = 0; kind = Kind UC; other = None }) c.rows-test.true
          c.args.shapes.now.items c.rows.shapes.items (not_marked row (sym c.is_different.ensures ∙ w.if-is_different.false)) c.rows.invariant)
    ]
