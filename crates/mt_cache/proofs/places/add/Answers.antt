use Rattle.std.proofs.Common.{◌++◌, ◌∷◌, [], ◌∙◌, sym, subst, ap, List}
use Rattle.std.proofs.lemmas.Bool.{eqb-true, eqb-false}
use Rattle.mt_cache.specs.declared.line.CacheLine.{CacheLine}
use Rattle.mt_cache.specs.Calls.{AreLines}
use Rattle.mt_cache.proofs.Lists.{room_full, room_free, add_kept}
use Rattle.mt_cache.proofs.places.add.Goals as goal
use Rattle.mt_cache.proofs.places.add.Goals.{then-is_full, else-is_full}

pub returns-clause-lines : goal.returns-clause-lines
returns-clause-lines g c =
    c.push.ensures.items
    ∙ ap (λ (ls : List CacheLine). ls ++ c.args.line ∷ [])
    (elim c.if-is_full.branch [
      | then-is_full w ↦ rw (w.lines-is, w.remove.ensures.items) (room_full g.row.N c.args.lines.now.items c.requires.size (eqb-true _ _ (sym c.is_full.ensures.value ∙ w.if-is_full.true)) c.requires.kept.distinct)
      | else-is_full w ↦ rw w.lines-is (room_free g.row.N c.args.lines.now.items (eqb-false _ _ (sym c.is_full.ensures.value ∙ w.if-is_full.false)))
    ])

pub returns-clause-kept : goal.returns-clause-kept
returns-clause-kept g c =
    subst AreLines (sym (returns-clause-lines g c)) (add_kept g.row.N c.args.lines.now.items c.args.line c.requires.kept c.requires.absent c.requires.whole)
