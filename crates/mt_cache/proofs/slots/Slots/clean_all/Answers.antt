use Rattle.std.proofs.Common.{refl}
use Rattle.mt_cache.specs.Lines.{clean_line}
use Rattle.mt_cache.proofs.Ordered.{changed_nth, changed_kept}
use Rattle.mt_cache.proofs.slots.Slots.clean_all.Goals as goal

pub returns-clause-lines : goal.returns-clause-lines
returns-clause-lines c =
    let i = c.self.invariant in
    changed_nth _ _ _ i.0 i.1 i.2 c.args.i (clean_line) _ _ c.self.view_is c.requires.kept.distinct c.requires.place c.clean_all.ensures.line

pub returns-clause-kept : goal.returns-clause-kept
returns-clause-kept c =
    let i = c.self.invariant in
    changed_kept _ _ _ i.0 i.1 i.2 c.args.i (clean_line) _ _ (λ l. refl) c.self.view_is c.requires.kept c.requires.place c.clean_all.ensures.line c.clean_all.ensures.whole
