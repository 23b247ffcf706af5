use Rattle.mt_cache.specs.Calls.{write_word}
use Rattle.mt_cache.proofs.Lists.{write_keeps}
use Rattle.mt_cache.proofs.Ordered.{changed_nth, changed_kept}
use Rattle.mt_cache.proofs.slots.Slots.put.Goals as goal

pub returns-clause-lines : goal.returns-clause-lines
returns-clause-lines c =
    let i = c.self.invariant in
    changed_nth _ _ _ i.0 i.1 i.2 c.args.i (write_word c.args.word c.args.v c.args.dirty) _ _ c.self.view_is c.requires.kept.distinct c.requires.place c.put.ensures.line

pub returns-clause-kept : goal.returns-clause-kept
returns-clause-kept c =
    let i = c.self.invariant in
    changed_kept _ _ _ i.0 i.1 i.2 c.args.i (write_word c.args.word c.args.v c.args.dirty) _ _ (write_keeps c.args.word c.args.v c.args.dirty) c.self.view_is c.requires.kept c.requires.place c.put.ensures.line c.put.ensures.whole
