use Rattle.mt_cache.specs.Calls.{write_word}
use Rattle.mt_cache.proofs.Lists.{change_gives, change_kept, write_keeps}
use Rattle.mt_cache.proofs.places.put_at.Goals as goal

pub returns-clause-lines : goal.returns-clause-lines
returns-clause-lines g c = change_gives (write_word c.args.word c.args.v c.args.dirty) _ _ _ _ _ c.as_mut_slice.ensures.value c.requires.place c.put.ensures.line c.requires.kept.distinct

pub returns-clause-kept : goal.returns-clause-kept
returns-clause-kept g c =
    change_kept (write_word c.args.word c.args.v c.args.dirty) (write_keeps c.args.word c.args.v c.args.dirty)
    _ _ _ _ _ c.as_mut_slice.ensures.value c.requires.place c.put.ensures.line c.put.ensures.whole c.requires.kept
