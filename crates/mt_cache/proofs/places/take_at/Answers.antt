use Rattle.std.proofs.Common.{◌∙◌, sym, subst}
use Rattle.mt_cache.specs.Calls.{AreLines}
use Rattle.mt_cache.proofs.Lists.{take_gives, take_kept, taken_whole}
use Rattle.mt_cache.proofs.places.take_at.Goals as goal

pub returns-clause-whole : goal.returns-clause-whole
returns-clause-whole g c = taken_whole _ _ _ c.requires.place c.remove.ensures.value c.requires.kept

pub returns-clause-lines : goal.returns-clause-lines
returns-clause-lines g c = c.remove.ensures.items ∙ take_gives _ _ _ c.requires.place c.remove.ensures.value c.requires.kept.distinct

pub returns-clause-kept : goal.returns-clause-kept
returns-clause-kept g c = subst AreLines (sym c.remove.ensures.items) (take_kept _ _ _ c.requires.place c.remove.ensures.value c.requires.kept)
