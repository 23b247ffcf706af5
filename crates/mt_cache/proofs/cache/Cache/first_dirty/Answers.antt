use Rattle.std.proofs.Common.{◌≡◌, ◌∙◌, sym, ap, Some, List}
use Rattle.std.specs.Prelude.{slice_get}
use Rattle.mt_cache.specs.declared.line.CacheLine.{CacheLine}
use Rattle.std.specs.List.{position}
use Rattle.mt_cache.specs.Calls.{has_dirty_word}
use Rattle.mt_cache.proofs.Lists.{no_dirty_line, dirty_line, dirty_at_place, dirty_after_all}
use Rattle.mt_cache.proofs.cache.Cache.first_dirty.Goals as goal

pub returns-in_default-clause-clean : goal.returns-in_default-clause-clean
returns-in_default-clause-clean c =
    no_dirty_line c.args.self.now _ (c.first_with_dirty.ensures ∙ ap (position has_dirty_word) c.self.view_is) c.in_default.not-Some

pub returns-in_default-first_word-clause-clean : goal.returns-in_default-first_word-clause-clean
returns-in_default-first_word-clause-clean c =
    let at : position has_dirty_word c.args.self.now ≡ Some c.in-Some.i = sym (c.first_with_dirty.ensures ∙ ap (position has_dirty_word) c.self.view_is) ∙ c.in-Some.is in
    dirty_after_all c.args.self.now c.in-Some.i c.get.result.now _ at (ap (λ (ls : List CacheLine). slice_get ls c.in-Some.i) (sym c.self.view_is) ∙ c.get.ensures) c.first_word.ensures c.in_default-first_word.not-Some

pub returns-clause-line : goal.returns-clause-line
returns-clause-line c =
    dirty_line c.args.self.now c.in-Some.i (sym (c.first_with_dirty.ensures ∙ ap (position has_dirty_word) c.self.view_is) ∙ c.in-Some.is)

pub returns-clause-word : goal.returns-clause-word
returns-clause-word c =
    let at : position has_dirty_word c.args.self.now ≡ Some c.in-Some.i = sym (c.first_with_dirty.ensures ∙ ap (position has_dirty_word) c.self.view_is) ∙ c.in-Some.is in
    dirty_at_place c.args.self.now c.in-Some.i c.get.result.now _ c.in-Some-first_word.word at (ap (λ (ls : List CacheLine). slice_get ls c.in-Some.i) (sym c.self.view_is) ∙ c.get.ensures) c.first_word.ensures c.in-Some-first_word.is
