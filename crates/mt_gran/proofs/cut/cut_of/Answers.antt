use Rattle.std.proofs.Common.{◌∙◌, ap, refl, subst, ℕ}
use Rattle.std.specs.Prelude.{max, min}
use Rattle.mt_types.specs.Runs.{run_end}
use Rattle.mt_gran.proofs.Cuts.{IsFrom, IsTo, none_whole, some_whole}
use Rattle.mt_gran.proofs.cut.cut_of.Goals as goal

pub returns-then-from-to : goal.returns-then-from-to
returns-then-from-to c =
    let begins = c.whole_from-from.ensures in
    let ends = c.whole_to-to.ensures in
    let start = c.first_not_free-start.ensures in
    some_whole c.args.f.now c.args.g c.args.run.now c.requires.run c.min-free_end.result c.whole_from-from.result c.whole_to-to.result
    (c.min-free_end.ensures ∙ ap (λ (n : ℕ). min n (run_end c.args.run.now)) (c.max.ensures ∙ ap (max c.args.run.now.first) start))
    (subst (λ (n : ℕ). IsFrom n c.args.g c.args.run.now.first c.min-free_end.result c.whole_from-from.result) start
    (record { low = begins.low; aligned = begins.aligned; within = begins.within }))
    (subst (λ (n : ℕ). IsTo n c.args.g (run_end c.args.run.now) c.whole_to-to.result) c.pages-pages.ensures.pages
    (record { last = ends.last; inner = ends.inner }))
    c.if-from-to.true _ refl

pub returns-else-from-to : goal.returns-else-from-to
returns-else-from-to c =
    let begins = c.whole_from-from.ensures in
    let ends = c.whole_to-to.ensures in
    let start = c.first_not_free-start.ensures in
    none_whole c.args.f.now c.args.g c.args.run.now c.requires.run c.min-free_end.result c.whole_from-from.result c.whole_to-to.result
    (c.min-free_end.ensures ∙ ap (λ (n : ℕ). min n (run_end c.args.run.now)) (c.max.ensures ∙ ap (max c.args.run.now.first) start))
    (subst (λ (n : ℕ). IsFrom n c.args.g c.args.run.now.first c.min-free_end.result c.whole_from-from.result) start
    (record { low = begins.low; aligned = begins.aligned; within = begins.within }))
    (subst (λ (n : ℕ). IsTo n c.args.g (run_end c.args.run.now) c.whole_to-to.result) c.pages-pages.ensures.pages
    (record { last = ends.last; inner = ends.inner }))
    c.if-from-to.false _ refl
