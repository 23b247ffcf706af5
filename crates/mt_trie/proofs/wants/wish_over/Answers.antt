use Rattle.std.proofs.Common.{◌≡◌, ℕ, ◌<◌, List, length, take, get_or, sym, ap, ◌∙◌, refl}
use Rattle.std.proofs.lemmas.List.Folds.{fold_stuck}
use Rattle.mt_types.specs.declared.run.Run.{Run}
use Rattle.mt_trie.specs.declared.wish.Wish.{Wish}
use Rattle.mt_trie.specs.declared.wish.Wish.TheVariants.{Any, Mixed}
use Rattle.mt_trie.specs.RunWishes.{wish_in, wish_over}
use Rattle.mt_trie.specs.Wishes.{both}
use Rattle.mt_trie.proofs.wants.wish_over.Goals as goal

-- where some runs want two types, all do
stays_mixed : (start end : ℕ) (runs : List Run) (i : ℕ) (r : Run) (wish next found : Wish) → (d : Run) → r ≡ get_or runs i d → i < length runs
    → wish ≡ wish_over start end (take i runs) → next ≡ wish_in start end r → found ≡ both wish next → found ≡ Mixed → found ≡ wish_over start end runs
stays_mixed start end runs i r wish next found d at within before here is mixed =
    mixed
    ∙ fold_stuck (λ w s. both w (wish_in start end s)) Mixed (λ s. refl) Any runs i d within
    (ap (λ w. both w (wish_in start end (get_or runs i d))) (sym before) ∙ ap (λ s. both wish (wish_in start end s)) (sym at) ∙ ap (both wish) (sym here) ∙ sym is ∙ mixed)

pub returns-in-Mixed : goal.returns-in-Mixed
returns-in-Mixed c =
    stays_mixed c.args.start c.args.end c.args.runs.now c.loop-run.run-index _ c.loop-run.wish c.wish_in.result c.both-wish.result _ refl c.loop-run-test.true
    c.loop-run.invariant c.wish_in.ensures c.both-wish.ensures c.in-Mixed.is
