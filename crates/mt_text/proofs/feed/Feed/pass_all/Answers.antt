use Rattle.std.proofs.Common.{◌≡◌, ◌∙◌, ◌+◌, ◌++◌, [], ap, sym, length, arith, append-nil}
use Rattle.std.proofs.lemmas.List.{length-drop}
use Rattle.mt_text.specs.Feed.{pending}
use Rattle.mt_text.specs.Text.{place_behind}
use Rattle.mt_text.proofs.Feeding.{length-zero}
use Rattle.mt_text.proofs.feed.Feed.pass_all.Goals as goal

pub returns-clause-passes : goal.returns-clause-passes
returns-clause-passes c =
    let was = c.pending-pending.ensures.value ∙ ap (λ f. f.pending) c.self.view_is in
    let left = ap (λ f. length f.pending) (c.self-2.view_is ∙ c.pass.ensures) in
    let none : pending c.self-2.inside.buffer ≡ [] =
    length-zero _ (omega (arith, length-drop (length c.pending-pending.result.now + 0) c.args.self.now.pending, ap length was, left)) in (
      c.args.self.now.pending,
      sym (append-nil c.args.self.now.pending) ∙ ap (λ l. c.args.self.now.pending ++ l) (sym none),
      c.place_behind-place.ensures.value ∙ ap (λ l. place_behind c.self.inside.place l) was ∙ ap (λ f. place_behind f.place c.args.self.now.pending) c.self.view_is,
    )
