use Rattle.std.proofs.Common.{sym, ◌∙◌, ◌||◌, ap}
use Rattle.mt_memory.specs.Showing.{is_shown, shown_in, told_in}
use Rattle.mt_memory.proofs.showing.told_in.Goals as goal

pub returns-then-has_title : goal.returns-then-has_title
unfolding told_in
returns-then-has_title c = c.if-has_title.true ∙ ap (λ b. b || is_shown (shown_in c.args.format c.args.line.now.number c.args.line.now.bytes.now)) (sym c.if-has_title.true ∙ c.has_title.ensures)

pub returns-else-has_title : goal.returns-else-has_title
unfolding told_in
returns-else-has_title c =
    c.is_shown.ensures ∙ ap is_shown c.shown_in.ensures
    ∙ ap (λ b. b || is_shown (shown_in c.args.format c.args.line.now.number c.args.line.now.bytes.now)) (sym c.if-has_title.false ∙ c.has_title.ensures)
