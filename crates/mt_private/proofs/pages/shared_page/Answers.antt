use Rattle.std.proofs.Common.{◌∙◌, sym}
use Rattle.mt_private.proofs.Walk.{found_least, found_none, least_found, none_found}
use Rattle.mt_private.proofs.pages.shared_page.Goals as goal

pub returns-clause-none : goal.returns-clause-none
returns-clause-none c =
    (λ is. none_found c.args.core.now.system (sym c.over_core.ensures ∙ is), λ private. c.over_core.ensures ∙ found_none c.args.core.now.system private)

pub returns-clause-least : goal.returns-clause-least
returns-clause-least c page =
    (λ is. least_found c.args.core.now.system page (sym c.over_core.ensures ∙ is), λ h. c.over_core.ensures ∙ found_least c.args.core.now.system page h)
