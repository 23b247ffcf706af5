use Rattle.std.proofs.Common.{◌∙◌, ap, arith}
use Rattle.std.specs.Prelude.{slice_get}
use Rattle.mt_tidy.proofs.Coming.{full_stays}
use Rattle.mt_tidy.proofs.laid.find_again.Goals as goal

pub find_divided-requires : goal.find_divided-requires
find_divided-requires c =
    let holds = c.find_halves.ensures.halves in
    record { halves = (c.args.search.now.wanted, record { mixed = holds.mixed; lower = holds.lower; upper = holds.upper }) }

pub returns-clause-choice : goal.returns-clause-choice
returns-clause-choice c =
    let holds = c.find_halves.ensures.halves in
    c.find_divided.ensures.choice c.args.search.now.wanted (record { mixed = holds.mixed; lower = holds.lower; upper = holds.upper })

pub returns-clause-choices : goal.returns-clause-choices
returns-clause-choices c = λ i.
    let come = c.find_halves.ensures.come in
    ap (λ cs. slice_get cs i) c.find_divided.ensures.choices
    ∙ full_stays c.args.table.now.choices c.find_halves.new.table.choices c.args.table.now.count c.requires.full (omega (arith, come.places, c.requires.full)) come.earlier i
