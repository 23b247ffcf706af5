use Rattle.std.proofs.Common.{◌≡◌, ◌-◌, ◌++◌, arith, string_bytes}
use Rattle.mt_answers.specs.Generator.{rounds}
use Rattle.mt_answers.proofs.Making.{rounds_end, rounds_on}
use Rattle.mt_answers.proofs.generator.append_rounds.Goals as goal

pub rounds-preserved : goal.rounds-preserved
rounds-preserved c =
    let parts = c.in_ok-x.ensures in
    rw (parts.0, parts.1) (rounds_on (string_bytes c.rounds.text) (string_bytes c.args.text.now ++ rounds 8 0 c.args.first) c.rounds.round c.rounds.x c.rounds-test.true c.rounds.invariant)

pub returns : goal.returns
returns c =
    let none : 8 - c.rounds.round ≡ 0 = omega arith in
    rounds_end (string_bytes c.rounds.text) (string_bytes c.args.text.now ++ rounds 8 0 c.args.first) c.rounds.round c.rounds.x (rw none at c.rounds.invariant)
