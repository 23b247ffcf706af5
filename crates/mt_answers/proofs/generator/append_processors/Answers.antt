use Rattle.std.proofs.Common.{◌≡◌, ◌-◌, ◌++◌, arith, string_bytes}
use Rattle.mt_answers.specs.Generator.{processors}
use Rattle.mt_answers.proofs.Making.{processors_end, processors_on}
use Rattle.mt_answers.proofs.generator.append_processors.Goals as goal

pub processors-preserved : goal.processors-preserved
processors-preserved c =
    rw c.in_ok-append_processor.ensures (processors_on (string_bytes c.processors.text) (string_bytes c.args.text.now ++ processors 16 0) c.processors.cpu c.processors-test.true c.processors.invariant)

pub returns : goal.returns
returns c =
    let none : 16 - c.processors.cpu ≡ 0 = omega arith in
    processors_end (string_bytes c.processors.text) (string_bytes c.args.text.now ++ processors 16 0) c.processors.cpu (rw none at c.processors.invariant)
