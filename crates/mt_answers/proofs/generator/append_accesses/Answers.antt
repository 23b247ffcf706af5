use Rattle.std.proofs.Common.{◌≡◌, ◌∙◌, ◌-◌, ◌++◌, ap, arith, string_bytes}
use Rattle.mt_answers.specs.Generator.{accesses, after_accesses, stepped}
use Rattle.mt_answers.proofs.Making.{accesses_end, accesses_on, after_end, after_on}
use Rattle.mt_answers.proofs.generator.append_accesses.Goals as goal

pub accesses-preserved : goal.accesses-preserved
accesses-preserved c =
    let next = c.stepped-x.ensures ∙ ap stepped (c.stepped-in-accesses.ensures ∙ ap stepped c.stepped.ensures) in
    record {
      text = rw (next, c.in_ok-append_access.ensures) (accesses_on (string_bytes c.accesses.text) (string_bytes c.args.text.now ++ accesses 512 c.args.first) c.accesses.i c.accesses.x c.accesses-test.true c.accesses.invariant.text);
      x = rw next (after_on c.accesses.i c.accesses.x (after_accesses 512 c.args.first) c.accesses-test.true c.accesses.invariant.x);
    }

pub returns : goal.returns
returns c =
    let none : 512 - c.accesses.i ≡ 0 = omega arith in (
      accesses_end (string_bytes c.accesses.text) (string_bytes c.args.text.now ++ accesses 512 c.args.first) c.accesses.x (rw none at c.accesses.invariant.text),
      after_end c.accesses.x (after_accesses 512 c.args.first) (rw none at c.accesses.invariant.x),
    )
