use Rattle.std.proofs.Common.{[], refl}
use Rattle.mt_dump.specs.Dump.{said_from}
use Rattle.mt_dump.specs.Reader.{read_from}
use Rattle.mt_dump.specs.Given.{given_after}
use Rattle.mt_dump.proofs.Gives.{gives_all}
use Rattle.mt_dump.proofs.given.read_given.Goals as goal

pub returns : goal.returns
returns c =
    let is = c.read_slice.ensures.answer (λ lines end. given_after (said_from 1 lines) (read_from end [] (said_from 1 lines))) (record { before = []; read = c.new.ensures; ended_is = c.new-2.ensures; leads = λ lines end. refl }) in
    record { answer = is; given = gives_all c.args.source.now c.read_slice.result is }
