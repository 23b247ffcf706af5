use Rattle.std.proofs.Common.{[], refl, sym}
use Rattle.mt_dump.specs.Dump.{said_from}
use Rattle.mt_dump.specs.Reader.{read_from}
use Rattle.mt_dump.proofs.Ends.{reads_as, exactly_shown, exactly_offence}
use Rattle.mt_dump.proofs.reader.read_dump.Goals as goal

pub returns : goal.returns
returns c =
    let text = c.args.source.now in
    let is = c.read_slice.ensures.answer (λ lines end. read_from end [] (said_from 1 lines)) (record { before = []; read = c.new.ensures; leads = λ lines end. refl }) in
    let answer = reads_as text c.read_slice.result (sym is) in
    record { answer = answer; ok = exactly_shown text c.read_slice.result answer; err = exactly_offence text c.read_slice.result answer }
