use Rattle.std.proofs.Common.{◌∙◌, ap, sym}
use Rattle.mt_import.specs.LogTables.{has_picked, missing_table}
use Rattle.mt_import.specs.Outcome.{refusal}
use Rattle.mt_import.specs.Tries.{Tried}
use Rattle.mt_import.specs.declared.shape.Way.{Way}
use Rattle.mt_import.proofs.Takes.{closes, lacks}
use Rattle.mt_import.proofs.tries.Tries.closed.Goals as goal

pub returns-then-have-clause-told : goal.returns-then-have-clause-told
returns-then-have-clause-told c = λ seen taken.
    let tries = c.args.self.now in
    let supplied = c.args.supplied.now in
    let state = c.reader-reader.ensures ∙ ap (λ (t : Tried). t.state) c.current.ensures in
    let has = sym (ap (λ p. has_picked p c.way.result.tables) c.table-pick.ensures ∙ ap (λ (w : Way). has_picked supplied.table w.tables) c.way.ensures) ∙ sym c.have.ensures ∙ c.if-have.true in
    c.finish.ensures.told ∙ closes c.args.is_auto supplied tries.way.tables tries.current seen taken c.reader-reader.result.now state has

pub returns-else-have-clause-told : goal.returns-else-have-clause-told
returns-else-have-clause-told c = λ seen taken.
    let tries = c.args.self.now in
    let supplied = c.args.supplied.now in
    let state = c.reader-reader.ensures ∙ ap (λ (t : Tried). t.state) c.current.ensures in
    let has = sym (ap (λ p. has_picked p c.way.result.tables) c.table-pick.ensures ∙ ap (λ (w : Way). has_picked supplied.table w.tables) c.way.ensures) ∙ sym c.have.ensures ∙ c.if-have.false in
    let text = c.as_slice.ensures.value ∙ c.missing_table.ensures.text ∙ ap (λ p. missing_table p c.way.result.tables) c.table-pick.ensures ∙ ap (λ (w : Way). missing_table supplied.table w.tables) c.way.ensures in
    c.refusal.ensures.told ∙ ap (refusal c.tally.result) text ∙ ap (λ t. refusal t (missing_table supplied.table tries.way.tables)) c.tally.ensures
    ∙ lacks c.args.is_auto supplied tries.way.tables tries.current seen taken c.reader-reader.result.now state has
