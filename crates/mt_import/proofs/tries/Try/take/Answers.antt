use Rattle.std.proofs.Common.{◌∙◌, sym, ap}
use Rattle.std.specs.Prelude.{is_some}
use Rattle.mt_import.specs.LogTables.{context_told, facts_told}
use Rattle.mt_import.specs.Tries.{Tried}
use Rattle.mt_import.proofs.Takes.{told_tried, tried_stops}
use Rattle.mt_import.proofs.tries.Try.take.Goals as goal

pub returns-then-is_done : goal.returns-then-is_done
returns-then-is_done c = λ start facts context held.
    tried_stops c.args.supplied.now start facts (facts_told c.args.is_read context c.args.told.now) context (context_told c.args.is_read context c.args.told.now) c.args.self.now (sym c.is_done.ensures ∙ c.if-is_done.true) held

pub returns : goal.returns
returns c = λ start facts context.
    let fine = ap (λ (t : Tried). is_some t.fault) c.self.view_is ∙ sym c.is_done.ensures ∙ c.if-is_done.false in
    rw (← c.self.view_is) (λ held.
    rw c.fault_in-self-inside.ensures.fault (told_tried c.args.supplied.now start facts context (record { state = c.self.inside.reader; fault = c.self.inside.fault }) c.take-taken.new.self c.args.told.now c.args.is_read c.kept.result
    c.take-taken.result c.kept.ensures fine held c.take-taken.ensures.facts c.take-taken.ensures.context))
