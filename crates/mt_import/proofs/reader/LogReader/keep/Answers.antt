use Rattle.std.proofs.Common.{◌∙◌, Some, refl, sym, ap}
use Rattle.mt_import.specs.Reader.{State, held_at}
use Rattle.mt_import.specs.Slot.{slot_with}
use Rattle.mt_import.specs.declared.shape.Slot.{Slot}
use Rattle.mt_import.proofs.Held.{taken_more}
use Rattle.mt_import.proofs.reader.LogReader.keep.Goals as goal

pub returns : goal.returns
returns c =
    let old = c.self.inside in
    let reading = c.args.reading.now in
    let state : State = record { context = old.context; slots = old.slots; capabilities = old.capabilities; last = old.last; line_of_fixed = old.line_of_fixed; processors = old.processors; width = old.width; line_of_width = old.line_of_width; tally = old.tally } in
    let at = sym c.slot_of.ensures.slot ∙ c.in-Some.is in
    let next =
    c.with-next.ensures ∙ ap (λ (s : Slot). slot_with s reading) c.held.ensures
    ∙ ap (λ (s : State). slot_with (held_at s.slots reading.processor (Some c.in-Some.slot)) reading) (sym c.self.view_is) in
    rw (← c.self.view_is) (record {
      taken = λ seen holds.
          rw (c.capabilities_after-self-inside.ensures, c.last_after-self-inside.ensures, c.fixed_line_after-self-inside.ensures, c.greater-self-inside.ensures, c.by-self-inside.ensures)
          (taken_more state reading c.in-Some.slot c.with-next.result c.self.invariant at c.requires.processor next seen holds);
      context = refl;
    })
