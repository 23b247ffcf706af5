use Rattle.std.proofs.Common.{None, replicate, sym, subst}
use Rattle.mt_import.specs.declared.shape.Slot.{Slot}
use Rattle.mt_import.specs.declared.shape.Warned.{Warned}
use Rattle.mt_import.specs.Slot.{blank_slot}
use Rattle.mt_import.specs.Outcome.{nothing_seen}
use Rattle.mt_import.specs.Reader.{HasTakenFacts, IsReader}
use Rattle.mt_import.proofs.Held.{reader_new, taken_new}
use Rattle.mt_import.proofs.reader.LogReader.new.Goals as goal

pub invariant_of-result : goal.invariant_of-result
invariant_of-result c = subst (λ (b : Slot). IsReader (replicate 1584 b) 1 None) (sym c.blank-blank.ensures) reader_new

pub returns-clause-taken : goal.returns-clause-taken
returns-clause-taken c =
    subst (λ (b : Slot). HasTakenFacts (record { context = c.starts.result; slots = replicate 1584 b; capabilities = b; last = None; line_of_fixed = None; processors = 1; width = None; line_of_width = 0; tally = record { format = c.args.format; lines = 0; matches = 0; warned = c.none.result } }) (nothing_seen c.args.format))
    (sym c.blank-blank.ensures)
    (subst (λ (w : Warned). HasTakenFacts (record { context = c.starts.result; slots = replicate 1584 blank_slot; capabilities = blank_slot; last = None; line_of_fixed = None; processors = 1; width = None; line_of_width = 0; tally = record { format = c.args.format; lines = 0; matches = 0; warned = w } }) (nothing_seen c.args.format))
    (sym c.none.ensures) (taken_new c.starts.result c.args.format))
