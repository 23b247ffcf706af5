-- Contradictions are faults.
use Rattle.std.proofs.Common.{◌≡◌, ℕ, List, Option, Some, None, refl, sym, ◌∙◌, ap}
use Rattle.std.specs.Int.{bit_at}
use Rattle.mt_ports.specs.declared.status.Status.TheVariants.{BadText}
use Rattle.mt_import.specs.declared.fault.ImportFault.{ImportFault}
use Rattle.mt_import.specs.declared.format.Choice.{Choice}
use Rattle.mt_import.specs.declared.shape.Reading.{Reading}
use Rattle.mt_import.specs.declared.shape.Warned.{Warned}
use Rattle.mt_import.specs.Census.{format_of}
use Rattle.mt_import.specs.Shown.{is_auto, shown}
use Rattle.mt_import.specs.Supplied.{Supplied}
use Rattle.mt_import.specs.Outcome.{Outcome, ended, facts_fault, nothing_seen, slot_shown, unless, warned_till}
use Rattle.mt_import.specs.Import.{log_outcome}
use Rattle.mt_import_laws.specs.Origins.{Contradict, ContradictsWord, IsAmong, readings_of, seen_of}
use Rattle.mt_import_laws.proofs.Fine.{IsFine, agreed, fine_after, word_agrees}

abbrev pub fault_of : Choice → Supplied → List ℕ → Option ImportFault
fault_of choice supplied text = facts_fault supplied (nothing_seen (format_of choice text)) (shown (format_of choice text) text)

-- what lines before the first fault warn of
abbrev pub till_of : Choice → Supplied → List ℕ → Warned
till_of choice supplied text = warned_till supplied (nothing_seen (format_of choice text)) (shown (format_of choice text) text)

pub fine_of : (choice : Choice) (supplied : Supplied) (text : List ℕ) → fault_of choice supplied text ≡ None → IsFine supplied (readings_of choice text)
fine_of choice supplied text none = fine_after supplied (shown (format_of choice text) text) (nothing_seen (format_of choice text)) none tt

pub faulty : (fault : Option ImportFault) (warned : Warned) (told : Outcome) → (fault ≡ None → ⊥) → (unless fault warned told).status ≡ BadText
faulty None warned told not_none = absurd (not_none refl)
faulty (Some fault) warned told not_none = refl

pub contradictions : (choice : Choice) (supplied : Supplied) (text : List ℕ) (a b : Reading) → IsAmong a (readings_of choice text) → IsAmong b (readings_of choice text) → Contradict a b
    → (log_outcome choice supplied text).status ≡ BadText
contradictions choice supplied text a b has_a has_b apart =
    faulty (fault_of choice supplied text) (till_of choice supplied text) (ended (is_auto choice) supplied (seen_of choice text)) (λ none.
    let fine = fine_of choice supplied text none in
    let one = agreed supplied (readings_of choice text) a apart.bit fine has_a apart.first in
    let two = agreed supplied (readings_of choice text) b apart.bit fine has_b apart.second in
    let same = ap (λ k. bit_at (slot_shown (readings_of choice text) k a.number).value apart.bit) apart.processor ∙ ap (λ n. bit_at (slot_shown (readings_of choice text) b.processor n).value apart.bit) apart.number in
    apart.differ (sym one.value ∙ same ∙ two.value))

pub word_contradictions : (choice : Choice) (supplied : Supplied) (text : List ℕ) (a : Reading) → IsAmong a (readings_of choice text) → ContradictsWord supplied a → (log_outcome choice supplied text).status ≡ BadText
word_contradictions choice supplied text a has apart =
    faulty (fault_of choice supplied text) (till_of choice supplied text) (ended (is_auto choice) supplied (seen_of choice text)) (λ none.
    apart.differ (word_agrees supplied (readings_of choice text) a apart.value apart.bit (fine_of choice supplied text none) has apart.given apart.shown_bit))
