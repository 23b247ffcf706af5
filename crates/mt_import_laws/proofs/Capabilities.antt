-- What readings of the capability register show has the bits of each of them, of whatever processor it is.
use Rattle.std.proofs.Common.{◌≡◌, ℕ, Bool, true, false, ◌==◌, List, [], ◌∷◌, Option, Some, None, refl, sym, ◌∙◌, subst, inl, inr}
use Rattle.std.specs.Prelude.{if◌then◌else◌}
use Rattle.std.specs.Int.{bit_at}
use Rattle.std.proofs.lemmas.Bool.{eqb-true}
use Rattle.mt_ports.specs.declared.status.Status.TheVariants.{BadText}
use Rattle.mt_import.specs.declared.fault.Rival.{Rival}
use Rattle.mt_import.specs.declared.fault.Rival.TheVariants.{Line, CapabilityLine}
use Rattle.mt_import.specs.declared.format.Choice.{Choice}
use Rattle.mt_import.specs.declared.shape.LastPair.{LastPair}
use Rattle.mt_import.specs.declared.shape.Reading.{Reading}
use Rattle.mt_import.specs.declared.shape.Slot.{Slot}
use Rattle.mt_import.specs.Shown.{is_auto}
use Rattle.mt_import.specs.Slot.{clashes, slot_with}
use Rattle.mt_import.specs.Supplied.{Supplied}
use Rattle.mt_import.specs.Outcome.{capabilities_after, capabilities_shown, capability_rival, count_rival, counted, counts_fewer, ended, last_shown, least_count, uncounted_rival}
use Rattle.mt_import.specs.Import.{log_outcome}
use Rattle.mt_import_laws.specs.Origins.{ContradictInCapabilities, IsAmong, readings_of, seen_of}
use Rattle.mt_import_laws.proofs.Bits.{bit_first, bit_second, same_number, value_kept, value_new}
use Rattle.mt_import_laws.proofs.Faults.{fault_of, faulty, fine_of, till_of}
use Rattle.mt_import_laws.proofs.Fine.{HasBit, IsFine, tests_of_rival}

no_clash : (clash : Bool) (line : ℕ) (others : Option Rival) → (if clash then Some (Line line) else others) ≡ None → clash ≡ false
no_clash true line others is = cc is
no_clash false line others is = refl

no_count : (fewer : Bool) (line : ℕ) (others : Option Rival) → (if fewer then Some (CapabilityLine line) else others) ≡ None → others ≡ None
no_count true line others is = cc is
no_count false line others is = is

-- no reading of the capability register clashes with those before it
fits : (capabilities : Slot) (last : Option LastPair) (reading : Reading) → count_rival capabilities last reading ≡ None → reading.number ≡ 0xfe → clashes capabilities reading ≡ false
fits capabilities last reading none number =
    let rest = no_count (counts_fewer (counted capabilities) (least_count reading)) capabilities.line (if reading.number == 0xfe then capability_rival capabilities last reading else None) none in
    let found : capability_rival capabilities last reading ≡ None = rw (same_number reading.number 0xfe number) at rest in
    no_clash (clashes capabilities reading) capabilities.line (uncounted_rival (counted (slot_with capabilities reading)) last) found

kept : (slot : Slot) (other reading : Reading) (i : ℕ) → (other.number ≡ 0xfe → clashes slot other ≡ false) → HasBit slot reading i → (test : Bool) → (other.number == 0xfe) ≡ test
    → HasBit (if test then slot_with slot other else slot) reading i
kept slot other reading i fit has true same =
    record { shown = bit_first slot.bits other.bits i has.shown; value = value_kept slot other i (fit (eqb-true other.number 0xfe same)) has.shown ∙ has.value }
kept slot other reading i fit has false apart = has

here : (slot : Slot) (reading : Reading) (i : ℕ) → reading.number ≡ 0xfe → clashes slot reading ≡ false → bit_at reading.bits i ≡ 1 → HasBit (capabilities_after reading slot) reading i
here slot reading i number fit one = rw (same_number reading.number 0xfe number) (record { shown = bit_second slot.bits reading.bits i one; value = value_new slot reading i fit one })

pub agreed : (supplied : Supplied) (readings : List Reading) (reading : Reading) (i : ℕ) → IsFine supplied readings → IsAmong reading readings → reading.number ≡ 0xfe → bit_at reading.bits i ≡ 1
    → HasBit (capabilities_shown readings) reading i
agreed supplied [] reading i fine among number one = absurd among
agreed supplied (other ∷ before) reading i fine (inl same) number one =
    subst (λ (r : Reading). HasBit (capabilities_after r (capabilities_shown before)) reading i) (sym same)
    (here (capabilities_shown before) reading i number (fits (capabilities_shown before) (last_shown before) reading (subst (λ (r : Reading). count_rival (capabilities_shown before) (last_shown before) r ≡ None) same (tests_of_rival supplied before other fine.0).2) number) one)
agreed supplied (other ∷ before) reading i fine (inr later) number one =
    kept (capabilities_shown before) other reading i (fits (capabilities_shown before) (last_shown before) other (tests_of_rival supplied before other fine.0).2)
    (agreed supplied before reading i fine.1 later number one) (other.number == 0xfe) refl

pub capability_contradictions : (choice : Choice) (supplied : Supplied) (text : List ℕ) (a b : Reading) → IsAmong a (readings_of choice text) → IsAmong b (readings_of choice text) → ContradictInCapabilities a b
    → (log_outcome choice supplied text).status ≡ BadText
capability_contradictions choice supplied text a b has_a has_b apart =
    faulty (fault_of choice supplied text) (till_of choice supplied text) (ended (is_auto choice) supplied (seen_of choice text)) (λ none.
    let fine = fine_of choice supplied text none in
    let one = agreed supplied (readings_of choice text) a apart.bit fine has_a apart.number apart.first in
    let two = agreed supplied (readings_of choice text) b apart.bit fine has_b apart.number_too apart.second in
    apart.differ (sym one.value ∙ two.value))
