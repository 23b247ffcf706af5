-- VCNT counts each pair that lines show as enabled.
use Rattle.std.proofs.Common.{◌≡◌, ◌≤◌, ℕ, Bool, true, false, ◌==◌, nat_lt, List, [], ◌∷◌, Option, Some, None, refl, subst, inl, inr, arith}
use Rattle.std.specs.Prelude.{if◌then◌else◌}
use Rattle.std.proofs.lemmas.Bool.{eqb-true}
use Rattle.std.proofs.lemmas.Bool.Decides.{nat_tests}
use Rattle.mt_ports.specs.declared.status.Status.TheVariants.{Done}
use Rattle.mt_import.specs.declared.fault.ImportFault.{ImportFault}
use Rattle.mt_import.specs.declared.fault.Rival.{Rival}
use Rattle.mt_import.specs.declared.fault.Rival.TheVariants.{Line, CapabilityLine, RegisterLine}
use Rattle.mt_import.specs.declared.format.Choice.{Choice}
use Rattle.mt_import.specs.declared.shape.LastPair.{LastPair}
use Rattle.mt_import.specs.declared.shape.Reading.{Reading}
use Rattle.mt_import.specs.declared.shape.Slot.{Slot}
use Rattle.mt_import.specs.Shown.{is_auto}
use Rattle.mt_import.specs.Slot.{clashes, slot_with}
use Rattle.mt_import.specs.Supplied.{Supplied, supplied_value}
use Rattle.mt_import.specs.Outcome.{capabilities_shown, capability_rival, count_of, count_rival, counted, counts_fewer, ended, last_after, last_shown, least_count, uncounted_rival, unless}
use Rattle.mt_import.specs.Import.{log_outcome}
use Rattle.mt_import_laws.specs.Origins.{CountsPair, IsAmong, readings_of, seen_of}
use Rattle.mt_import_laws.proofs.Faults.{fault_of, fine_of, till_of}
use Rattle.mt_import_laws.proofs.Fine.{IsFine, tests_of_rival}

none_below : (capabilities : Option ℕ) → counts_fewer capabilities 0 ≡ false
none_below None = refl
none_below (Some value) = grind (arith, nat_tests)

fewer_below : (capabilities : Option ℕ) (m n : ℕ) → n ≤ m → counts_fewer capabilities m ≡ false → counts_fewer capabilities n ≡ false
fewer_below None m n less same = refl
fewer_below (Some value) m n less same = grind (arith, nat_tests, less, same)

-- the last pair is the reading's, or the one before
last_is : (capabilities : Option ℕ) (reading : Reading) (last : Option LastPair) → counts_fewer capabilities (least_count reading) ≡ false → counts_fewer capabilities (count_of last) ≡ false
    → counts_fewer capabilities (count_of (last_after reading last)) ≡ false
last_is capabilities reading last new old = by (nat_lt (count_of last) (least_count reading))
  where
    by : (test : Bool) → counts_fewer capabilities (count_of (if test then Some (record { count = least_count reading; line = reading.place.line }) else last)) ≡ false
    by true = new
    by false = old

-- ---- what follows where there is no rival

first_none : (fewer : Bool) (found : Rival) (others : Option Rival) → (if fewer then Some found else others) ≡ None → (fewer ≡ false) × (others ≡ None)
first_none true found others is = cc is
first_none false found others is = (refl, is)

last_counted : (capabilities : Option ℕ) (last : Option LastPair) → uncounted_rival capabilities last ≡ None → counts_fewer capabilities (count_of last) ≡ false
last_counted capabilities None none = none_below capabilities
last_counted capabilities (Some last) none = (first_none (counts_fewer capabilities last.count) (RegisterLine last.line) None none).0

no_pair : (reading : Reading) → reading.number ≡ 0xfe → least_count reading ≡ 0
no_pair reading number = rw number refl

module _ (capabilities : Slot) (last : Option LastPair) (reading : Reading) (none : count_rival capabilities last reading ≡ None) (old : counts_fewer (counted capabilities) (count_of last) ≡ false) where
  step : (test : Bool) → (reading.number == 0xfe) ≡ test → counts_fewer (counted (if test then slot_with capabilities reading else capabilities)) (count_of (last_after reading last)) ≡ false
  step true same =
      let number = eqb-true reading.number 0xfe same in
      let rest = (first_none (counts_fewer (counted capabilities) (least_count reading)) (CapabilityLine capabilities.line) (if reading.number == 0xfe then capability_rival capabilities last reading else None) none).1 in
      let found : capability_rival capabilities last reading ≡ None = rw same at rest in
      let inner = (first_none (clashes capabilities reading) (Line capabilities.line) (uncounted_rival (counted (slot_with capabilities reading)) last) found).1 in
      let kept = last_counted (counted (slot_with capabilities reading)) last inner in
      last_is (counted (slot_with capabilities reading)) reading last (rw (no_pair reading number) (none_below (counted (slot_with capabilities reading)))) kept
  step false apart =
      last_is (counted capabilities) reading last
      (first_none (counts_fewer (counted capabilities) (least_count reading)) (CapabilityLine capabilities.line) (if reading.number == 0xfe then capability_rival capabilities last reading else None) none).0 old

counts_all : (supplied : Supplied) (readings : List Reading) → IsFine supplied readings
    → (counts_fewer (counted (capabilities_shown readings)) (count_of (last_shown readings)) ≡ false) × (counts_fewer (supplied_value supplied 0xfe) (count_of (last_shown readings)) ≡ false)
counts_all supplied [] fine = (refl, none_below (supplied_value supplied 0xfe))
counts_all supplied (reading ∷ before) fine =
    let tests = tests_of_rival supplied before reading fine.0 in
    let both = counts_all supplied before fine.1 in
    (step (capabilities_shown before) (last_shown before) reading tests.2 both.0 (reading.number == 0xfe) refl, last_is (supplied_value supplied 0xfe) reading (last_shown before) tests.3 both.1)

most : (readings : List Reading) (a : Reading) → IsAmong a readings → least_count a ≤ count_of (last_shown readings)
most [] a among = absurd among
most (reading ∷ before) a among = by (most before a) (nat_lt (count_of (last_shown before)) (least_count reading)) refl among
  where
    by : (IsAmong a before → least_count a ≤ count_of (last_shown before)) → (test : Bool) → nat_lt (count_of (last_shown before)) (least_count reading) ≡ test → IsAmong a (reading ∷ before)
        → least_count a ≤ count_of (if test then Some (record { count = least_count reading; line = reading.place.line }) else last_shown before)
    by earlier true less (inl same) = subst (λ (r : Reading). least_count r ≤ least_count reading) same (omega arith)
    by earlier true less (inr later) = let e = earlier later in grind (arith, nat_tests, less, e)
    by earlier false less (inl same) = subst (λ (r : Reading). least_count r ≤ count_of (last_shown before)) same (grind (arith, nat_tests, less))
    by earlier false less (inr later) = earlier later

pub pairs_counted : (choice : Choice) (supplied : Supplied) (text : List ℕ) → (log_outcome choice supplied text).status ≡ Done → (a : Reading) → IsAmong a (readings_of choice text) → CountsPair supplied (readings_of choice text) a
pairs_counted choice supplied text done a among = by (fault_of choice supplied text) refl done
  where
    by : (fault : Option ImportFault) → fault_of choice supplied text ≡ fault → (unless fault (till_of choice supplied text) (ended (is_auto choice) supplied (seen_of choice text))).status ≡ Done → CountsPair supplied (readings_of choice text) a
    by (Some fault) is done = cc done
    by None is done =
        let both = counts_all supplied (readings_of choice text) (fine_of choice supplied text is) in
        let less = most (readings_of choice text) a among in
        record {
          shown = fewer_below (counted (capabilities_shown (readings_of choice text))) (count_of (last_shown (readings_of choice text))) (least_count a) less both.0;
          given = fewer_below (supplied_value supplied 0xfe) (count_of (last_shown (readings_of choice text))) (least_count a) less both.1;
        }
