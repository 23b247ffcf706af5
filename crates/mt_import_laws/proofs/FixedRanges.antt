-- Fixed ranges and a capability register without FIX contradict each other.
use Rattle.std.proofs.Common.{◌≡◌, ◌<◌, ◌/◌, ◌%◌, ℕ, Bool, true, false, ◌==◌, ◌&&◌, not, List, [], ◌∷◌, Option, Some, None, refl, sym, ◌∙◌, ap, subst, inl, inr, arith}
use Rattle.std.specs.Prelude.{if◌then◌else◌}
use Rattle.std.specs.Int.{bit_at}
use Rattle.std.proofs.lemmas.Bool.{eqb-true}
use Rattle.std.proofs.lemmas.Bool.Decides.{nat_tests}
use Rattle.std.proofs.lemmas.Nat.Bits.{bit_at-lt}
use Rattle.mt_kinds.specs.Bits.{is_bit_set}
use Rattle.mt_ports.specs.declared.status.Status.TheVariants.{BadText}
use Rattle.mt_import.specs.declared.fault.Rival.TheVariants.{CapabilityLine, CapabilityWord}
use Rattle.mt_import.specs.declared.format.Choice.{Choice}
use Rattle.mt_import.specs.declared.shape.Reading.{Reading}
use Rattle.mt_import.specs.declared.shape.Slot.{Slot}
use Rattle.mt_import.specs.Shown.{is_auto}
use Rattle.mt_import.specs.Supplied.{Supplied, supplied_value}
use Rattle.mt_import.specs.Outcome.{capabilities_shown, ended, fix_shown, fixless_rival, last_fixed_line, ranged_rival, shows_fixed, shows_no_fix}
use Rattle.mt_import.specs.Values.{lacks_fix}
use Rattle.mt_import.specs.Import.{log_outcome}
use Rattle.mt_import_laws.specs.Origins.{IsAmong, readings_of, seen_of}
use Rattle.mt_import_laws.proofs.Capabilities.{agreed}
use Rattle.mt_import_laws.proofs.Faults.{fault_of, faulty, fine_of, till_of}
use Rattle.mt_import_laws.proofs.Fine.{HasNoRival, IsFine}

-- ---- what the tests say

both_true : (a b : Bool) → (a && b) ≡ true → (a ≡ true) × (b ≡ true)
both_true true true is = (refl, refl)
both_true true false is = cc is
both_true false b is = cc is

not_true : (test : Bool) → not test ≡ true → test ≡ false
not_true true is = cc is
not_true false is = refl

not_one : (n : ℕ) → n < 2 → (n == 1) ≡ false → n ≡ 0
not_one n small is = grind (arith, nat_tests, small, is)

-- The reading shows FIX of the capability register, as clear.
record IsWithoutFix (b : Reading) : Type 0 where
  number : b.number ≡ 0xfe
  shown : bit_at b.bits 8 ≡ 1
  clear : bit_at b.value 8 ≡ 0

without_fix : (b : Reading) → shows_no_fix b ≡ true → IsWithoutFix b
without_fix b is =
    let outer = both_true (b.number == 0xfe && is_bit_set b.bits 8) (not (is_bit_set b.value 8)) is in
    let inner = both_true (b.number == 0xfe) (is_bit_set b.bits 8) outer.0 in
    record {
      number = eqb-true b.number 0xfe inner.0;
      shown = eqb-true (b.bits / 256 % 2) 1 inner.1;
      clear = not_one (b.value / 256 % 2) (bit_at-lt b.value 8) (not_true (is_bit_set b.value 8) outer.1);
    }

not_fixed : (b : Reading) → b.number ≡ 0xfe → shows_fixed b ≡ false
not_fixed b number = rw number refl

lacks : (slot : Slot) → bit_at slot.bits 8 ≡ 1 → bit_at slot.value 8 ≡ 0 → lacks_fix (fix_shown slot) ≡ true
lacks slot one none =
    let set : is_bit_set slot.bits 8 ≡ true = let e : slot.bits / 256 % 2 ≡ 1 = one in rw e refl in
    let clear : is_bit_set slot.value 8 ≡ false = let e : slot.value / 256 % 2 ≡ 0 = none in rw e refl in
    rw (set, clear) refl

lacking : (word line : Bool) (at : ℕ) → (if word then Some CapabilityWord else if line then Some (CapabilityLine at) else None) ≡ None → (word ≡ false) × (line ≡ false)
lacking true line at is = cc is
lacking false true at is = cc is
lacking false false at is = (refl, refl)

no_line : (last : Option ℕ) → ranged_rival last ≡ None → last ≡ None
no_line None is = refl
no_line (Some line) is = cc is

-- a fixed-range register is remembered
remembered : (readings : List Reading) (a : Reading) → IsAmong a readings → shows_fixed a ≡ true → last_fixed_line readings ≡ None → ⊥
remembered [] a among fixed none = absurd among
remembered (r ∷ before) a among fixed none = by (shows_fixed r) refl among (λ later rest. remembered before a later fixed rest)
  where
    by : (test : Bool) → shows_fixed r ≡ test → IsAmong a (r ∷ before) → (IsAmong a before → last_fixed_line before ≡ None → ⊥) → ⊥
    by true is found below = let e : Some r.place.line ≡ None = rw is at none in cc e
    by false is (inl same) below = let e : false ≡ true = sym is ∙ ap (λ (x : Reading). shows_fixed x) same ∙ fixed in cc e
    by false is (inr later) below = below later (rw is at none)

-- ---- in one order and in the other

module _ (supplied : Supplied) (before : List Reading) where
  rivals : (a : Reading) → HasNoRival supplied before a → shows_fixed a ≡ true
      → (lacks_fix (supplied_value supplied 0xfe) ≡ false) × (lacks_fix (fix_shown (capabilities_shown before)) ≡ false)
  rivals a none fixed =
      let found : fixless_rival (supplied_value supplied 0xfe) (capabilities_shown before) ≡ None = let e = none.fixed_is in rw fixed at e in
      lacking (lacks_fix (supplied_value supplied 0xfe)) (lacks_fix (fix_shown (capabilities_shown before))) (capabilities_shown before).line found

  fixed_behind : (a b : Reading) → HasNoRival supplied before a → IsFine supplied before → IsAmong b before → shows_fixed a ≡ true → shows_no_fix b ≡ true → ⊥
  fixed_behind a b none fine earlier fixed clear =
      let parts = without_fix b clear in
      let has = agreed supplied before b 8 fine earlier parts.number parts.shown in
      let e : false ≡ true = sym (rivals a none fixed).1 ∙ lacks (capabilities_shown before) has.shown (has.value ∙ parts.clear) in
      cc e

  clear_behind : (a b : Reading) → HasNoRival supplied before b → IsAmong a before → shows_fixed a ≡ true → shows_no_fix b ≡ true → ⊥
  clear_behind a b none earlier fixed clear =
      let other = not_fixed b (without_fix b clear).number in
      let found : ranged_rival (last_fixed_line before) ≡ None = let e = none.fixed_is in rw (other, clear) at e in
      remembered before a earlier fixed (no_line (last_fixed_line before) found)

never_both : (supplied : Supplied) (readings : List Reading) (a b : Reading) → IsFine supplied readings → IsAmong a readings → IsAmong b readings → shows_fixed a ≡ true → shows_no_fix b ≡ true → ⊥
never_both supplied [] a b fine has_a has_b fixed clear = absurd has_a
never_both supplied (r ∷ before) a b fine has_a has_b fixed clear = by has_a has_b (λ one two. never_both supplied before a b fine.1 one two fixed clear)
  where
    by : IsAmong a (r ∷ before) → IsAmong b (r ∷ before) → (IsAmong a before → IsAmong b before → ⊥) → ⊥
    by (inl one) (inl two) below =
        let e : false ≡ true = sym (not_fixed b (without_fix b clear).number) ∙ sym (ap (λ (x : Reading). shows_fixed x) two) ∙ ap (λ (x : Reading). shows_fixed x) one ∙ fixed in cc e
    by (inl one) (inr earlier) below = fixed_behind supplied before a b (subst (HasNoRival supplied before) one fine.0) fine.1 earlier fixed clear
    by (inr earlier) (inl two) below = clear_behind supplied before a b (subst (HasNoRival supplied before) two fine.0) earlier fixed clear
    by (inr one) (inr two) below = below one two

word_has : (supplied : Supplied) (readings : List Reading) (a : Reading) → IsFine supplied readings → IsAmong a readings → shows_fixed a ≡ true → lacks_fix (supplied_value supplied 0xfe) ≡ false
word_has supplied [] a fine among fixed = absurd among
word_has supplied (r ∷ before) a fine (inl same) fixed = (rivals supplied before a (subst (HasNoRival supplied before) same fine.0) fixed).0
word_has supplied (r ∷ before) a fine (inr earlier) fixed = word_has supplied before a fine.1 earlier fixed

pub fixed_contradictions : (choice : Choice) (supplied : Supplied) (text : List ℕ) (a b : Reading) → IsAmong a (readings_of choice text) → IsAmong b (readings_of choice text)
    → shows_fixed a ≡ true → shows_no_fix b ≡ true → (log_outcome choice supplied text).status ≡ BadText
fixed_contradictions choice supplied text a b has_a has_b fixed clear =
    faulty (fault_of choice supplied text) (till_of choice supplied text) (ended (is_auto choice) supplied (seen_of choice text)) (λ none.
    never_both supplied (readings_of choice text) a b (fine_of choice supplied text none) has_a has_b fixed clear)

pub fixed_word_contradictions : (choice : Choice) (supplied : Supplied) (text : List ℕ) (a : Reading) (word : ℕ) → IsAmong a (readings_of choice text)
    → shows_fixed a ≡ true → supplied_value supplied 0xfe ≡ Some word → is_bit_set word 8 ≡ false → (log_outcome choice supplied text).status ≡ BadText
fixed_word_contradictions choice supplied text a word has fixed given clear =
    faulty (fault_of choice supplied text) (till_of choice supplied text) (ended (is_auto choice) supplied (seen_of choice text)) (λ none.
    let lacks_it : lacks_fix (supplied_value supplied 0xfe) ≡ true = rw (given, clear) refl in
    let e : false ≡ true = sym (word_has supplied (readings_of choice text) a (fine_of choice supplied text none) has fixed) ∙ lacks_it in
    cc e)
